-- Numbers in the bytes of a file: ELF with data encoding 1 and PE/COFF both have the lowest byte first.
use Rattle.std.specs.Prelude.{ℕ, ◌+◌, ◌*◌, List, slice_index}

-- the number of two bytes at a place
abbrev pub half_at : List ℕ → ℕ → ℕ
half_at bytes at = slice_index bytes at + 256 * slice_index bytes (at + 1)

-- the number of four bytes at a place
abbrev pub word_at : List ℕ → ℕ → ℕ
word_at bytes at = slice_index bytes at + 256 * slice_index bytes (at + 1) + 65536 * slice_index bytes (at + 2) + 16777216 * slice_index bytes (at + 3)
