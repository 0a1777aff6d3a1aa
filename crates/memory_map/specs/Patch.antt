-- Words that are put into ranges.
use Rattle.std.specs.Prelude.{ℕ, ◌+◌, ◌-◌, List, ◌++◌, take, drop, map, if◌then◌else◌}
use Rattle.std.specs.Int.{w32, to_le_bytes}
use Rattle.memory_map.specs.Range.{Range, holds}

-- bytes with a word at a place, its lowest byte first
abbrev pub with_word : List ℕ → ℕ → ℕ → List ℕ
with_word bytes at word = take at bytes ++ to_le_bytes w32 word ++ drop (at + 4) bytes

-- a range with a word at an address, where all four bytes are in it
abbrev pub patched : ℕ → ℕ → Range → Range
patched a word r = if holds a 4 r then record r { bytes = with_word r.bytes (a - r.low) word } else r

-- ranges with a word at an address, in the range that has all four bytes
abbrev pub put_word : ℕ → ℕ → List Range → List Range
put_word a word ranges = map (patched a word) ranges
