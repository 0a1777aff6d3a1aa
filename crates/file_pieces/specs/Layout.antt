-- What the pieces of a file map: bytes of the file, and zeros after them.
use Rattle.std.specs.Prelude.{◌≡◌, ℕ, ◌+◌, ◌-◌, ◌<◌, ◌≤◌, ◌^◌, ◌==◌, Bool, false, List, ◌++◌, not, length, map, filter, replicate, slice_range}
use Rattle.memory_map.specs.Range.{Range}
use Rattle.memory_map.specs.Map.{has_right, may_write_bit, may_execute_bit}
use Rattle.file_pieces.specs.Found.{passes_end}
use Rattle.file_pieces.specs.declared.piece.Piece.{Piece}

-- the range that a piece maps, with these bytes
abbrev pub range_with : List ℕ → Piece → Range
range_with held p = record { low = p.address; bytes = held; write = has_right p.perm may_write_bit; execute = has_right p.perm may_execute_bit }

-- the bytes that a piece of a file maps
abbrev pub bytes_of : List ℕ → Piece → List ℕ
bytes_of file p = slice_range file p.offset (p.offset + p.file_size) ++ replicate (p.size - p.file_size) 0

abbrev pub range_of_piece : List ℕ → Piece → Range
range_of_piece file p = range_with (bytes_of file p) p

-- whether a piece maps anything
abbrev pub is_mapped : Piece → Bool
is_mapped p = not (p.size == 0)

-- the ranges that pieces map, in order; an empty piece maps nothing
abbrev pub layout : List ℕ → List Piece → List Range
layout file pieces = map (range_of_piece file) (filter is_mapped pieces)

-- a sum of a piece's address and its size is a number of 64 bits
pub record HasAddress (p : Piece) : Type 0 where
  pub address : p.address < 2 ^ 63

-- a piece's file bytes are bytes of the file, and no more than it maps
pub record IsPiece (file : List ℕ) (p : Piece) : Type 0 where
  pub address : p.address < 2 ^ 63
  pub within : p.file_size ≤ p.size
  pub inside : passes_end (length file) p.offset p.file_size ≡ false

-- the range of a piece before its bytes are there
abbrev pub extent : Piece → Range
extent p = range_with (replicate p.size 0) p
