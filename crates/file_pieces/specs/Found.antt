-- Ranges of file bytes and of addresses, and what is found in the segments of an image.
use Rattle.std.specs.Prelude.{ℕ, ◌≤◌, ◌+◌, ◌-◌, ◌==◌, Bool, List, [], ◌∷◌, not, ◌&&◌, ◌||◌, nat_le, nat_lt, find, take, drop, Option, Some, None, if◌then◌else◌, option_and_then}
use Rattle.std.specs.List.{list_any}
use Rattle.std.specs.Option.{option_map, option_map_or}
use Rattle.memory_map.specs.Range.{Range, end_of, holds}
use Rattle.memory_map.specs.Name.{is_name}

-- whether a range of file bytes passes the end of a file that has so many
abbrev pub passes_end : ℕ → ℕ → ℕ → Bool
passes_end total offset size = not (size == 0) && nat_lt total (offset + size)

-- the n addresses from one on are all in a range
pub record IsHeld (a n : ℕ) (r : Range) : Type 0 where
  pub above : r.low ≤ a
  pub below : a + n ≤ end_of r

-- whether they are all in one range of a list; where n is 0 they are. Mapped ranges end below 2^32, so addresses that pass it are in none.
abbrev pub is_in_one : List Range → ℕ → ℕ → Bool
is_in_one ranges a n = n == 0 || list_any (holds a n) ranges

-- the bytes at these addresses, where all are in one range
unfoldable pub bytes_at : List Range → ℕ → ℕ → Option (List ℕ)
bytes_at ranges a n = if n == 0 then Some [] else option_map (λ r. take n (drop (a - r.low) r.bytes)) (find (holds a n) ranges)

-- the bytes from an address to the end of the range that has it
unfoldable pub rest_at : List Range → ℕ → List ℕ
rest_at ranges a = option_map_or (λ r. drop (a - r.low) r.bytes) (find (holds a 1) ranges) []

-- the bytes before the first 0, where there is one
unfoldable pub text_of : List ℕ → Option (List ℕ)
text_of [] = None
text_of (b ∷ bytes) = if b == 0 then Some [] else option_map (λ text. b ∷ text) (text_of bytes)

-- a text that is the name of an import
abbrev pub name_of : Option (List ℕ) → Option (List ℕ)
name_of text = option_and_then (λ name. if is_name name then Some name else None) text

-- the name that begins at an address: a text that is the name of an import, with a 0 after it, all within so many bytes and within one range
abbrev pub name_from : List Range → ℕ → ℕ → Option (List ℕ)
name_from ranges a most = name_of (text_of (take most (rest_at ranges a)))
