-- Mapped ranges of addresses, and what is found there. The segments of an image and the memory of a running machine are lists of these.
use Rattle.std.specs.Prelude.{ℕ, zero, suc, ◌+◌, ◌-◌, ◌<◌, ◌≤◌, ◌⊎◌, Bool, List, [], ◌∷◌, ◌&&◌, length, Option, None, Some, nat_le, nat_lt, slice_get, is_some, find, filter, option_and_then, All}
use Rattle.std.specs.List.{list_all, list_any, range_with_len}

-- nothing is ever mapped below the first of these addresses, nor from the second on
abbrev pub USER_LOW : ℕ
USER_LOW = 4096

abbrev pub USER_END : ℕ
USER_END = 0xF0000000

-- the bytes from `low` on, and whether they may be written and executed; every mapped byte may be read
pub record Range : Type 0 where
  pub low : ℕ
  pub bytes : List ℕ
  pub write : Bool
  pub execute : Bool

-- the address after the last one
abbrev pub end_of : Range → ℕ
end_of r = r.low + length r.bytes

abbrev pub has : ℕ → Range → Bool
has a r = nat_le r.low a && nat_lt a (end_of r)

-- whether the n addresses from one on are all in a range
abbrev pub holds : ℕ → ℕ → Range → Bool
holds a n r = nat_le r.low a && nat_le (a + n) (end_of r)

-- the byte at an address, where one is mapped
unfoldable pub byte_at : List Range → ℕ → Option ℕ
byte_at ranges a = option_and_then (λ r. slice_get r.bytes (a - r.low)) (find (has a) ranges)

-- the byte at an address, where one is mapped that may be executed
unfoldable pub code_at : List Range → ℕ → Option ℕ
code_at ranges a = byte_at (filter (λ r. r.execute) ranges) a

-- whether a byte that may be written is mapped at an address
unfoldable pub may_write : List Range → ℕ → Bool
may_write ranges a = is_some (byte_at (filter (λ r. r.write) ranges) a)

-- whether each of n bytes from an address on is mapped; no bytes are
abbrev pub maps_all : List Range → ℕ → ℕ → Bool
maps_all ranges a n = list_all (λ b. is_some (byte_at ranges b)) (range_with_len a n)

-- whether each of n bytes from an address on may be written
abbrev pub may_write_each : List Range → ℕ → ℕ → Bool
may_write_each ranges a n = list_all (may_write ranges) (range_with_len a n)

-- whether some of n bytes from an address on may be written
abbrev pub may_write_any : List Range → ℕ → ℕ → Bool
may_write_any ranges a n = list_any (may_write ranges) (range_with_len a n)

-- a byte before others, or nothing at all where there is no byte
abbrev pub cons_or_end : Option ℕ → List ℕ → List ℕ
cons_or_end None rest = []
cons_or_end (Some b) rest = b ∷ rest

-- the bytes that a look-up gives from an address on, one after another, `count` of them at most
unfoldable pub run_of : (ℕ → Option ℕ) → ℕ → ℕ → List ℕ
run_of look zero a = []
run_of look (suc count) a = cons_or_end (look a) (run_of look count (a + 1))

-- the longest instruction (manual, volume 2, section 2.3.11)
abbrev pub LONGEST_INSTRUCTION : ℕ
LONGEST_INSTRUCTION = 15

-- the executable bytes from an address on, one after another, as many as an instruction may have
unfoldable pub code_run : List Range → ℕ → List ℕ
code_run ranges a = run_of (code_at ranges) LONGEST_INSTRUCTION a

-- a range without its bytes
pub record Mapping : Type 0 where
  pub low : ℕ
  pub size : ℕ
  pub write : Bool
  pub execute : Bool

abbrev pub mapping_of : Range → Mapping
mapping_of r = record { low = r.low; size = length r.bytes; write = r.write; execute = r.execute }

-- no address is in both
abbrev pub AreApart : Range → Range → Type 0
AreApart r s = (end_of r ≤ s.low) ⊎ (end_of s ≤ r.low)

-- it lies where a program's memory may
pub record IsInUserSpace (r : Range) : Type 0 where
  pub above : USER_LOW ≤ r.low
  pub below : end_of r ≤ USER_END

-- each of its bytes is one
abbrev pub HasBytes : Range → Type 0
HasBytes r = All (λ b. b < 256) r.bytes
