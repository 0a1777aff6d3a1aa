-- The memory of a machine, and an index that finds its ranges by their addresses.
use Rattle.std.specs.Prelude.{ℕ, ◌≡◌, ◌<◌, ◌≤◌, Bool, false, ◌&&◌, ◌||◌, List, [], length, slice_index, slice_index_or, All, AllPairs, nat_le, nat_lt}
use Rattle.std.specs.List.{list_all}
use Rattle.memory_map.specs.Map.{is_in_user_space}
use Rattle.memory_map.specs.Range.{AreApart, IsInUserSpace, Range, end_of}

-- ranges lie where a program's memory may, and share no address
pub record IsMemory (ranges : List Range) : Type 0 where
  pub inside : All IsInUserSpace ranges
  pub apart : AllPairs AreApart ranges

-- no addresses
abbrev pub nowhere : Range
nowhere = record { low = 0; bytes = []; write = false; execute = false }

-- the range at a place of a list
abbrev pub range_at : List Range → ℕ → Range
range_at ranges p = slice_index_or ranges p nowhere

-- a place stands in an index
pub record IsListed (order : List ℕ) (p : ℕ) : Type 0 where
  pub k : ℕ
  pub below : k < length order
  pub is : slice_index order k ≡ p

-- an index has each place of a list, in the order of the ranges' addresses
pub record IsIndex (ranges : List Range) (order : List ℕ) : Type 0 where
  pub within : (k : ℕ) → k < length order → slice_index order k < length ranges
  pub ascending : (j k : ℕ) → j < k → k < length order → end_of (range_at ranges (slice_index order j)) ≤ (range_at ranges (slice_index order k)).low
  pub each : (p : ℕ) → p < length ranges → IsListed order p

-- memory with its index
pub record IsIndexed (ranges : List Range) (order : List ℕ) : Type 0 where
  pub memory : IsMemory ranges
  pub index : IsIndex ranges order

-- whether a range has no address from one up to another
abbrev pub is_clear : ℕ → ℕ → Range → Bool
is_clear low end r = nat_le end r.low || nat_le (end_of r) low

-- whether a range may be mapped beside others: it has a byte, lies where a program's memory may, and shares no address with them
abbrev pub may_map : List Range → Range → Bool
may_map ranges r = nat_lt 0 (length r.bytes) && (is_in_user_space r && list_all (is_clear r.low (end_of r)) ranges)

-- so many places of an index are those of the ranges that begin at or below an address
pub record IsRank (ranges : List Range) (order : List ℕ) (a k : ℕ) : Type 0 where
  pub within : k ≤ length order
  pub below : (j : ℕ) → j < k → (range_at ranges (slice_index order j)).low ≤ a
  pub above : (j : ℕ) → k ≤ j → j < length order → a < (range_at ranges (slice_index order j)).low

-- a range of a list has an address
pub record IsPlaced (ranges : List Range) (a p : ℕ) : Type 0 where
  pub within : p < length ranges
  pub low : (range_at ranges p).low ≤ a
  pub end : a < end_of (range_at ranges p)
