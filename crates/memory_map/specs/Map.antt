-- What a list of segments maps, and which lists may be mapped.
use Rattle.std.specs.Prelude.{◌≡◌, ℕ, ◌+◌, ◌<◌, ◌≤◌, ◌^◌, Bool, true, List, [], ◌∷◌, ◌&&◌, ◌||◌, not, length, Option, None, Some, nat_le, nat_lt, filter, sum_by, All, AllPairs, if◌then◌else◌, ◌==◌, bit_and, max, min}
use Rattle.std.specs.List.{list_all, list_any}
use Rattle.memory_map.specs.Range.{Range, USER_LOW, USER_END, end_of, has, IsInUserSpace, AreApart, HasBytes}
use Rattle.memory_map.specs.declared.perm.Perm.{Perm}
use Rattle.memory_map.specs.declared.segment.Segment.{Segment}
use Rattle.memory_map.specs.declared.fault.MapFault.{MapFault}
use Rattle.memory_map.specs.declared.fault.MapFault.TheVariants.{OutOfRange, Overlap, TooLarge}

-- the rights of a `Perm`
abbrev pub may_write_bit : ℕ
may_write_bit = 2

abbrev pub may_execute_bit : ℕ
may_execute_bit = 4

abbrev pub has_right : Perm → ℕ → Bool
has_right perm right = bit_and perm.0 right == right

-- a segment as a range of the machine's memory
abbrev pub range_of : Segment → Range
range_of s = record { low = s.low; bytes = s.bytes; write = has_right s.perm may_write_bit; execute = has_right s.perm may_execute_bit }

-- the most bytes that an image may map
abbrev pub MAPPED_LIMIT : ℕ
MAPPED_LIMIT = 67108864

-- whether a segment maps anything
abbrev pub maps_some : Segment → Bool
maps_some s = not (length s.bytes == 0)

-- the segments of a list that map anything, in its order
abbrev pub mapped : List Segment → List Segment
mapped list = filter maps_some list

abbrev pub is_in_user_space : Range → Bool
is_in_user_space r = nat_le USER_LOW r.low && nat_le (end_of r) USER_END

-- whether no address is in both
abbrev pub are_apart : Range → Range → Bool
are_apart r s = nat_le (end_of r) s.low || nat_le (end_of s) r.low

-- whether no address is in two of them
unfoldable pub all_apart : List Range → Bool
all_apart [] = true
all_apart (r ∷ rs) = list_all (are_apart r) rs && all_apart rs

-- how many bytes are mapped
abbrev pub total_size : List Range → ℕ
total_size ranges = sum_by (λ r. length r.bytes) ranges

-- the first fault of ranges that are not empty: one leaves the space where a program's memory may lie, two share a byte, or they are too large together
unfoldable pub map_fault : List Range → Option MapFault
map_fault ranges =
    if not (list_all is_in_user_space ranges) then Some OutOfRange
    else if not (all_apart ranges) then Some Overlap
    else if nat_lt MAPPED_LIMIT (total_size ranges) then Some TooLarge
    else None

-- a range has some byte
abbrev pub HasSome : Range → Type 0
HasSome r = 0 < length r.bytes

-- what the ranges of an image keep
pub record IsMap (ranges : List Range) : Type 0 where
  pub some : All HasSome ranges
  pub inside : All IsInUserSpace ranges
  pub apart : AllPairs AreApart ranges
  pub bytes : All HasBytes ranges
  pub size : total_size ranges ≤ MAPPED_LIMIT

-- whether an access with these rights may touch a byte of a range; every mapped byte may be read
abbrev pub permits : Perm → Range → Bool
permits perm r = (not (has_right perm may_write_bit) || r.write) && (not (has_right perm may_execute_bit) || r.execute)

-- whether a byte that may be written is among the addresses from one up to another
abbrev pub may_write_between : ℕ → ℕ → Range → Bool
may_write_between from end r = r.write && nat_lt (max from r.low) (min end (end_of r))

-- whether an access with these rights may touch the byte at an address
abbrev pub is_allowed : List Range → Perm → ℕ → Bool
is_allowed ranges perm a = list_any (λ r. has a r && permits perm r) ranges

-- each of the n bytes from an address on may be touched, and lies below 2^32
pub record Allows (ranges : List Range) (a n : ℕ) (perm : Perm) : Type 0 where
  pub below : a + n ≤ 2 ^ 32
  pub each : (i : ℕ) → i < n → is_allowed ranges perm (a + i) ≡ true

-- the same from one address up to another
pub record AreAllowed (ranges : List Range) (perm : Perm) (from end : ℕ) : Type 0 where
  pub each : (b : ℕ) → from ≤ b → b < end → is_allowed ranges perm b ≡ true
