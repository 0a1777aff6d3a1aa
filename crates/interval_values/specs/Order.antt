-- The order of intervals, and how they are raised.
use Rattle.std.specs.Prelude.{ℕ, ◌+◌, ◌-◌, ◌%◌, ℤ, pos, ◌+ℤ◌, ◌-ℤ◌, Bool, true, false, ◌&&◌, ◌==◌, nat_lt, nat_le, int_le, if◌then◌else◌}
use Rattle.std.specs.Ordering.{int_eq}
use Rattle.address_regions.specs.declared.region.Region.{Region}
use Rattle.address_regions.specs.Extents.{has_room, is_inside, low_of, high_of}
use Rattle.address_regions.specs.Same.{same_region}
use Rattle.interval_values.specs.declared.value.NumberSpan.{NumberSpan}
use Rattle.interval_values.specs.declared.value.OffsetSpan.{OffsetSpan}
use Rattle.interval_values.specs.declared.value.Interval.{Interval}
use Rattle.interval_values.specs.declared.value.Interval.TheVariants.{Numbers, Offsets, Any}
use Rattle.interval_values.specs.Forms.{is_multiple, distance}
use Rattle.interval_values.specs.Spans.{span, place_span, interval_inside}

-- ---- the order

-- every number of m is one of n: m lies between n's bounds, and n's stride divides the distance of the low bounds and m's stride
abbrev pub is_part : NumberSpan → NumberSpan → Bool
is_part m n =
    nat_le n.low m.low && (nat_le m.high n.high && (is_multiple (m.low - n.low) n.stride && is_multiple m.stride n.stride))

-- the bounds of the first offsets lie between those of the second
abbrev pub is_between : OffsetSpan → OffsetSpan → Bool
is_between m n = int_le n.low m.low && int_le m.high n.high

abbrev pub is_place_part : OffsetSpan → OffsetSpan → Bool
is_place_part m n = is_between m n && (is_multiple (distance n.low m.low) n.stride && is_multiple m.stride n.stride)

abbrev pub interval_leq : Interval → Interval → Bool
interval_leq a Any = true
interval_leq (Numbers m) (Numbers n) = is_part m n
interval_leq (Offsets m) (Offsets n) = same_region m.region n.region && is_place_part m n
interval_leq (Numbers m) (Offsets n) = false
interval_leq (Offsets m) (Numbers n) = false
interval_leq Any (Numbers n) = false
interval_leq Any (Offsets n) = false

-- ---- the rank

-- all numbers below 65,536
abbrev pub is_all_low : NumberSpan → Bool
is_all_low m = m.low == 0 && (m.high == 65535 && m.stride == 1)

-- the bounds are the least and the greatest offset of four bytes
abbrev pub has_inner_bounds : OffsetSpan → Bool
has_inner_bounds m = int_eq m.low (low_of m.region) && int_eq m.high (high_of m.region -ℤ pos 4)

-- all offsets of four bytes in a region with room
abbrev pub is_all_inside : OffsetSpan → Bool
is_all_inside m = has_room m.region && (has_inner_bounds m && m.stride == 1)

-- 3 for one member, else 1 for all of these and 2 for any others
abbrev pub rank_of : Bool → Bool → ℕ
rank_of one all = if one then 3 else (if all then 1 else 2)

abbrev pub interval_rank : Interval → ℕ
interval_rank (Numbers m) = rank_of (m.low == m.high) (is_all_low m)
interval_rank (Offsets m) = rank_of (int_eq m.low m.high) (is_all_inside m)
interval_rank Any = 0

-- ---- raising

-- one number below 65,536 to those of them that are equal to it modulo 4
abbrev pub raise_number : ℕ → Interval
raise_number n = if nat_lt n 65536 then span (n % 4) (n % 4 + 65532) 4 else Any

-- several numbers below 65,536 to all of them, and these to any
abbrev pub raise_numbers : NumberSpan → Interval
raise_numbers m = if is_all_low m then Any else (if nat_le m.high 65535 then span 0 65535 1 else Any)

-- the least and the greatest offset of four bytes in a region that is equal to o modulo 4
abbrev pub least_equal : Region → ℤ → ℤ
least_equal r o = low_of r +ℤ pos (distance (low_of r) o % 4)

abbrev pub greatest_equal : Region → ℤ → ℤ
greatest_equal r o = high_of r -ℤ pos 4 -ℤ pos (distance o (high_of r -ℤ pos 4) % 4)

-- all offsets of four bytes in a region, where there are two
abbrev pub raise_to_inside : Region → Interval
raise_to_inside r = if int_eq (low_of r) (high_of r -ℤ pos 4) then Any else interval_inside r

-- one offset of four bytes to those that are equal to it modulo 4 where there are two, and else to all
abbrev pub raise_offset : Region → ℤ → Interval
raise_offset r o =
    if is_inside r o
    then (if int_eq (least_equal r o) (greatest_equal r o) then raise_to_inside r else place_span r (least_equal r o) (greatest_equal r o) 4)
    else Any

-- several offsets of four bytes to all of them, and these to any
abbrev pub raise_offsets : OffsetSpan → Interval
raise_offsets m =
    if is_all_inside m then Any else (if is_inside m.region m.low && is_inside m.region m.high then interval_inside m.region else Any)

abbrev pub interval_raise : Interval → Interval
interval_raise (Numbers m) = if m.low == m.high then raise_number m.low else raise_numbers m
interval_raise (Offsets m) = if int_eq m.low m.high then raise_offset m.region m.low else raise_offsets m
interval_raise Any = Any
