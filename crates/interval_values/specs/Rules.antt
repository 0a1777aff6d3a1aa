-- The rules of eval on intervals, each None where it does not apply.
use Rattle.std.specs.Prelude.{ℕ, ◌+◌, ◌-◌, ◌*◌, ◌/◌, ◌%◌, ◌^◌, ℤ, ◌+ℤ◌, ◌-ℤ◌, Bool, ◌&&◌, ◌||◌, ◌==◌, nat_lt, nat_le, int_le, int_lt, Option, Some, None, unwrap_or, if◌then◌else◌}
use Rattle.std.specs.Option.{option_or}
use Rattle.std.specs.Ordering.{int_eq}
use Rattle.bit_words.specs.declared.op.Op.{Op}
use Rattle.bit_words.specs.declared.op.Op.TheVariants.{Add, Sub, And, Shl, Shr, Eq, Ult, Low8, Low16}
use Rattle.bit_words.specs.declared.width.Width.{Width}
use Rattle.bit_words.specs.declared.width.Width.TheVariants.{B32}
use Rattle.bit_words.specs.Width.{signed_of, word_of}
use Rattle.address_regions.specs.declared.region.Region.TheVariants.{Stack}
use Rattle.address_regions.specs.Extents.{has_one_base, is_in_extent}
use Rattle.address_regions.specs.Same.{same_region}
use Rattle.domain_laws.specs.Rules.{settled, or_settled}
use Rattle.bounded_values.specs.Rules.{offset_up, offset_down, unit_of, is_stack_mask, rounded_down, is_outside}
use Rattle.interval_values.specs.declared.value.NumberSpan.{NumberSpan}
use Rattle.interval_values.specs.declared.value.OffsetSpan.{OffsetSpan}
use Rattle.interval_values.specs.declared.value.Interval.{Interval}
use Rattle.interval_values.specs.declared.value.Interval.TheVariants.{Numbers, Offsets, Any}
use Rattle.interval_values.specs.Forms.{distance}
use Rattle.interval_values.specs.Divisors.{gcd}
use Rattle.interval_values.specs.Spans.{span, place_span, interval_number, interval_place}
use Rattle.interval_values.specs.Stands.{interval_number_of}

-- ---- 2. sums and differences of numbers, at 32 bits: all of them with a carry or all without

-- where every sum is below 2 ^ 32 or none is: from the least to the greatest, modulo 2 ^ 32
abbrev pub sums : NumberSpan → NumberSpan → Option Interval
sums m n =
    if nat_lt (m.high + n.high) (2 ^ 32) || nat_le (2 ^ 32) (m.low + n.low)
    then Some (span ((m.low + n.low) % 2 ^ 32) ((m.high + n.high) % 2 ^ 32) (gcd m.stride n.stride))
    else None

-- where no difference is below 0 or every one is: from the least to the greatest, modulo 2 ^ 32
abbrev pub differences : NumberSpan → NumberSpan → Option Interval
differences m n =
    if nat_le n.high m.low || nat_lt m.high n.low
    then Some (span ((m.low + (2 ^ 32 - n.high)) % 2 ^ 32) ((m.high + (2 ^ 32 - n.low)) % 2 ^ 32) (gcd m.stride n.stride))
    else None

abbrev pub of_numbers : Op → Width → Interval → Interval → Option Interval
of_numbers Add B32 (Numbers m) (Numbers n) = sums m n
of_numbers Sub B32 (Numbers m) (Numbers n) = differences m n
of_numbers op w a b = None

-- ---- 3. offsets plus or less numbers, at 32 bits

-- the bounds of numbers as signed ones, where all are below 2 ^ 31, or none is and all are taken less 2 ^ 32
abbrev pub signed_bounds : NumberSpan → Option (ℤ × ℤ)
signed_bounds n =
    if nat_lt n.high (2 ^ 31) || nat_le (2 ^ 31) n.low then Some (signed_of B32 n.low, signed_of B32 n.high) else None

-- one offset and one number
abbrev pub are_one : OffsetSpan → NumberSpan → Bool
are_one m n = int_eq m.low m.high && n.low == n.high

-- from the least to the greatest; any, where one of these is no signed number of 32 bits
abbrev pub spread_up : OffsetSpan → NumberSpan → Option (ℤ × ℤ) → Option Interval
spread_up m n (Some (low, high)) = Some (place_span m.region (m.low +ℤ low) (m.high +ℤ high) (gcd m.stride n.stride))
spread_up m n None = None

abbrev pub spread_down : OffsetSpan → NumberSpan → Option (ℤ × ℤ) → Option Interval
spread_down m n (Some (low, high)) = Some (place_span m.region (m.low -ℤ high) (m.high -ℤ low) (gcd m.stride n.stride))
spread_down m n None = None

-- one offset moved by one number is wrapped to a signed number of 32 bits
abbrev pub moved_up : OffsetSpan → NumberSpan → Option Interval
moved_up m n = if are_one m n then Some (interval_place m.region (offset_up m.low n.low)) else spread_up m n (signed_bounds n)

abbrev pub moved_down : OffsetSpan → NumberSpan → Option Interval
moved_down m n = if are_one m n then Some (interval_place m.region (offset_down m.low n.low)) else spread_down m n (signed_bounds n)

abbrev pub of_offsets_and_numbers : Op → Width → Interval → Interval → Option Interval
of_offsets_and_numbers Add B32 (Offsets m) (Numbers n) = moved_up m n
of_offsets_and_numbers Add B32 (Numbers n) (Offsets m) = moved_up m n
of_offsets_and_numbers Sub B32 (Offsets m) (Numbers n) = moved_down m n
of_offsets_and_numbers op w a b = None

-- ---- 4. two offsets from the one base of their region, at 32 bits

-- one difference, and else from the least to the greatest where none is negative
abbrev pub offset_differences : OffsetSpan → OffsetSpan → Option Interval
offset_differences m n =
    if int_eq m.low m.high && int_eq n.low n.high
    then Some (interval_number (word_of B32 (m.low -ℤ n.low)))
    else (if int_le n.high m.low then Some (span (distance n.high m.low) (distance n.low m.high) (gcd m.stride n.stride)) else None)

-- 1 for one offset twice, and 0 where the bounds do not meet
abbrev pub equal_offsets : OffsetSpan → OffsetSpan → Option Interval
equal_offsets m n =
    if int_eq m.low m.high && (int_eq n.low n.high && int_eq m.low n.low)
    then Some (interval_number 1)
    else (if int_lt m.high n.low || int_lt n.high m.low then Some (interval_number 0) else None)

abbrev pub have_one_base : OffsetSpan → OffsetSpan → Bool
have_one_base m n = same_region m.region n.region && has_one_base m.region

abbrev pub of_offsets : Op → Width → Interval → Interval → Option Interval
of_offsets Sub B32 (Offsets m) (Offsets n) = if have_one_base m n then offset_differences m n else None
of_offsets Eq B32 (Offsets m) (Offsets n) = if have_one_base m n then equal_offsets m n else None
of_offsets op w a b = None

-- ---- 5. one number and offsets, at 32 bits

-- one stack offset under an alignment mask, rounded down
abbrev pub aligned_offset : OffsetSpan → Option ℕ → ℕ → Option Interval
aligned_offset m (Some n) align =
    if same_region m.region Stack && (int_eq m.low m.high && is_stack_mask n align)
    then Some (interval_place Stack (rounded_down m.low (unit_of n)))
    else None
aligned_offset m None align = None

-- a number where no region has a byte is none of the bytes of a region
abbrev pub outside_offsets : OffsetSpan → Option ℕ → Option Interval
outside_offsets m (Some n) =
    if is_outside n && (is_in_extent m.region m.low && is_in_extent m.region m.high) then Some (interval_number 0) else None
outside_offsets m None = None

-- either way
abbrev pub aligned : Interval → Interval → ℕ → Option Interval
aligned (Offsets m) b align = aligned_offset m (interval_number_of b) align
aligned (Numbers n) (Offsets m) align = aligned_offset m (interval_number_of (Numbers n)) align
aligned a b align = None

abbrev pub outside : Interval → Interval → Option Interval
outside (Offsets m) b = outside_offsets m (interval_number_of b)
outside (Numbers n) (Offsets m) = outside_offsets m (interval_number_of (Numbers n))
outside a b = None

abbrev pub of_offsets_and_number : Op → Width → Interval → Interval → ℕ → Option Interval
of_offsets_and_number And B32 a b align = aligned a b align
of_offsets_and_number Eq B32 a b align = outside a b
of_offsets_and_number op w a b align = None

-- ---- 6. comparisons of numbers

-- 0 where the bounds do not meet
abbrev pub equal_numbers : NumberSpan → NumberSpan → Option Interval
equal_numbers m n = if nat_lt m.high n.low || nat_lt n.high m.low then Some (interval_number 0) else None

-- 1 where every first number is below every second one, and 0 where none is
abbrev pub below_numbers : NumberSpan → NumberSpan → Option Interval
below_numbers m n =
    if nat_lt m.high n.low then Some (interval_number 1) else (if nat_le n.high m.low then Some (interval_number 0) else None)

abbrev pub compared : Op → Interval → Interval → Option Interval
compared Eq (Numbers m) (Numbers n) = equal_numbers m n
compared Ult (Numbers m) (Numbers n) = below_numbers m n
compared op a b = None

-- ---- 7. shifts of numbers by a number, at 32 bits

abbrev pub shifted_left : NumberSpan → ℕ → Option Interval
shifted_left m c =
    if nat_le 1 c && (nat_le c 31 && nat_lt (m.high * 2 ^ c) (2 ^ 32))
    then Some (span (m.low * 2 ^ c) (m.high * 2 ^ c) (m.stride * 2 ^ c))
    else None

abbrev pub shifted_right : NumberSpan → ℕ → Option Interval
shifted_right m c = if nat_le c 31 then Some (span (m.low / 2 ^ c) (m.high / 2 ^ c) 1) else None

abbrev pub shifted_by : Op → NumberSpan → Option ℕ → Option Interval
shifted_by Shl m (Some c) = shifted_left m c
shifted_by Shr m (Some c) = shifted_right m c
shifted_by op m c = None

abbrev pub shifted : Op → Width → Interval → Interval → Option Interval
shifted op B32 (Numbers m) b = shifted_by op m (interval_number_of b)
shifted op w a b = None

-- ---- 8. AND with a number from 1 to 65,535

abbrev pub masked_by : Option ℕ → Option Interval
masked_by (Some n) = if nat_le 1 n && nat_le n 65535 then Some (span 0 n 1) else None
masked_by None = None

abbrev pub masked : Op → Interval → Interval → Option Interval
masked And a b = option_or (masked_by (interval_number_of a)) (masked_by (interval_number_of b))
masked op a b = None

-- ---- 9. the low byte and the low 16 bits

-- numbers that are at most the limit stay
abbrev pub low_part : ℕ → Interval → Interval
low_part limit (Numbers m) = if nat_le m.high limit then Numbers m else span 0 limit 1
low_part limit v = span 0 limit 1

abbrev pub low_bits : Op → Interval → Option Interval
low_bits Low8 a = Some (low_part 255 a)
low_bits Low16 a = Some (low_part 65535 a)
low_bits op a = None

-- ---- all of them

-- the first of rules 2 to 5 that applies
unfoldable pub by_sums : Op → Width → Interval → Interval → ℕ → Option Interval
by_sums op w a b align =
    option_or (of_numbers op w a b) (option_or (of_offsets_and_numbers op w a b) (option_or (of_offsets op w a b) (of_offsets_and_number op w a b align)))

-- the first of rules 6 to 9 that applies
unfoldable pub by_bits : Op → Width → Interval → Interval → Option Interval
by_bits op w a b = option_or (compared op a b) (option_or (shifted op w a b) (option_or (masked op a b) (low_bits op a)))

-- the first of rules 2 to 9 that applies, and 10: else any
unfoldable pub by_intervals : Op → Width → Interval → Interval → ℕ → Interval
by_intervals op w a b align = unwrap_or (option_or (by_sums op w a b align) (by_bits op w a b)) Any

-- rule 1 is the three rules that every domain shares, at operands that are one number
abbrev pub interval_eval : Op → Width → Interval → Interval → ℕ → Interval
interval_eval op w a b align =
    or_settled interval_number a b (settled op w (interval_number_of a) (interval_number_of b)) (by_intervals op w a b align)
