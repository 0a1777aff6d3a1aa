-- The rules of bounded eval that follow those of every domain, each None where it does not apply.
use Rattle.std.specs.Prelude.{ℕ, ◌-◌, ◌%◌, ◌^◌, ℤ, pos, ◌+ℤ◌, ◌-ℤ◌, Bool, false, ◌&&◌, ◌||◌, nat_lt, nat_le, Option, Some, None, unwrap_or, if◌then◌else◌}
use Rattle.std.specs.Option.{option_or}
use Rattle.std.specs.Int.{w32, int_wrap, is_power_of_two}
use Rattle.bit_words.specs.declared.op.Op.{Op}
use Rattle.bit_words.specs.declared.op.Op.TheVariants.{Add, Sub, And, Eq}
use Rattle.bit_words.specs.declared.width.Width.{Width}
use Rattle.bit_words.specs.declared.width.Width.TheVariants.{B32}
use Rattle.bit_words.specs.Width.{modulo, word_of}
use Rattle.bit_words.specs.Operators.{apply_op}
use Rattle.address_regions.specs.declared.region.Region.TheVariants.{Stack}
use Rattle.address_regions.specs.Extents.{has_one_base, has_room, is_in_extent}
use Rattle.address_regions.specs.Same.{same_region}
use Rattle.domain_laws.specs.Rules.{settled, or_settled}
use Rattle.bounded_values.specs.declared.value.Bounded.{Bounded}
use Rattle.bounded_values.specs.declared.value.Bounded.TheVariants.{Number, Exact, Inside, Any}
use Rattle.bounded_values.specs.Stands.{bounded_number_of}

-- ---- 4. a place plus or less a number, at 32 bits

-- an offset moved by a number, wrapped to a signed number of 32 bits
abbrev pub offset_up : ℤ → ℕ → ℤ
offset_up o n = int_wrap w32 (o +ℤ pos n)

abbrev pub offset_down : ℤ → ℕ → ℤ
offset_down o n = int_wrap w32 (o -ℤ pos n)

abbrev pub place_plus : Bounded → Bounded → Option Bounded
place_plus (Exact r o) (Number n) = Some (Exact r (offset_up o n))
place_plus (Number n) (Exact r o) = Some (Exact r (offset_up o n))
place_plus a b = None

abbrev pub place_less : Bounded → Bounded → Option Bounded
place_less (Exact r o) (Number n) = Some (Exact r (offset_down o n))
place_less a b = None

abbrev pub moved_place : Op → Width → Bounded → Bounded → Option Bounded
moved_place Add B32 a b = place_plus a b
moved_place Sub B32 a b = place_less a b
moved_place op w a b = None

-- ---- 5. the difference of two places from the one base of their region, and whether they are equal, at 32 bits: those of their offsets

abbrev pub between : Op → Bounded → Bounded → Option Bounded
between op (Exact r o) (Exact s q) =
    if same_region r s && has_one_base r then Some (Number (apply_op op B32 (word_of B32 o) (word_of B32 q))) else None
between op a b = None

abbrev pub between_places : Op → Width → Bounded → Bounded → Option Bounded
between_places Sub B32 a b = between Sub a b
between_places Eq B32 a b = between Eq a b
between_places op w a b = None

-- ---- 6. a stack place under a mask, at 32 bits, is the place rounded down

-- the number of which n is the negative, modulo 2 ^ 32
abbrev pub unit_of : ℕ → ℕ
unit_of n = (2 ^ 32 - n) % 2 ^ 32

-- n is 2 ^ 32 less a power of two that is at most the alignment
abbrev pub is_stack_mask : ℕ → ℕ → Bool
is_stack_mask n align = is_power_of_two (unit_of n) && nat_le (unit_of n) align

-- an offset less its remainder
abbrev pub rounded_down : ℤ → ℕ → ℤ
rounded_down o unit = offset_down o (modulo o unit)

abbrev pub masked_at : ℤ → ℕ → ℕ → Option Bounded
masked_at o n align = if is_stack_mask n align then Some (Exact Stack (rounded_down o (unit_of n))) else None

abbrev pub masked_place : Bounded → Bounded → ℕ → Option Bounded
masked_place (Exact Stack o) (Number n) align = masked_at o n align
masked_place (Number n) (Exact Stack o) align = masked_at o n align
masked_place a b align = None

abbrev pub aligned_place : Op → Width → Bounded → Bounded → ℕ → Option Bounded
aligned_place And B32 a b align = masked_place a b align
aligned_place op w a b align = None

-- ---- 7. a number where no region has a byte is no byte of a region, at 32 bits

abbrev pub is_outside : ℕ → Bool
is_outside n = nat_lt n 4096 || nat_le 0xF0000000 n

-- every number for which a value stands is a byte of a region
abbrev pub lies_in_region : Bounded → Bool
lies_in_region (Exact r o) = is_in_extent r o
lies_in_region (Inside r) = has_room r
lies_in_region v = false

abbrev pub outside_place : ℕ → Bounded → Option Bounded
outside_place n v = if is_outside n && lies_in_region v then Some (Number 0) else None

abbrev pub number_and_place : Bounded → Bounded → Option Bounded
number_and_place (Number n) v = outside_place n v
number_and_place v (Number n) = outside_place n v
number_and_place a b = None

abbrev pub apart : Op → Width → Bounded → Bounded → Option Bounded
apart Eq B32 a b = number_and_place a b
apart op w a b = None

-- ---- all of them

-- the first of rules 4 to 7 that applies, and 8: else any
unfoldable pub by_places : Op → Width → Bounded → Bounded → ℕ → Bounded
by_places op w a b align =
    unwrap_or (option_or (moved_place op w a b) (option_or (between_places op w a b) (option_or (aligned_place op w a b align) (apart op w a b)))) Any

-- rules 1 to 3 are those that every domain shares
abbrev pub bounded_eval : Op → Width → Bounded → Bounded → ℕ → Bounded
bounded_eval op w a b align = or_settled Number a b (settled op w (bounded_number_of a) (bounded_number_of b)) (by_places op w a b align)
