-- For which numbers an interval stands, and what is known of them.
use Rattle.std.specs.Prelude.{ℕ, ◌+◌, ◌-◌, ◌*◌, ◌/◌, ◌≡◌, ◌≤◌, min, ℤ, pos, ◌+ℤ◌, ◌≤ℤ◌, ◌==◌, nat_le, Option, Some, None, if◌then◌else◌, ⊤}
use Rattle.address_regions.specs.Places.{Places, HasBase, place_at}
use Rattle.domain_laws.specs.declared.reach.Reach.{Reach}
use Rattle.domain_laws.specs.declared.reach.Reach.TheVariants as reaches
use Rattle.interval_values.specs.declared.value.NumberSpan.{NumberSpan}
use Rattle.interval_values.specs.declared.value.OffsetSpan.{OffsetSpan}
use Rattle.interval_values.specs.declared.value.Interval.{Interval}
use Rattle.interval_values.specs.declared.value.Interval.TheVariants.{Numbers, Offsets, Any}
use Rattle.interval_values.specs.Spans.{span}

-- x is the low bound and some strides, at most the high bound
pub record IsNumberOf (m : NumberSpan) (x : ℕ) : Type 0 where
  pub steps : ℕ
  pub is : x ≡ m.low + steps * m.stride
  pub to_high : x ≤ m.high

pub record IsOffsetOf (m : OffsetSpan) (o : ℤ) : Type 0 where
  pub steps : ℕ
  pub is : o ≡ m.low +ℤ pos (steps * m.stride)
  pub to_high : o ≤ℤ m.high

-- x is a base of the region and one of the offsets, modulo 2 ^ 32
pub record IsPlaceIn (m : OffsetSpan) (p : Places) (x : ℕ) : Type 0 where
  pub base : ℕ
  pub offset : ℤ
  pub has_base : HasBase p m.region base
  pub of : IsOffsetOf m offset
  pub is : x ≡ place_at base offset

abbrev pub interval_stands : Interval → Places → ℕ → Type 0
interval_stands (Numbers m) p x = IsNumberOf m x
interval_stands (Offsets m) p x = IsPlaceIn m p x
interval_stands Any p x = ⊤

-- one number alone
abbrev pub interval_number_of : Interval → Option ℕ
interval_number_of (Numbers m) = if m.low == m.high then Some m.low else None
interval_number_of (Offsets m) = None
interval_number_of Any = None

-- the bounds
abbrev pub interval_reach : Interval → Reach
interval_reach (Numbers m) = reaches.Number m.low m.high
interval_reach (Offsets m) = reaches.Place m.region m.low m.high
interval_reach Any = reaches.Anywhere

-- the greatest of the numbers that is at most c, where the low bound is
abbrev pub greatest_to : NumberSpan → ℕ → ℕ
greatest_to m c = m.low + (min m.high c - m.low) / m.stride * m.stride

-- any is cut to 0 to c, and numbers to those of them that are at most c, where there is one
abbrev pub interval_up_to : Interval → ℕ → Interval
interval_up_to (Numbers m) c = if nat_le m.low c then span m.low (greatest_to m c) m.stride else Numbers m
interval_up_to (Offsets m) c = Offsets m
interval_up_to Any c = span 0 c 1
