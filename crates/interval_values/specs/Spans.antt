-- Values by their bounds and stride.
use Rattle.std.specs.Prelude.{ℕ, ◌≡◌, ℤ, pos, ◌-ℤ◌, Bool, true, false, ◌==◌, if◌then◌else◌, refl}
use Rattle.std.specs.Ordering.{int_eq}
use Rattle.address_regions.specs.declared.region.Region.{Region}
use Rattle.address_regions.specs.Extents.{has_room, low_of, high_of}
use Rattle.interval_values.specs.declared.value.Interval.{Interval}
use Rattle.interval_values.specs.declared.value.Interval.TheVariants.{Numbers, Offsets, Any}
use Rattle.interval_values.specs.Forms.{is_number_span, is_offset_span}

-- ---- numbers

-- by bounds and a stride that are well-formed, and else any
abbrev pub numbers_if : (low high stride : ℕ) (t : Bool) → is_number_span low high stride ≡ t → Interval
numbers_if low high stride true e = Numbers (record { low = low; high = high; stride = stride; formed = e })
numbers_if low high stride false e = Any

unfoldable pub numbers : ℕ → ℕ → ℕ → Interval
numbers low high stride = numbers_if low high stride (is_number_span low high stride) refl

-- low, low + stride and so on up to high; the stride is 0 where the bounds are equal
unfoldable pub span : ℕ → ℕ → ℕ → Interval
span low high stride = numbers low high (if low == high then 0 else stride)

abbrev pub interval_number : ℕ → Interval
interval_number n = span n n 0

-- ---- offsets from a base of a region

abbrev pub offsets_if : (r : Region) (low high : ℤ) (stride : ℕ) (t : Bool) → is_offset_span low high stride ≡ t → Interval
offsets_if r low high stride true e = Offsets (record { region = r; low = low; high = high; stride = stride; formed = e })
offsets_if r low high stride false e = Any

unfoldable pub offsets : Region → ℤ → ℤ → ℕ → Interval
offsets r low high stride = offsets_if r low high stride (is_offset_span low high stride) refl

unfoldable pub place_span : Region → ℤ → ℤ → ℕ → Interval
place_span r low high stride = offsets r low high (if int_eq low high then 0 else stride)

abbrev pub interval_place : Region → ℤ → Interval
interval_place r o = place_span r o o 0

-- the offsets of four bytes in a region with room
abbrev pub interval_inside : Region → Interval
interval_inside r = if has_room r then place_span r (low_of r) (high_of r -ℤ pos 4) 1 else Any
