-- For which numbers a bounded value stands, and what is known of them.
use Rattle.std.specs.Prelude.{ℕ, ◌≡◌, ℤ, pos, ◌-ℤ◌, Bool, true, false, Option, Some, None, if◌then◌else◌, ⊤}
use Rattle.address_regions.specs.declared.region.Region.{Region}
use Rattle.address_regions.specs.Extents.{has_room, low_of, high_of}
use Rattle.address_regions.specs.Places.{Places, HasBase, place_at}
use Rattle.domain_laws.specs.declared.reach.Reach.{Reach}
use Rattle.domain_laws.specs.declared.reach.Reach.TheVariants as reaches
use Rattle.domain_laws.specs.Reached.{IsPlaceOf}
use Rattle.bounded_values.specs.declared.value.Bounded.{Bounded}
use Rattle.bounded_values.specs.declared.value.Bounded.TheVariants.{Number, Exact, Inside, Any}

-- x is a base of a region plus an offset, modulo 2 ^ 32
pub record IsAt (p : Places) (region : Region) (offset : ℤ) (x : ℕ) : Type 0 where
  pub base : ℕ
  pub has_base : HasBase p region base
  pub is : x ≡ place_at base offset

-- x is a place at which four bytes lie in a region that has room; of any other region nothing is said
abbrev pub IsWithin : Bool → Places → Region → ℕ → Type 0
IsWithin true p r x = IsPlaceOf p r (low_of r) (high_of r -ℤ pos 4) x
IsWithin false p r x = ⊤

abbrev pub bounded_stands : Bounded → Places → ℕ → Type 0
bounded_stands (Number n) p x = x ≡ n
bounded_stands (Exact r o) p x = IsAt p r o x
bounded_stands (Inside r) p x = IsWithin (has_room r) p r x
bounded_stands Any p x = ⊤

abbrev pub bounded_inside : Region → Bounded
bounded_inside r = if has_room r then Inside r else Any

abbrev pub bounded_number_of : Bounded → Option ℕ
bounded_number_of (Number n) = Some n
bounded_number_of v = None

abbrev pub bounded_reach : Bounded → Reach
bounded_reach (Number n) = reaches.Number n n
bounded_reach (Exact r o) = reaches.Place r o o
bounded_reach (Inside r) = if has_room r then reaches.Place r (low_of r) (high_of r -ℤ pos 4) else reaches.Anywhere
bounded_reach Any = reaches.Anywhere
