-- The order of bounded values, and how they are raised.
use Rattle.std.specs.Prelude.{ℕ, Bool, true, false, ◌&&◌, ◌||◌, if◌then◌else◌}
use Rattle.address_regions.specs.Extents.{is_inside}
use Rattle.address_regions.specs.Same.{same_region}
use Rattle.bounded_values.specs.declared.value.Bounded.{Bounded}
use Rattle.bounded_values.specs.declared.value.Bounded.TheVariants.{Number, Exact, Inside, Any}
use Rattle.bounded_values.specs.contracts.value.BoundedPartialEq.TheImpl as equality

-- as `==` tests it
unfoldable pub same_value : Bounded → Bounded → Bool
same_value a b = equality.ghosts.eq a b

-- b is any, or a is one of the places inside b's region
abbrev pub is_within : Bounded → Bounded → Bool
is_within a Any = true
is_within (Exact r o) (Inside s) = same_region r s && is_inside s o
is_within a b = false

abbrev pub bounded_leq : Bounded → Bounded → Bool
bounded_leq a b = same_value a b || is_within a b

abbrev pub bounded_rank : Bounded → ℕ
bounded_rank (Number n) = 2
bounded_rank (Exact r o) = 2
bounded_rank (Inside r) = 1
bounded_rank Any = 0

-- a place inside its region to anywhere inside it, all else to any
abbrev pub bounded_raise : Bounded → Bounded
bounded_raise (Exact r o) = if is_inside r o then Inside r else Any
bounded_raise v = Any
