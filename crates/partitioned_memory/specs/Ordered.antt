-- The order of areas and of spots.
use Rattle.std.specs.Prelude.{◌≡◌, ℕ, List, [], ◌∷◌, if◌then◌else◌}
use Rattle.std.specs.Ordering.{int_cmp, nat_cmp, ordering_then}
use Rattle.std.specs.Cmp.Lexicographic.{slice_cmp}
use Rattle.address_regions.specs.declared.region.Region.TheVariants.{Stack, Fs, Gs, Block}
use Rattle.partitioned_memory.specs.declared.area.Area.{Area}
use Rattle.partitioned_memory.specs.declared.area.Area.TheVariants.{Image, In}
use Rattle.partitioned_memory.specs.declared.fact.Spot.{Spot}
use Rattle.partitioned_memory.specs.Areas.{area_cmp}
use Rattle.partitioned_memory.specs.Pairs.{spot_cmp}

-- the place of an area: the image, the stack, fs, gs, and then blocks by site, by size, and last by whether they begin zeroed
abbrev pub place_of : Area → List ℕ
place_of Image = 0 ∷ []
place_of (In Stack) = 1 ∷ []
place_of (In Fs) = 2 ∷ []
place_of (In Gs) = 3 ∷ []
place_of (In (Block site size zeroed)) = 4 ∷ site ∷ size ∷ (if zeroed then 1 else 0) ∷ []

-- areas are ordered by their places, number by number
abbrev pub AreasAreOrdered : Type 0
AreasAreOrdered = (a b : Area) → area_cmp a b ≡ slice_cmp nat_cmp (place_of a) (place_of b)

-- spots are ordered by their areas, and in one by their offsets
abbrev pub SpotsAreOrdered : Type 0
SpotsAreOrdered = (s t : Spot) → spot_cmp s t ≡ ordering_then (area_cmp s.area t.area) (int_cmp s.low t.low)
