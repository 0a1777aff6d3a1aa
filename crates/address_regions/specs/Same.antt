-- The equality of regions, as `==` tests it.
use Rattle.std.specs.Prelude.{Bool}
use Rattle.address_regions.specs.declared.region.Region.{Region}
use Rattle.address_regions.specs.contracts.region.RegionPartialEq.TheImpl as equality

unfoldable pub same_region : Region → Region → Bool
same_region r s = equality.ghosts.eq r s
