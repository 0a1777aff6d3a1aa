-- The derived orders are those that are said.
use Rattle.std.proofs.Common.{true, false, refl}
use Rattle.address_regions.specs.declared.region.Region.TheVariants.{Stack, Fs, Gs, Block}
use Rattle.partitioned_memory.specs.declared.area.Area.TheVariants.{Image, In}
use Rattle.partitioned_memory.specs.Areas.{area_cmp}
use Rattle.partitioned_memory.specs.Pairs.{spot_cmp}
use Rattle.partitioned_memory.specs.Ordered.{AreasAreOrdered, SpotsAreOrdered}

pub areas-ordered : AreasAreOrdered
unfolding area_cmp
areas-ordered (In (Block site size true)) (In (Block later larger true)) = refl
areas-ordered (In (Block site size true)) (In (Block later larger false)) = refl
areas-ordered (In (Block site size false)) (In (Block later larger true)) = refl
areas-ordered (In (Block site size false)) (In (Block later larger false)) = refl
areas-ordered Image Image = refl
areas-ordered Image (In Stack) = refl
areas-ordered Image (In Fs) = refl
areas-ordered Image (In Gs) = refl
areas-ordered Image (In (Block later larger also)) = refl
areas-ordered (In Stack) Image = refl
areas-ordered (In Stack) (In Stack) = refl
areas-ordered (In Stack) (In Fs) = refl
areas-ordered (In Stack) (In Gs) = refl
areas-ordered (In Stack) (In (Block later larger also)) = refl
areas-ordered (In Fs) Image = refl
areas-ordered (In Fs) (In Stack) = refl
areas-ordered (In Fs) (In Fs) = refl
areas-ordered (In Fs) (In Gs) = refl
areas-ordered (In Fs) (In (Block later larger also)) = refl
areas-ordered (In Gs) Image = refl
areas-ordered (In Gs) (In Stack) = refl
areas-ordered (In Gs) (In Fs) = refl
areas-ordered (In Gs) (In Gs) = refl
areas-ordered (In Gs) (In (Block later larger also)) = refl
areas-ordered (In (Block site size zeroed)) Image = refl
areas-ordered (In (Block site size zeroed)) (In Stack) = refl
areas-ordered (In (Block site size zeroed)) (In Fs) = refl
areas-ordered (In (Block site size zeroed)) (In Gs) = refl

pub spots-ordered : SpotsAreOrdered
unfolding area_cmp spot_cmp
spots-ordered s t = refl
