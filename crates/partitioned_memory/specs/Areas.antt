-- The areas of memory, their order, and intervals of offsets in one.
use Rattle.std.specs.Prelude.{◌^◌, Bool, true, false, ◌&&◌, ◌||◌, ℤ, pos, neg_ℤ, ◌+ℤ◌, ◌≤ℤ◌, ◌<ℤ◌, int_le, int_lt, Option, None}
use Rattle.std.specs.Int.{int_max, int_min}
use Rattle.std.specs.declared.cmp.Ordering.{Ordering}
use Rattle.std.specs.declared.cmp.Ordering.TheVariants.{Less, Equal, Greater}
use Rattle.address_regions.specs.declared.region.Region.{Region}
use Rattle.address_regions.specs.declared.region.Region.TheVariants.{Block}
use Rattle.address_regions.specs.Extents.{extent_of, block_of}
use Rattle.partitioned_memory.specs.declared.area.Area.{Area}
use Rattle.partitioned_memory.specs.declared.area.Area.TheVariants.{Image, In}
use Rattle.partitioned_memory.specs.declared.area.Interval.{Interval}
use Rattle.partitioned_memory.specs.contracts.area.AreaOrd.TheImpl as order
use Rattle.partitioned_memory.specs.contracts.area.AreaPartialEq.TheImpl as equality

-- the order of areas, as `<` has it: the image, the stack, fs, gs, and then blocks by site, size and `zeroed`
unfoldable pub area_cmp : Area → Area → Ordering
area_cmp a b = order.ghosts.cmp a b

-- the equality of areas, as `==` tests it
unfoldable pub same_area : Area → Area → Bool
same_area a b = equality.ghosts.eq a b

-- the offsets of an area's bytes: from the first number on, and below the second
abbrev pub bounds_of : Area → ℤ × ℤ
bounds_of Image = (pos 0, pos (2 ^ 32))
bounds_of (In r) = extent_of r

-- the block region that an area is
abbrev pub block_in : Area → Option Region
block_in Image = None
block_in (In r) = block_of r

abbrev pub is_zeroed : Region → Bool
is_zeroed (Block site size zeroed) = zeroed
is_zeroed r = false

-- unknown bytes that are written are remembered in the image and in zeroed blocks, where something is known of the others
abbrev pub is_marked : Area → Bool
is_marked Image = true
is_marked (In r) = is_zeroed r

-- from one offset on and below another
abbrev pub interval_between : Area → ℤ → ℤ → Interval
interval_between a low end = record { area = a; low = low; end = end }

-- a number of bytes from an offset on
abbrev pub interval_at : Area → ℤ → ℤ → Interval
interval_at a low size = interval_between a low (low +ℤ size)

-- from one offset to another, both included
abbrev pub interval_to : Area → ℤ → ℤ → Interval
interval_to a low high = interval_between a low (high +ℤ pos 1)

-- an offset is one of an area's bytes
pub record IsOffset (a : Area) (o : ℤ) : Type 0 where
  pub low : (bounds_of a).0 ≤ℤ o
  pub high : o <ℤ (bounds_of a).1

-- it lies where the offsets of any area can
pub record IsBounded (i : Interval) : Type 0 where
  pub least : neg_ℤ (pos (2 ^ 32)) ≤ℤ i.low
  pub greatest : i.end ≤ℤ pos (2 ^ 32)
  pub ordered : i.low ≤ℤ i.end

-- all its bytes are bytes of its area
pub record IsInside (i : Interval) : Type 0 where
  pub low : (bounds_of i.area).0 ≤ℤ i.low
  pub end : i.end ≤ℤ (bounds_of i.area).1
  pub bounded : IsBounded i

-- an offset of an area is one of its bytes
abbrev pub has_byte : Interval → Area → ℤ → Bool
has_byte i a o = same_area i.area a && (int_le i.low o && int_lt o i.end)

-- by area, and within one by a test
abbrev pub by_area : Ordering → Bool → Bool
by_area Less t = true
by_area Equal t = t
by_area Greater t = false

-- the first lies before the second, and they share no byte
unfoldable pub is_before : Interval → Interval → Bool
is_before i j = by_area (area_cmp i.area j.area) (int_le i.end j.low)

-- the first lies before the second, and they neither share a byte nor touch
unfoldable pub is_left : Interval → Interval → Bool
is_left i j = by_area (area_cmp i.area j.area) (int_lt i.end j.low)

-- they share no byte
abbrev pub is_off : Interval → Interval → Bool
is_off i j = is_before i j || is_before j i

-- the least interval that has both, in the first one's area
abbrev pub hull : Interval → Interval → Interval
hull i j = record { area = i.area; low = int_min i.low j.low; end = int_max i.end j.end }
