-- The regions of memory and the offsets of their bytes.
use Rattle.std.specs.Prelude.{ℤ, pos, neg_ℤ, ◌-ℤ◌, Bool, true, false, ◌&&◌, nat_le, int_le, int_lt, Option, Some, None, if◌then◌else◌}
use Rattle.memory_map.specs.Start.{STACK_BELOW, STACK_ABOVE, BASE_REACH}
use Rattle.address_regions.specs.declared.region.Region.{Region}
use Rattle.address_regions.specs.declared.region.Region.TheVariants.{Stack, Fs, Gs, Block}

-- the offsets of a region's bytes from its base: from the first number on, and below the second
abbrev pub extent_of : Region → ℤ × ℤ
extent_of Stack = (neg_ℤ (pos STACK_BELOW), pos STACK_ABOVE)
extent_of Fs = (neg_ℤ (pos BASE_REACH), pos BASE_REACH)
extent_of Gs = (neg_ℤ (pos BASE_REACH), pos BASE_REACH)
extent_of (Block site size zeroed) = (pos 0, pos size)

abbrev pub low_of : Region → ℤ
low_of r = (extent_of r).0

abbrev pub high_of : Region → ℤ
high_of r = (extent_of r).1

-- an offset is one of the region's bytes
abbrev pub is_in_extent : Region → ℤ → Bool
is_in_extent r o = int_le (low_of r) o && int_lt o (high_of r)

-- a region of 4 to 67,108,864 bytes: one of which "somewhere inside" is said
abbrev pub has_room : Region → Bool
has_room (Block site size zeroed) = nat_le 4 size && nat_le size 67108864
has_room r = true

-- the least and the greatest offset at which four bytes lie in the region, where it has room
abbrev pub bounds_inside : Region → Option (ℤ × ℤ)
bounds_inside r = if has_room r then Some (low_of r, high_of r -ℤ pos 4) else None

-- an offset lies between those two
abbrev pub is_inside : Region → ℤ → Bool
is_inside r o = has_room r && (int_le (low_of r) o && int_le o (high_of r -ℤ pos 4))

-- a run has one base of the stack and of each segment, and any number of bases of a block
abbrev pub has_one_base : Region → Bool
has_one_base (Block site size zeroed) = false
has_one_base r = true

-- the region itself where it is a block
abbrev pub block_of : Region → Option Region
block_of r = if has_one_base r then None else Some r
