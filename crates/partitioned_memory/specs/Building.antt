-- Which facts, dirty ranges and counts of blocks parts may be built of, as a test.
use Rattle.std.specs.Prelude.{◌^◌, Bool, true, not, ◌&&◌, ◌==◌, nat_lt, List, pos, int_le, int_lt, Option, None, Some}
use Rattle.std.specs.List.{list_all}
use Rattle.std.specs.Option.{option_map_or}
use Rattle.bit_words.specs.declared.width.Width.{Width}
use Rattle.bit_words.specs.Width.{bits_of}
use Rattle.memory_map.specs.Ascending.{ascend}
use Rattle.address_regions.specs.declared.region.Region.{Region}
use Rattle.address_regions.specs.Extents.{has_one_base}
use Rattle.domain_laws.specs.Laws.{Values}
use Rattle.domain_laws.specs.Reached.{named}
use Rattle.partitioned_memory.specs.declared.area.Interval.{Interval}
use Rattle.partitioned_memory.specs.declared.fact.Fact.{Fact}
use Rattle.partitioned_memory.specs.declared.fact.Dirty.{Dirty}
use Rattle.partitioned_memory.specs.declared.fact.Counted.{Counted}
use Rattle.partitioned_memory.specs.Areas.{block_in, bounds_of, is_marked}
use Rattle.partitioned_memory.specs.Held.{PartsHeld, count_before, dirty_before, fact_before, interval_of_dirty, interval_of_fact, is_counted}

-- all bytes of an interval are bytes of its area, which has none at or above 2 ^ 32
abbrev pub lies_inside : Interval → Bool
lies_inside i =
    int_le (bounds_of i.area).0 i.low && (int_le i.low i.end && (int_le i.end (bounds_of i.area).1 && int_le i.end (pos (2 ^ 32))))

-- a block region, where one is named, has a count
abbrev pub has_count : List Counted → Option Region → Bool
has_count blocks None = true
has_count blocks (Some r) = is_counted r blocks

abbrev pub is_block : Counted → Bool
is_block c = not (has_one_base c.region)

-- counts ascend, so that each region is counted once, and are of blocks
abbrev pub are_blocks : List Counted → Bool
are_blocks blocks = ascend count_before blocks && list_all is_block blocks

-- a dirty range by itself: it has a byte, and lies in the image or in a zeroed block
abbrev pub is_sound_dirty : Dirty → Bool
is_sound_dirty r = int_lt (interval_of_dirty r).low (interval_of_dirty r).end && (lies_inside (interval_of_dirty r) && is_marked r.area)

abbrev pub is_counted_dirty : List Counted → Dirty → Bool
is_counted_dirty blocks r = has_count blocks (block_in r.area)

-- dirty ranges ascend and neither share a byte nor touch, and their blocks are counted
abbrev pub are_sound_dirty : List Counted → List Dirty → Bool
are_sound_dirty blocks dirty = ascend dirty_before dirty && (list_all is_sound_dirty dirty && list_all (is_counted_dirty blocks) dirty)

module _ {D : Type 0} (d : Values D) where
  -- the number that a value is, where it is one, fits a width
  abbrev pub fits_width : Width → D → Bool
  fits_width w v = option_map_or (λ n. nat_lt n (2 ^ bits_of w)) (d.number_of v) true

  abbrev pub is_counted_value : List Counted → D → Bool
  is_counted_value blocks v = has_count blocks (named (d.reach v))

  -- a value may be kept at a width: a number fits it, and the block region that the value names has a count
  abbrev pub may_hold : List Counted → Width → D → Bool
  may_hold blocks w v = fits_width w v && is_counted_value blocks v

  -- a fact by itself: it lies in its area, its value has a rank above 0, and a number fits its width
  abbrev pub is_sound_fact : Fact D → Bool
  is_sound_fact f = lies_inside (interval_of_fact f) && (not (d.rank f.value == 0) && fits_width f.w f.value)

  -- the block regions that its area and its value name have counts
  abbrev pub is_counted_fact : List Counted → Fact D → Bool
  is_counted_fact blocks f = has_count blocks (block_in f.area) && is_counted_value blocks f.value

  -- facts ascend and share no byte, and the blocks that they name are counted
  abbrev pub are_sound_facts : List Counted → List (Fact D) → Bool
  are_sound_facts blocks facts = ascend fact_before facts && (list_all is_sound_fact facts && list_all (is_counted_fact blocks) facts)

  -- the lists are those of parts
  unfoldable pub are_well : PartsHeld D → Bool
  are_well h = are_blocks h.blocks && (are_sound_facts h.blocks h.facts && are_sound_dirty h.blocks h.dirty)
