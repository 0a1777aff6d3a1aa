-- What is always so of the parts.
use Rattle.std.specs.Prelude.{◌≡◌, ℕ, ◌^◌, ◌<◌, true, false, ◌==◌, List, Option, Some, None, ⊤, ◌<ℤ◌}
use Rattle.bit_words.specs.declared.width.Width.{Width}
use Rattle.bit_words.specs.Width.{bits_of}
use Rattle.address_regions.specs.declared.region.Region.{Region}
use Rattle.address_regions.specs.Extents.{has_one_base}
use Rattle.domain_laws.specs.Laws.{Values}
use Rattle.domain_laws.specs.Reached.{named}
use Rattle.partitioned_memory.specs.declared.area.Interval.{Interval}
use Rattle.partitioned_memory.specs.declared.fact.Fact.{Fact}
use Rattle.partitioned_memory.specs.declared.fact.Counted.{Counted}
use Rattle.partitioned_memory.specs.Areas.{IsInside, is_marked, block_in}
use Rattle.partitioned_memory.specs.Lists.{Every, Ascends}
use Rattle.partitioned_memory.specs.Held.{PartsHeld, interval_of_fact, interval_of_dirty, fact_before, dirty_before, count_before, is_counted}

-- a block region, where one is named, has a count
abbrev pub HasCount : List Counted → Option Region → Type 0
HasCount blocks None = ⊤
HasCount blocks (Some r) = is_counted r blocks ≡ true

-- the number that a value is, where it is one, fits a width
abbrev pub FitsWidth : {D : Type 0} → Values D → Width → D → Type 0
FitsWidth d w v = (n : ℕ) → d.number_of v ≡ Some n → n < 2 ^ bits_of w

-- a value may be kept at a width: a number fits it, and the block region that the value names has a count
pub record MayHold {D : Type 0} (d : Values D) (blocks : List Counted) (w : Width) (v : D) : Type 0 where
  pub fits : FitsWidth d w v
  pub counted : HasCount blocks (named (d.reach v))

-- a fact lies in its area, is of a value of rank above 0, and its area and value are counted
pub record IsWellFact {D : Type 0} (d : Values D) (blocks : List Counted) (f : Fact D) : Type 0 where
  pub inside : IsInside (interval_of_fact f)
  pub counted : HasCount blocks (block_in f.area)
  pub ranked : (d.rank f.value == 0) ≡ false
  pub holds : MayHold d blocks f.w f.value

-- a dirty range has a byte, and lies in the image or in a zeroed block that is counted
pub record IsWellDirty (blocks : List Counted) (i : Interval) : Type 0 where
  pub filled : i.low <ℤ i.end
  pub inside : IsInside i
  pub marked : is_marked i.area ≡ true
  pub counted : HasCount blocks (block_in i.area)

abbrev pub IsBlock : Counted → Type 0
IsBlock c = has_one_base c.region ≡ false

-- the three lists ascend: facts share no byte, dirty ranges neither share a byte nor touch, and each block region is counted once
pub record IsWell {D : Type 0} (d : Values D) (h : PartsHeld D) : Type 0 where
  pub facts_ascend : Ascends fact_before h.facts
  pub facts : Every (IsWellFact d h.blocks) h.facts
  pub dirty_ascends : Ascends dirty_before h.dirty
  pub dirty : Every (λ r. IsWellDirty h.blocks (interval_of_dirty r)) h.dirty
  pub blocks_ascend : Ascends count_before h.blocks
  pub blocks : Every IsBlock h.blocks
