use Rattle.std.proofs.Common.{◌∙◌}
use Rattle.partitioned_memory.proofs.DirtySpots.{met-bounded, parted-ranges, ranges-made, ranges-made-ascend}
use Rattle.partitioned_memory.proofs.dirty_list.dirty_with.Goals as goal

pub within-requires : goal.within-requires
within-requires c = parted-ranges c.args.new c.args.ranges.now c.requires.new.ordered c.requires.ranges c.requires.ascend

pub hull_of-whole-requires-clause-met : goal.hull_of-whole-requires-clause-met
hull_of-whole-requires-clause-met c = met-bounded c.args.new c.args.ranges.now c.deref.result.now (c.deref.ensures.value ∙ c.in_ok-met.ensures) c.requires.ranges

pub around-requires-clause-parted : goal.around-requires-clause-parted
around-requires-clause-parted c = parted-ranges c.args.new c.args.ranges.now c.requires.new.ordered c.requires.ranges c.requires.ascend

pub around-requires-clause-ascend : goal.around-requires-clause-ascend
around-requires-clause-ascend c =
    ranges-made-ascend c.args.new c.hull_of-whole.result c.dirty.result c.pair.result c.args.ranges.now c.deref.result.now c.requires.new c.requires.ranges c.requires.ascend (c.deref.ensures.value ∙ c.in_ok-met.ensures) c.hull_of-whole.ensures.value c.dirty.ensures c.pair.ensures

pub returns : goal.returns
returns c =
    ranges-made c.args.new c.hull_of-whole.result c.dirty.result c.pair.result c.args.ranges.now c.deref.result.now c.around.result c.requires.new c.requires.ranges c.requires.ascend (c.deref.ensures.value ∙ c.in_ok-met.ensures) c.hull_of-whole.ensures.value c.dirty.ensures c.pair.ensures c.around.ensures
