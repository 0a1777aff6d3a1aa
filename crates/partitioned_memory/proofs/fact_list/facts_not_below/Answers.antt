use Rattle.std.proofs.Common.{◌≡◌, rules}
use Rattle.partitioned_memory.proofs.AreaSpots.{below-ascends, below-made, parted-below}
use Rattle.partitioned_memory.proofs.fact_list.facts_not_below.Goals as goal

pub around-requires-clause-parted : goal.around-requires-clause-parted
around-requires-clause-parted g c = parted-below c.offset.result.0 c.args.facts.now c.requires

pub around-requires-clause-ascend : goal.around-requires-clause-ascend
around-requires-clause-ascend g c = below-ascends c.offset.result.0 c.args.facts.now c.requires

pub returns : goal.returns
returns g c =
    let high : c.offset.result.0 ≡ c.args.high = search rules in
    below-made c.args.high c.offset.result.0 c.args.facts.now c.around.result high c.requires c.around.ensures
