use Rattle.partitioned_memory.specs.declared.area.Area.TheVariants.{In}
use Rattle.partitioned_memory.proofs.AreaSpots.{outside-ascends, outside-made, parted-area}
use Rattle.partitioned_memory.proofs.fact_list.facts_outside.Goals as goal

pub around-requires-clause-parted : goal.around-requires-clause-parted
around-requires-clause-parted g c = parted-area (In c.args.region) c.args.facts.now c.requires

pub around-requires-clause-ascend : goal.around-requires-clause-ascend
around-requires-clause-ascend g c = outside-ascends c.args.region c.args.facts.now c.requires

pub returns : goal.returns
returns g c = outside-made c.args.region c.args.facts.now c.around.result c.requires c.around.ensures
