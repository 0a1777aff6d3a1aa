use Rattle.partitioned_memory.proofs.FactSpots.{off-ascends, off-made, parted-facts}
use Rattle.partitioned_memory.proofs.fact_list.facts_off.Goals as goal

pub around-requires-clause-parted : goal.around-requires-clause-parted
around-requires-clause-parted g c = parted-facts c.args.i c.args.facts.now c.requires.ordered c.requires.ascend

pub around-requires-clause-ascend : goal.around-requires-clause-ascend
around-requires-clause-ascend g c = off-ascends c.args.i c.args.facts.now c.requires.ordered c.requires.ascend

pub returns : goal.returns
returns g c = off-made c.args.i c.args.facts.now c.around.result c.requires.ordered c.requires.ascend c.around.ensures
