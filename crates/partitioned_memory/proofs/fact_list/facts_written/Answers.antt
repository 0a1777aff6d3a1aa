use Rattle.domain_laws.specs.Made.{values_of}
use Rattle.partitioned_memory.proofs.FactSpots.{written-made, written-made-ascends, written-parted}
use Rattle.partitioned_memory.proofs.fact_list.facts_written.Goals as goal

pub around-requires-clause-parted : goal.around-requires-clause-parted
around-requires-clause-parted g c = written-parted c.args.f c.interval.result c.args.facts.now c.interval.ensures c.requires

pub around-requires-clause-ascend : goal.around-requires-clause-ascend
around-requires-clause-ascend g c =
    written-made-ascends (values_of g.D.Domain g.D.PartialEq.eq) c.args.blocks.now c.args.f c.interval.result c.kept_pair.result c.args.facts.now c.interval.ensures c.kept_pair.ensures c.requires

pub returns : goal.returns
returns g c =
    written-made (values_of g.D.Domain g.D.PartialEq.eq) c.args.blocks.now c.args.f c.interval.result c.kept_pair.result c.args.facts.now c.around.result c.interval.ensures c.kept_pair.ensures c.requires c.around.ensures
