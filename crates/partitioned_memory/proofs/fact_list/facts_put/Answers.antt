use Rattle.std.proofs.Common.{◌≡◌, map, rules, sym, ◌∙◌}
use Rattle.partitioned_memory.specs.Held.{fact_at, found}
use Rattle.domain_laws.specs.Made.{values_of}
use Rattle.partitioned_memory.proofs.PairLaws.{parted-at}
use Rattle.partitioned_memory.proofs.FactSpots.{Ascends-facts}
use Rattle.partitioned_memory.proofs.PutSpots.{put-copied, put-made, put-made-ascends}
use Rattle.partitioned_memory.proofs.fact_list.facts_put.Goals as goal

pub around-requires-clause-parted : goal.around-requires-clause-parted
around-requires-clause-parted g c = parted-at c.pair.result.0 c.args.facts.now (Ascends-facts c.args.facts.now c.requires)

pub around-requires-clause-ascend : goal.around-requires-clause-ascend
around-requires-clause-ascend g c =
    put-made-ascends (values_of g.D.Domain g.D.PartialEq.eq) c.args.new c.pair.result c.new_pair.result c.args.facts.now c.pair.ensures c.new_pair.ensures (Ascends-facts c.args.facts.now c.requires)

pub returns-then-is_some : goal.returns-then-is_some
returns-then-is_some g c =
    let there : c.found.result ≡ found c.args.new.area c.args.new.low c.args.new.w (map fact_at c.args.facts.now) = search rules in
    put-made (values_of g.D.Domain g.D.PartialEq.eq) c.args.new c.pair.result c.new_pair.result c.args.facts.now c.found.result c.around.result c.pair.ensures c.new_pair.ensures (Ascends-facts c.args.facts.now c.requires) there (sym c.is_some.ensures ∙ c.if-is_some.true) c.around.ensures

pub returns-else-is_some : goal.returns-else-is_some
returns-else-is_some g c =
    let there : c.found.result ≡ found c.args.new.area c.args.new.low c.args.new.w (map fact_at c.args.facts.now) = search rules in
    put-copied (values_of g.D.Domain g.D.PartialEq.eq) c.args.new c.args.facts.now c.found.result c.copy.result there (sym c.is_some.ensures ∙ c.if-is_some.false) c.copy.ensures
