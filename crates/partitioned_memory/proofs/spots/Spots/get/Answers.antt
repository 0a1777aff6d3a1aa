use Rattle.std.proofs.Common.{◌≡◌, ap, ◌∙◌, rules, subst}
use Rattle.std.specs.Option.{option_map}
use Rattle.partitioned_memory.specs.declared.fact.Spot.{Spot}
use Rattle.partitioned_memory.specs.Lists.{Ascends}
use Rattle.partitioned_memory.specs.Pairs.{pair_before}
use Rattle.partitioned_memory.proofs.PairLaws.{parted-at, value-found}
use Rattle.partitioned_memory.proofs.spots.Spots.get.Goals as goal

pub first_in-requires : goal.first_in-requires
first_in-requires g c = parted-at c.args.key.now c.args.self.now (subst (Ascends pair_before) c.self.view_is c.self.invariant.ascend)

pub returns-clause-value : goal.returns-clause-value
returns-clause-value g c =
    let value : c.map.result ≡ option_map (λ (p : Spot × g.row.V.Denot). p.1) c.first_in.result = search rules in
    value ∙ ap (option_map (λ (p : Spot × g.row.V.Denot). p.1)) c.first_in.ensures ∙ value-found c.args.key.now c.args.self.now
