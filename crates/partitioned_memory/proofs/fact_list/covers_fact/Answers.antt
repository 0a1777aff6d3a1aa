use Rattle.std.proofs.Common.{◌≡◌, ap, ◌∙◌, rules, sym}
use Rattle.domain_laws.specs.Made.{values_of}
use Rattle.partitioned_memory.specs.Held.{spot_at, value_below}
use Rattle.partitioned_memory.specs.Pairs.{value_at}
use Rattle.partitioned_memory.proofs.PutSpots.{covered-at}
use Rattle.partitioned_memory.proofs.fact_list.covers_fact.Goals as goal

pub returns : goal.returns
returns g c =
    let d = values_of g.D.Domain g.D.PartialEq.eq in
    let spot : c.at.result ≡ spot_at c.args.f.now.area c.args.f.now.low = search rules in
    c.is_above.ensures
    ∙ ap (value_below d c.args.f.now) (c.get.ensures.value ∙ ap (λ k. value_at k c.args.facts.now) spot)
    ∙ sym (covered-at d c.args.f.now c.args.facts.now c.get.ensures.ascend)
