use Rattle.std.proofs.Common.{◌≡◌, ap, ◌∙◌, rules, sym}
use Rattle.partitioned_memory.specs.Held.{spot_at, value_of_width}
use Rattle.partitioned_memory.specs.Pairs.{value_at}
use Rattle.partitioned_memory.proofs.PutSpots.{found-at}
use Rattle.partitioned_memory.proofs.fact_list.found.Goals as goal

pub returns : goal.returns
returns g c =
    let spot : c.at.result ≡ spot_at c.args.area c.args.low = search rules in
    c.value_of_width.ensures
    ∙ ap (value_of_width c.args.w) (c.get.ensures.value ∙ ap (λ k. value_at k c.args.facts.now) spot)
    ∙ sym (found-at c.args.area c.args.low c.args.w c.args.facts.now c.get.ensures.ascend)
