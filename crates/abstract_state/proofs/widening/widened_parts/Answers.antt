use Rattle.std.proofs.Common.{◌≡◌, ◌∙◌, ap, fold, rules}
use Rattle.domain_laws.specs.Made.{values_of}
use Rattle.abstract_state.specs.Widening.{with_widened_fact}
use Rattle.abstract_state.proofs.Putting.{all-steps}
use Rattle.abstract_state.proofs.widening.widened_parts.Goals as goal

pub returns : goal.returns
returns g c =
    let d = values_of g.D.Domain g.D.PartialEq.eq in
    let met = g.met.D.Domain g.world.𝓛 g.world.𝓜 g.world.𝓡 ((λ s x. x), (λ x. x), (λ x. x), λ x. x) in
    let all = all-steps d met.lawful c.args.k c.args.seen.now c.args.parts c.in_ok-facts.ensures.well in
    let facts : c.deref.result.now ≡ c.args.parts.facts = search rules in
    c.in_ok-put_all.ensures ∙ ap (λ fs. fold (with_widened_fact d c.args.k c.args.seen.now) c.args.parts fs) facts ∙ all
