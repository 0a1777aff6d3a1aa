use Rattle.std.proofs.Common.{sym, ◌∙◌, ap, rules}
use Rattle.domain_laws.specs.Made.{values_of}
use Rattle.abstract_state.specs.State.{IsWellState}
use Rattle.abstract_state.specs.Widening.{widened_state}
use Rattle.abstract_state.proofs.Few.{none-seen, unseen-widened}
use Rattle.abstract_state.proofs.Raising.{widened-fields}
use Rattle.abstract_state.proofs.state.State.widen.Goals as goal

pub invariant_of-result : goal.invariant_of-result
invariant_of-result g c =
    let d = values_of g.D.Domain g.D.PartialEq.eq in
    let met = g.met.D.Domain g.world.𝓛 g.world.𝓜 g.world.𝓡 ((λ s x. x), (λ x. x), (λ x. x), λ x. x) in
    widened-fields d met.lawful c.args.k c.args.seen.now _ _ _ _ _ _ (search rules) (search rules) c.self.invariant

pub returns-clause-well : goal.returns-clause-well
returns-clause-well g c =
    let d = values_of g.D.Domain g.D.PartialEq.eq in
    let met = g.met.D.Domain g.world.𝓛 g.world.𝓜 g.world.𝓡 ((λ s x. x), (λ x. x), (λ x. x), λ x. x) in
    widened-fields d met.lawful c.args.k c.args.seen.now _ _ _ _ _ _ (search rules) (search rules) c.self.invariant

pub returns-then-is_empty-clause-widened : goal.returns-then-is_empty-clause-widened
returns-then-is_empty-clause-widened g c =
    let d = values_of g.D.Domain g.D.PartialEq.eq in
    let s = c.before.before.before.args.self in
    let well : IsWellState d s = search rules in
    let none = none-seen c.args.seen.now (sym c.is_empty.ensures ∙ c.if-is_empty.true) in
    sym (ap (λ seen. widened_state d c.args.k seen s) none ∙ unseen-widened d c.args.k s c.if-k-gt0.true well)
