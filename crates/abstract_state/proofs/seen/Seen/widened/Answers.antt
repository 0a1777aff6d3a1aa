-- What is left to raise is the same after each turn.
use Rattle.std.proofs.Common.{◌≡◌, ℕ, zero, suc, ◌+◌, ◌-◌, cond, Some, sym, ◌∙◌, ap, arith}
use Rattle.std.specs.Prelude.{find, unwrap_or}
use Rattle.domain_laws.specs.Made.{values_of}
use Rattle.abstract_state.specs.Widening.{raises, stays}
use Rattle.abstract_state.proofs.seen.Seen.widened.Goals as goal

pub loop-turn-init : goal.loop-turn-init
loop-turn-init g c left e =
    let d = values_of g.D.Domain g.D.PartialEq.eq in
    let same : g.D.Domain.rank c.args.value + 1 ≡ left = omega (arith, e) in
    ap (λ n. unwrap_or (find (stays d c.args.k c.args.self.now c.args.holder) (raises d c.args.k c.args.self.now n c.args.value)) d.any) same

pub returns-then-keeps : goal.returns-then-keeps
returns-then-keeps g c =
    let d = values_of g.D.Domain g.D.PartialEq.eq in
    let left : ℕ = g.D.Domain.rank c.args.value + 1 - c.loop-turn._turn - 1 in
    let all : suc left + c.loop-turn._turn ≡ g.D.Domain.rank c.args.value + 1 = omega (arith, c.loop-turn-test.true) in
    sym (c.loop-turn.invariant (suc left) all
    ∙ ap (λ b. unwrap_or (cond b (Some c.loop-turn.widened) (find (stays d c.args.k c.args.self.now c.args.holder) (raises d c.args.k c.args.self.now left (d.raise c.loop-turn.widened)))) d.any) (sym c.keeps.ensures ∙ c.if-keeps.true))

pub loop-turn-preserved : goal.loop-turn-preserved
loop-turn-preserved g c left e =
    let d = values_of g.D.Domain g.D.PartialEq.eq in
    let all : suc left + c.loop-turn._turn ≡ g.D.Domain.rank c.args.value + 1 = omega (arith, e) in
    c.loop-turn.invariant (suc left) all
    ∙ ap (λ b. unwrap_or (cond b (Some c.loop-turn.widened) (find (stays d c.args.k c.args.self.now c.args.holder) (raises d c.args.k c.args.self.now left (d.raise c.loop-turn.widened)))) d.any) (sym c.keeps.ensures ∙ c.if-keeps.false)
    ∙ ap (λ v. unwrap_or (find (stays d c.args.k c.args.self.now c.args.holder) (raises d c.args.k c.args.self.now left v)) d.any) (sym c.raise-widened.ensures)

pub returns : goal.returns
returns g c =
    let d = values_of g.D.Domain g.D.PartialEq.eq in
    let none : zero + c.loop-turn._turn ≡ g.D.Domain.rank c.args.value + 1 = omega (arith, c.loop-turn-test.false) in
    c.any.ensures ∙ sym (c.loop-turn.invariant zero none)
