use Rattle.std.proofs.Common.{sym, ◌∙◌}
use Rattle.flow_log.proofs.Orders.{derived_exact}
use Rattle.run_replayer.proofs.Replays.{ends_edge, ends_elsewhere, ends_open, ends_to, ends_without, has_same, lacks_same, passes, same_edge}
use Rattle.run_replayer.proofs.replaying.try_step.Goals as goal

pub returns-then-has : goal.returns-then-has
returns-then-has c = ends_open _ _ _ _ _ _ c.eip-at.result c.eip-at.ensures (c.has.ensures.0 c.if-has.true)

pub returns-then-at-step : goal.returns-then-at-step
returns-then-at-step c =
    ends_elsewhere _ _ _ _ _ _ (lacks_same _ c.eip-at.result _ c.has.result c.eip-at.ensures c.has.ensures.1 c.if-has.false) (λ e. c.if-at-step.true (c.eip-at.ensures ∙ e))

pub returns-in-Some : goal.returns-in-Some
returns-in-Some c =
    ends_without _ _ _ _ _ _ c.in-Some.kind (lacks_same _ c.eip-at.result _ c.has.result c.eip-at.ensures c.has.ensures.1 c.if-has.false) (sym c.eip-at.ensures ∙ c.if-at-step.false) (rw c.in-Some.is at c.in_ok-kind.ensures)

pub returns-then-eip-step : goal.returns-then-eip-step
returns-then-eip-step c =
    ends_to _ _ _ _ _ _ c.make_step.new.machine (lacks_same _ c.eip-at.result _ c.has.result c.eip-at.ensures c.has.ensures.1 c.if-has.false) (sym c.eip-at.ensures ∙ c.if-at-step.false) (rw c.in-None.is at c.in_ok-kind.ensures) (λ e. c.if-eip-step.true (c.eip.ensures ∙ e))

pub has-requires-2 : goal.has-requires-2
has-requires-2 c = derived_exact

pub returns-then-not-has : goal.returns-then-not-has
returns-then-not-has c =
    ends_edge _ _ _ _ _ _ c.make_step.new.machine (lacks_same _ c.eip-at.result _ c.has.result c.eip-at.ensures c.has.ensures.1 c.if-has.false) (sym c.eip-at.ensures ∙ c.if-at-step.false) (rw c.in-None.is at c.in_ok-kind.ensures) (sym c.eip.ensures ∙ c.if-eip-step.false)
    (lacks_same _ _ _ c.has-2.result (same_edge c.args.image.now c.args.machine.now c.make_step.new.machine _ _ _ (sym c.eip-at.ensures ∙ c.if-at-step.false) (sym c.eip.ensures ∙ c.if-eip-step.false) c.in_ok-label.ensures) c.has-2.ensures.1 c.if-not-has.true)

pub returns : goal.returns
returns c =
    passes _ _ _ _ _ _ c.make_step.new.machine (lacks_same _ c.eip-at.result _ c.has.result c.eip-at.ensures c.has.ensures.1 c.if-has.false) (sym c.eip-at.ensures ∙ c.if-at-step.false) (rw c.in-None.is at c.in_ok-kind.ensures) (sym c.eip.ensures ∙ c.if-eip-step.false)
    (has_same _ _ _ c.has-2.result (same_edge c.args.image.now c.args.machine.now c.make_step.new.machine _ _ _ (sym c.eip-at.ensures ∙ c.if-at-step.false) (sym c.eip.ensures ∙ c.if-eip-step.false) c.in_ok-label.ensures) c.has-2.ensures.0 c.if-not-has.false)
