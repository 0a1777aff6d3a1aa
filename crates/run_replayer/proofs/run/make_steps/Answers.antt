use Rattle.std.proofs.Common.{subst, arith}
use Rattle.memory_map.specs.declared.choice.Choice.{Choice}
use Rattle.run_replayer.specs.Record.{IsNext}
use Rattle.run_replayer.proofs.Making.{all_made, one_more, stopped}
use Rattle.run_replayer.proofs.run.make_steps.Goals as goal

pub returns-in-End : goal.returns-in-End
returns-in-End c =
    let P : Choice → Type 0 = λ choice. IsNext c.args.image.now c.args.stubs.now choice c.loop-n.machine c.in_ok-step.field-0 c.make_step.new.machine in
    let next = subst P c.in_ok-choice.ensures c.in_ok-step.ensures in
    rw c.from_vec.ensures (stopped _ _ _ _ _ _ _ _ c.in-End.end c.loop-n.invariant c.loop-n-test.true (rw c.in-End.is at next))

pub loop-n-preserved : goal.loop-n-preserved
loop-n-preserved c =
    let P : Choice → Type 0 = λ choice. IsNext c.args.image.now c.args.stubs.now choice c.loop-n.machine c.in_ok-step.field-0 c.make_step.new.machine in
    let next = subst P c.in_ok-choice.ensures c.in_ok-step.ensures in
    let made = rw c.in-Step.is at next in
    rw c.in_ok-push-in-Step.ensures.items (one_more _ _ _ _ _ _ _ _ _ c.in-Step.step c.loop-n.invariant c.loop-n-test.true made.0 made.1)

pub returns : goal.returns
returns c = rw c.from_vec-2.ensures (all_made _ _ _ _ _ _ _ _ c.loop-n.invariant (omega arith))
