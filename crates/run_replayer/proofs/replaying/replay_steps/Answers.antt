use Rattle.std.proofs.Common.{arith, refl}
use Rattle.run_replayer.proofs.Replays.{all_inside, all_open, lacks_same}
use Rattle.run_replayer.proofs.replaying.replay_steps.Goals as goal

pub returns-then-has : goal.returns-then-has
returns-then-has c = all_open _ _ _ _ _ _ _ _ c.loop-step.invariant c.eip-at.result (omega arith) c.eip-at.ensures (c.has.ensures.0 c.if-has.true)

pub returns : goal.returns
returns c =
    all_inside _ _ _ _ _ _ _ _ c.loop-step.invariant c.eip-at.result (omega arith) c.eip-at.ensures
    (lacks_same _ c.eip-at.result c.eip-at.result c.has.result refl c.has.ensures.1 c.if-has.false)
