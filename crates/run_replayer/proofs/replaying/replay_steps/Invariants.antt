use Rattle.run_replayer.proofs.Replays.{IsReplaying}
use Rattle.run_replayer.proofs.replaying.replay_steps.Given as goal

abbrev pub invariant-loop-step : goal.invariant-loop-step
invariant-loop-step l = IsReplaying l.image l.stubs l.index l.initial.machine l.steps l.step-index l.n l.machine
