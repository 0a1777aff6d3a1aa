use Rattle.run_replayer.proofs.Making.{AreMaking}
use Rattle.run_replayer.proofs.run.make_steps.Given as goal

abbrev pub invariant-loop-n : goal.invariant-loop-n
invariant-loop-n l = AreMaking l.image l.stubs l.count l.choices l.initial.machine l.steps.items l.n l.machine
