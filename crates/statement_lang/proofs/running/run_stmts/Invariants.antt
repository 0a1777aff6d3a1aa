use Rattle.std.proofs.Common.{◌≡◌, length}
use Rattle.statement_lang.specs.Run.{run_from, zeros}
use Rattle.statement_lang.proofs.running.run_stmts.Given as goal

abbrev pub invariant-loop-first : goal.invariant-loop-first
invariant-loop-first l = run_from l.left l.skip l.choice l.state l.temps ≡ run_from l.list.items 0 l.choice l.initial.state zeros

abbrev pub decreases-loop-first : goal.decreases-loop-first
decreases-loop-first l = length l.left
