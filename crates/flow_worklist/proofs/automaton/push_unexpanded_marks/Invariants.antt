use Rattle.std.proofs.Common.{◌≡◌, ◌++◌, take, map}
use Rattle.flow_log.specs.declared.cause.Cause.TheVariants.{Budget}
use Rattle.flow_log.specs.Log.{unexpanded_marks}
use Rattle.flow_worklist.specs.Analysis.{open_mark}
use Rattle.flow_worklist.proofs.automaton.push_unexpanded_marks.Given as goal

abbrev pub invariant-loop-number : goal.invariant-loop-number
invariant-loop-number g l = l.out.items ≡ l.initial.out.items ++ map open_mark (unexpanded_marks Budget (take l.number l.rows))
