use Rattle.std.proofs.Common.{◌≡◌, ◌++◌, take, map}
use Rattle.std.specs.Prelude.{filter_map}
use Rattle.flow_log.specs.Log.{expansion_mark}
use Rattle.flow_worklist.specs.Analysis.{open_mark}
use Rattle.flow_worklist.proofs.automaton.push_expansion_marks.Given as goal

abbrev pub invariant-loop-noted : goal.invariant-loop-noted
invariant-loop-noted g l = l.out.items ≡ l.initial.out.items ++ map open_mark (filter_map (expansion_mark l.rows) (take l.noted-index l.causes))
