use Rattle.std.proofs.Common.{◌≡◌, ◌++◌, map, take}
use Rattle.table_check.specs.Text.{truth_code}
use Rattle.table_check.proofs.print.push_truths.Given as goal

abbrev pub invariant-loop-t : goal.invariant-loop-t
invariant-loop-t l = l.out.items ≡ l.initial.out.items ++ map truth_code (take l.t-index l.truths)
