use Rattle.std.proofs.Common.{◌≡◌, ℕ, take, nat_eq}
use Rattle.std.specs.HashSet.{contains}
use Rattle.table_check.specs.Closed.{is_marked}
use Rattle.table_check.proofs.marks.Marks.of.Given as goal

abbrev pub invariant-loop-at : goal.invariant-loop-at
invariant-loop-at l = (q : ℕ) → contains nat_eq l.held q ≡ is_marked (take l.at-index l.marked) q
