use Rattle.std.proofs.Common.{◌≡◌, ◌++◌, take}
use Rattle.std.specs.Prelude.{flat_map}
use Rattle.table_check.specs.Text.{dirty_line}
use Rattle.table_check.proofs.print.push_dirty.Given as goal

abbrev pub invariant-loop-r : goal.invariant-loop-r
invariant-loop-r l = l.out.items ≡ l.initial.out.items ++ flat_map dirty_line (take l.r-index l.dirty)
