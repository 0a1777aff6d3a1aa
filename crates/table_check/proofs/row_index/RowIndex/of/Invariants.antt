use Rattle.std.proofs.Common.{take}
use Rattle.table_check.specs.Checking.{IsIndexOf}
use Rattle.table_check.proofs.row_index.RowIndex.of.Given as goal

abbrev pub invariant-loop-number : goal.invariant-loop-number
invariant-loop-number g l = IsIndexOf l.index (take l.number l.rows)
