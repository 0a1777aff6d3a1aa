-- The log has a row, and fewer than 2^32, and it is that of the image.
use Rattle.std.proofs.Common.{◌≡◌, ◌<◌, IfOk, length, sym, subst}
use Rattle.bounded_values.specs.declared.value.Bounded.{Bounded}
use Rattle.bounded_values.specs.BoundedLaws.{bounded}
use Rattle.flow_worklist.specs.Analysis.{ImageLog}
use Rattle.flow_worklist.proofs.Spelling.{log_has_row}
use Rattle.jakstab_core.proofs.tables.table_text.Goals as goal

pub table_of-requires-clause-some : goal.table_of-requires-clause-some
table_of-requires-clause-some g c =
    let P : ImageLog Bounded → Type 0 = λ log. 0 < length log.rows in
    subst P (sym c.in_ok-log.ensures.log) (log_has_row bounded c.args.image.now c.args.stubs.now c.args.limits.k c.args.limits.budget)

pub table_of-requires-clause-few : goal.table_of-requires-clause-few
table_of-requires-clause-few g c = c.in_ok-log.ensures.few
