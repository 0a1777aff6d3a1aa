-- The rows and the open locations, each once; and the law.
use Rattle.std.proofs.Common.{◌≡◌, ℕ, List, map, ap, subst, sym, ◌∙◌}
use Rattle.std.specs.Ordering.{nat_cmp}
use Rattle.bounded_values.specs.declared.value.Bounded.{Bounded}
use Rattle.bounded_values.specs.BoundedLaws.{bounded, bounded-lawful}
use Rattle.abstract_state.specs.State.{Known}
use Rattle.flow_log.specs.declared.cause.Cause.TheVariants.{Budget}
use Rattle.flow_log.specs.Log.{marks_by, pair_of}
use Rattle.flow_log.specs.Ordered.{ordered_set}
use Rattle.table_check.specs.declared.table.Table.{Table}
use Rattle.table_check.specs.Closed.{IsYes, table_answer}
use Rattle.jakstab_core.specs.Tables.{table_of}
use Rattle.jakstab_core.proofs.Tabling.{at, table-closed}
use Rattle.jakstab_core.proofs.tables.table_of.Goals as goal

abbrev table : ℕ → List (ℕ × Known Bounded) → List ℕ → Table Bounded
table k rows marked = record { k = k; rows = rows; marked = marked }

pub returns-clause-table : goal.returns-clause-table
unfolding table_of
returns-clause-table c =
    let log = c.args.log.now in
    let rows : c.from_vec.result ≡ map pair_of log.rows = c.from_vec.ensures ∙ c.in_ok-rows.ensures ∙ ap (map pair_of) c.rows.ensures in
    let marked : c.from_vec-2.result ≡ ordered_set nat_cmp (map at (marks_by Budget log)) =
    c.from_vec-2.ensures ∙ c.sorted_set.ensures ∙ ap (ordered_set nat_cmp) c.in_ok-places.ensures in
    ap (λ r. table c.args.k r c.from_vec-2.result) rows ∙ ap (table c.args.k (map pair_of log.rows)) marked

pub returns-clause-closed : goal.returns-clause-closed
unfolding table_of
returns-clause-closed c = λ budget is.
    let log = c.args.log.now in
    let k = c.args.k in
    let rows : c.from_vec.result ≡ map pair_of log.rows = c.from_vec.ensures ∙ c.in_ok-rows.ensures ∙ ap (map pair_of) c.rows.ensures in
    let marked : c.from_vec-2.result ≡ ordered_set nat_cmp (map at (marks_by Budget log)) =
    c.from_vec-2.ensures ∙ c.sorted_set.ensures ∙ ap (ordered_set nat_cmp) c.in_ok-places.ensures in
    let same : table k c.from_vec.result c.from_vec-2.result ≡ table_of k log = ap (λ r. table k r c.from_vec-2.result) rows ∙ ap (table k (map pair_of log.rows)) marked in
    let P : Table Bounded → Type 0 = λ t. IsYes (table_answer bounded c.args.image.now c.args.stubs.now t) in
    subst P (sym same) (table-closed bounded bounded-lawful c.args.image.now c.args.stubs.now c.entry.ensures.loaded k budget log is)
