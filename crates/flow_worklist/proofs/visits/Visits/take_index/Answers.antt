-- The index that is there, or made, is one of the states.
use Rattle.std.proofs.Common.{Option, Some, List, map, sym, ◌∙◌, ap, subst}
use Rattle.std.specs.Prelude.{slice_get}
use Rattle.domain_laws.specs.Made.{values_of}
use Rattle.flow_log.specs.Log.{rows_at, states_at}
use Rattle.abstract_state.specs.State.{Known}
use Rattle.flow_worklist.specs.declared.row_index.RowIndex.{RowIndex}
use Rattle.flow_worklist.specs.Grouping.{IsIndexOf}
use Rattle.flow_worklist.proofs.Grouping.{index-made}
use Rattle.flow_worklist.proofs.Indexing.{states_are}
use Rattle.flow_worklist.proofs.visits.Visits.take_index.Goals as goal

pub returns-in-Some-clause-index : goal.returns-in-Some-clause-index
returns-in-Some-clause-index g c =
    let d = values_of g.D.Domain g.D.PartialEq.eq in
    let P : Option RowIndex → Type 0 = λ o. IsIndexOf d o (states_at c.args.at c.args.rows.now) in
    subst P (sym c.in-Some.ensures.index) c.requires.indexed

pub returns-in_ok-new-in-None-clause-index : goal.returns-in_ok-new-in-None-clause-index
returns-in_ok-new-in-None-clause-index g c =
    let d = values_of g.D.Domain g.D.PartialEq.eq in
    let at = c.args.at in
    let rows = c.args.rows.now in
    let found = ap (map (slice_get rows)) (c.deref.ensures.value ∙ ap (λ v. v.items) c.take_kept.ensures.numbers) ∙ c.requires.numbers in
    let made = index-made d c.in_ok-index-in-None.index rows c.deref.result.now (rows_at at rows) found c.in_ok-index-in-None.ensures in
    let P : List (Known g.row.D.Denot) → Type 0 = λ states. IsIndexOf d (Some c.in_ok-index-in-None.index) states in
    let Q : RowIndex → Type 0 = λ index. IsIndexOf d (Some index) (states_at at rows) in
    subst Q (sym c.in_ok-new-in-None.ensures.ok) (subst P (sym (states_are at rows)) made)
