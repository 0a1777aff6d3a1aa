-- A row at the location covers the state where the code finds one by its number.
use Rattle.std.proofs.Common.{◌≡◌, true, false, List, sym, ◌∙◌, ap, subst}
use Rattle.std.proofs.lemmas.Result.{on_ok_weaker}
use Rattle.std.specs.List.{list_any}
use Rattle.domain_laws.specs.Made.{values_of}
use Rattle.flow_log.specs.Log.{Row}
use Rattle.abstract_state.specs.State.{Known}
use Rattle.flow_worklist.specs.Covering.{covers_at}
use Rattle.flow_worklist.specs.Exploring.{IsOf}
use Rattle.flow_worklist.proofs.Indexing.{with_row_by}
use Rattle.flow_worklist.proofs.exploring.Exploration.add_row.Goals as goal

pub returns-then-covers-clause-rows : goal.returns-then-covers-clause-rows
returns-then-covers-clause-rows g c =
    let d = values_of g.D.Domain g.D.PartialEq.eq in
    let rows = c.args.self.now.rows.items in
    let found : list_any (covers_at d rows c.args.state) c.args.visits.numbers.items ≡ true =
    ap (λ (l : List (Row (Known g.row.D.Denot))). list_any (covers_at d l c.args.state) c.args.visits.numbers.items) (sym c.deref.ensures.value) ∙ sym c.covers.ensures ∙ c.if-covers.true in
    on_ok_weaker c.put.result (λ done. ap (λ v. v.items) c.put.ensures.rows ∙ sym (with_row_by d c.args.visits c.args.budget c.args.parent c.args.at c.args.state rows true c.requires.taken found))
    c.put.ensures.indexed

pub returns-clause-rows : goal.returns-clause-rows
returns-clause-rows g c =
    let d = values_of g.D.Domain g.D.PartialEq.eq in
    let rows = c.args.self.now.rows.items in
    let none : list_any (covers_at d rows c.args.state) c.args.visits.numbers.items ≡ false =
    ap (λ (l : List (Row (Known g.row.D.Denot))). list_any (covers_at d l c.args.state) c.args.visits.numbers.items) (sym c.deref.ensures.value) ∙ sym c.covers.ensures ∙ c.if-covers.false in
    on_ok_weaker c.push_row.result (λ done. done ∙ sym (with_row_by d c.args.visits c.args.budget c.args.parent c.args.at c.args.state rows false c.requires.taken none))
    c.push_row.ensures.rows

pub covers-requires-clause-kept : goal.covers-requires-clause-kept
covers-requires-clause-kept g c κs within =
    let d = values_of g.D.Domain g.D.PartialEq.eq in
    let P : List (Row (Known g.row.D.Denot)) → Type 0 = λ l. IsOf d c.args.visits c.args.at l in
    subst P (sym c.deref.ensures.value) c.requires.taken
