-- What is kept of the other locations is as it was.
use Rattle.std.proofs.Common.{Option, List, sym, ◌∙◌, ap, subst}
use Rattle.std.specs.Prelude.{nat_eq}
use Rattle.std.specs.HashMap.{get}
use Rattle.domain_laws.specs.Made.{values_of}
use Rattle.flow_log.specs.Log.{Row}
use Rattle.abstract_state.specs.State.{Known}
use Rattle.flow_worklist.specs.declared.visits.Visits.{Visits}
use Rattle.flow_worklist.specs.Exploring.{IsKept, IsIndexedBut, IsOf}
use Rattle.flow_worklist.proofs.exploring.Exploration.add.Goals as goal

pub add_row-requires-clause-others : goal.add_row-requires-clause-others
add_row-requires-clause-others g c =
    let d = values_of g.D.Domain g.D.PartialEq.eq in
    let before = c.args.self.now in
    let after = c.take-visits.new.self in
    let made : IsIndexedBut d c.args.edge.to after = record {
      kept = λ q apart.
          let P : Option (Visits g.row.D.Denot) → Type 0 = λ o. IsKept d o q after.rows.items in
          let Q : List (Row (Known g.row.D.Denot)) → Type 0 = λ rows. IsKept d (get nat_eq before.visits q) q rows in
          subst P (sym (c.take-visits.ensures.others q apart)) (subst Q (sym (ap (λ v. v.items) c.take-visits.ensures.rows)) (c.requires.kept q));
    } in
    λ κs h. made

pub widened-requires-after_bounds : goal.widened-requires-after_bounds
widened-requires-after_bounds g c κs within =
    let d = values_of g.D.Domain g.D.PartialEq.eq in
    let Q : List (Row (Known g.row.D.Denot)) → Type 0 = λ rows. IsOf d c.take-visits.result c.args.edge.to rows in
    subst Q (ap (λ v. v.items) (sym c.take-visits.ensures.rows) ∙ sym c.deref.ensures.value) c.take-visits.ensures.taken

pub add_row-requires-clause-taken : goal.add_row-requires-clause-taken
add_row-requires-clause-taken g c κs within =
    let d = values_of g.D.Domain g.D.PartialEq.eq in
    let Q : List (Row (Known g.row.D.Denot)) → Type 0 = λ rows. IsOf d c.widened.new.self c.args.edge.to rows in
    subst Q c.deref.ensures.value c.in_ok-widened.ensures.kept
