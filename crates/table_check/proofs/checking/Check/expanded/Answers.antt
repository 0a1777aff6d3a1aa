-- The row's first clause that fails, or its edges.
use Rattle.std.proofs.Common.{◌==◌, ◌&&◌, ◌∙◌, ℕ, Bool, List, true, false, ap, length, map, subst, sym}
use Rattle.std.specs.List.{list_all, list_any}
use Rattle.std.proofs.Crossing.{crosses}
use denote.Param.Send.{sendable}
use Rattle.domain_laws.specs.Made.{values_of}
use Rattle.flow_log.specs.declared.cause.Cause.{Cause}
use Rattle.flow_log.specs.declared.edge.Edge.{Edge}
use Rattle.flow_worklist.specs.Analysis.{edge_by}
use Rattle.abstract_state.specs.State.{Known, covers_state}
use Rattle.table_check.specs.Checking.{IsIndexOf}
use Rattle.table_check.proofs.Posting.{cause-found, edges-found, next-found, none-found}
use Rattle.table_check.proofs.checking.Check.expanded.Goals as goal

pub lead_to_rows-requires : goal.lead_to_rows-requires
lead_to_rows-requires g c =
    let check = c.args.self.now in
    let send = c.type_bounds.send-D in
    let sync = c.type_bounds.sync-D in
    let P : List (ℕ × Known g.row.D.Denot) → Type 0 = λ rows. IsIndexOf check.index rows in
    let here : IsIndexOf check.index c.as_slice-rows.result.now = subst P (sym c.as_slice-rows.ensures) check.indexed in
    search (sendable, crosses, here) depth 40

pub returns-then-not-is_empty : goal.returns-then-not-is_empty
returns-then-not-is_empty g c =
    let d = values_of g.D.Domain g.D.PartialEq.eq in
    let check = c.args.self.now in
    let post = c.in_ok-post.post in
    let none : List Cause → Bool = λ causes. length causes == 0 in
    cause-found d check.image.now check.stubs.now check.table.now c.args.row.now post c.in_ok-post.ensures
    (ap none (sym c.causes.ensures) ∙ sym c.is_empty.ensures ∙ c.if-not-is_empty.true)

pub returns-then-not-lead_to_rows : goal.returns-then-not-lead_to_rows
returns-then-not-lead_to_rows g c =
    let d = values_of g.D.Domain g.D.PartialEq.eq in
    let check = c.args.self.now in
    let post = c.in_ok-post.post in
    let none : List Cause → Bool = λ causes. length causes == 0 in
    let leads : List (ℕ × Known g.row.D.Denot) → List (ℕ × Known g.row.D.Denot) → Bool =
    λ rows next. list_all (λ pair. list_any (λ row. row.0 == pair.0 && covers_state d row.1 pair.1) rows) next in
    next-found d check.image.now check.stubs.now check.table.now c.args.row.now post c.in_ok-post.ensures
    (ap none (sym c.causes.ensures) ∙ sym c.is_empty.ensures ∙ c.if-not-is_empty.false)
    (ap (λ rows. leads rows post.expansion.next) (sym c.as_slice-rows.ensures) ∙ ap (leads c.as_slice-rows.result.now) (sym c.next.ensures)
    ∙ sym c.lead_to_rows.ensures ∙ c.if-not-lead_to_rows.true)

pub returns : goal.returns
returns g c =
    let d = values_of g.D.Domain g.D.PartialEq.eq in
    let check = c.args.self.now in
    let post = c.in_ok-post.post in
    let none : List Cause → Bool = λ causes. length causes == 0 in
    let leads : List (ℕ × Known g.row.D.Denot) → List (ℕ × Known g.row.D.Denot) → Bool =
    λ rows next. list_all (λ pair. list_any (λ row. row.0 == pair.0 && covers_state d row.1 pair.1) rows) next in
    let edges : List (ℕ × Known g.row.D.Denot) → List Edge = λ next. map (λ pair. edge_by post.at post.label pair.0) next in (
      none-found d check.image.now check.stubs.now check.table.now c.args.row.now post c.in_ok-post.ensures
          (ap none (sym c.causes.ensures) ∙ sym c.is_empty.ensures ∙ c.if-not-is_empty.false)
          (ap (λ rows. leads rows post.expansion.next) (sym c.as_slice-rows.ensures) ∙ ap (leads c.as_slice-rows.result.now) (sym c.next.ensures)
          ∙ sym c.lead_to_rows.ensures ∙ c.if-not-lead_to_rows.false),
      c.in_ok-edges.ensures ∙ ap edges c.next-2.ensures ∙ edges-found d check.image.now check.stubs.now check.table.now c.args.row.now post c.in_ok-post.ensures,
    )
