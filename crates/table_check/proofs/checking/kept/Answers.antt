-- One row more.
use Rattle.std.proofs.Common.{◌≡◌, ◌+◌, ◌<◌, ◌∙◌, ◌++◌, ◌∷◌, [], ℕ, List, ap, arith, length, subst, sym, take}
use Rattle.std.specs.Prelude.{All}
use Rattle.std.proofs.lemmas.List.{take_all, take_more}
use Rattle.std.proofs.lemmas.List.Elements.{All-push}
use Rattle.domain_laws.specs.Made.{values_of}
use Rattle.abstract_state.specs.State.{IsWellState, Known}
use Rattle.table_check.proofs.checking.kept.Goals as goal

pub loop-row-preserved : goal.loop-row-preserved
loop-row-preserved g c =
    let d = values_of g.D.Domain g.D.PartialEq.eq in
    let rows = c.args.rows.now in
    let i = c.loop-row.row-index in
    let row = c.row-item.result in
    let within : i < length rows = omega (arith, c.loop-row-test.true) in
    let IsWell : ℕ × Known g.row.D.Denot → Type 0 = λ r. IsWellState d r.1 in
    let grown : take (i + 1) rows ≡ take i rows ++ row ∷ [] = take_more rows i row within ∙ ap (λ r. take i rows ++ r ∷ []) (sym c.row-item.is) in
    let P : List (ℕ × Known g.row.D.Denot) → Type 0 = λ l. All IsWell l in
    subst P (sym grown) (All-push IsWell (take i rows) row c.loop-row.invariant c.well.ensures)

pub returns-clause-well : goal.returns-clause-well
returns-clause-well g c =
    let d = values_of g.D.Domain g.D.PartialEq.eq in
    let P : List (ℕ × Known g.row.D.Denot) → Type 0 = λ l. All (λ (r : ℕ × Known g.row.D.Denot). IsWellState d r.1) l in
    subst P (take_all c.loop-row.row-index c.args.rows.now c.loop-row-test.false) c.loop-row.invariant
