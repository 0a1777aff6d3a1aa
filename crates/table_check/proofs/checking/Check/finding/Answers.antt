-- The row of a number is the one that has it.
use Rattle.std.proofs.Common.{◌≡◌, ℕ, ◌<◌, ◌∙◌, List, length, Some, ap, arith, refl, subst, sym}
use Rattle.std.specs.Prelude.{slice_get}
use Rattle.std.proofs.lemmas.Option.{same_Some, slice_get_read}
use Rattle.std.proofs.lemmas.Result.{IfOk-weaker}
use Rattle.domain_laws.specs.Made.{values_of}
use Rattle.abstract_state.specs.State.{Known}
use Rattle.table_check.specs.Checking.{IsFindingAt, IsFindingOf}
use Rattle.table_check.proofs.checking.Check.finding.Goals as goal

pub offset_bounds-rows-number : goal.offset_bounds-rows-number
offset_bounds-rows-number g c = omega (arith, c.requires, ap (λ (l : List (ℕ × Known g.row.D.Denot)). length l) c.as_slice-rows.ensures)

pub bounds-rows-number : goal.bounds-rows-number
bounds-rows-number g c = omega (arith, c.requires, ap (λ (l : List (ℕ × Known g.row.D.Denot)). length l) c.as_slice-rows.ensures)

pub returns : goal.returns
returns g c =
    let d = values_of g.D.Domain g.D.PartialEq.eq in
    let check = c.args.self.now in
    let number = c.args.number in
    let rows = c.as_slice-rows.result.now in
    let result = c.index-rows-number.result in
    let all : rows ≡ check.table.now.rows = c.as_slice-rows.ensures in
    let within : number < length rows = omega (arith, c.requires, ap length all) in
    let here : slice_get rows number ≡ Some result = slice_get_read rows (length rows) number result refl within c.index-rows-number.is in
    IfOk-weaker c.row.result (IsFindingOf d check.image.now check.stubs.now check.table.now number result) (IsFindingAt d check.image.now check.stubs.now check.table.now number)
    (λ f h row at.
    let P : ℕ × Known g.row.D.Denot → Type 0 = λ r. IsFindingOf d check.image.now check.stubs.now check.table.now number r f in
    subst P (same_Some result row (sym here ∙ ap (λ l. slice_get l number) all ∙ at)) h)
    c.row.ensures
