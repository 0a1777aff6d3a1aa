-- Each place so far has its row.
use Rattle.std.proofs.Common.{◌≡◌, ℕ, ◌<◌, List, length, Option, Some, None, refl, sym, subst, arith, inl, inr}
use Rattle.std.specs.Prelude.{slice_get}
use Rattle.std.proofs.lemmas.Option.{slice_get_within}
use Rattle.domain_laws.specs.Made.{values_of}
use Rattle.flow_log.specs.Log.{Row}
use Rattle.flow_log.proofs.Members.{lt_or_le}
use Rattle.flow_worklist.specs.Covering.{row_nth, row_of}
use Rattle.flow_worklist.specs.Grouping.{HasPlace}
use Rattle.flow_worklist.proofs.row_index.index_of.Goals as goal

within : {S : Type 0} (rows : List (Row S)) (numbers : List ℕ) (place : ℕ) (row : Row S) → row_nth rows numbers place ≡ Some row → place < length numbers
within rows numbers place row e = by (slice_get numbers place) refl e
  where
    by : (o : Option ℕ) → slice_get numbers place ≡ o → row_of rows o ≡ Some row → place < length numbers
    by None is has = absurd (cc)
    by (Some n) is has = slice_get_within numbers place n is

pub loop-place-preserved : goal.loop-place-preserved
loop-place-preserved g c =
    let d = values_of g.D.Domain g.D.PartialEq.eq in
    let rows = c.args.rows.now in
    let numbers = c.args.numbers.now in
    λ p row below at. elim (lt_or_le p c.loop-place.place) [
      | inl less ↦ c.in_ok-add_nth.ensures.kept p row.state (c.loop-place.invariant p row less at)
      | inr more ↦
          let same : p ≡ c.loop-place.place = omega arith in
          subst (λ (q : ℕ). HasPlace d c.add_nth.new.index q row.state) (sym same)
          (c.in_ok-add_nth.ensures.has row (subst (λ (q : ℕ). row_nth rows numbers q ≡ Some row) same at))
    ]

pub returns : goal.returns
returns g c =
    λ place row at. c.loop-place.invariant place row (let below : place < length c.args.numbers.now = within c.args.rows.now c.args.numbers.now place row at in omega arith) at
