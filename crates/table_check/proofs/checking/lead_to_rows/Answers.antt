-- One pair that no row covers, or one more that some row does.
use Rattle.std.proofs.Common.{◌<◌, ◌==◌, ◌&&◌, ◌∙◌, ℕ, Bool, arith, length, sym}
use Rattle.std.specs.List.{list_any}
use Rattle.domain_laws.specs.Made.{values_of}
use Rattle.abstract_state.specs.State.{Known, covers_state}
use Rattle.table_check.proofs.Covering.{all_more, not_all}
use Rattle.table_check.proofs.checking.lead_to_rows.Goals as goal

pub returns-then-not-covers : goal.returns-then-not-covers
returns-then-not-covers g c =
    let d = values_of g.D.Domain g.D.PartialEq.eq in
    let t : ℕ × Known g.row.D.Denot → Bool = λ pair. list_any (λ (row : ℕ × Known g.row.D.Denot). row.0 == pair.0 && covers_state d row.1 pair.1) c.args.rows.now in
    let next = c.args.next.now in
    let i = c.loop-pair.pair-index in
    let within : i < length next = omega (arith, c.loop-pair-test.true) in
    sym (not_all t next i c.pair-item.result within c.pair-item.is (sym c.covers.ensures ∙ c.if-not-covers.true))

pub loop-pair-preserved : goal.loop-pair-preserved
loop-pair-preserved g c =
    let d = values_of g.D.Domain g.D.PartialEq.eq in
    let t : ℕ × Known g.row.D.Denot → Bool = λ pair. list_any (λ (row : ℕ × Known g.row.D.Denot). row.0 == pair.0 && covers_state d row.1 pair.1) c.args.rows.now in
    let next = c.args.next.now in
    let i = c.loop-pair.pair-index in
    let within : i < length next = omega (arith, c.loop-pair-test.true) in
    all_more t next i c.pair-item.result within c.pair-item.is c.loop-pair.invariant (sym c.covers.ensures ∙ c.if-not-covers.false)
