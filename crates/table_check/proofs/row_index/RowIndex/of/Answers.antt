use Rattle.std.proofs.Common.{◌<◌, List, length, subst, arith, ℕ}
use Rattle.std.proofs.lemmas.List.{take_all}
use Rattle.table_check.specs.Checking.{IsIndexOf}
use Rattle.table_check.proofs.Indexing.{index_grows, index_none}
use Rattle.table_check.proofs.row_index.RowIndex.of.Goals as goal

pub loop-number-init : goal.loop-number-init
loop-number-init g c = index_none record { numbers = c.new.result } c.new.ensures.empty

pub loop-number-preserved : goal.loop-number-preserved
loop-number-preserved g c =
    let rows = c.args.rows.now in
    let n = c.loop-number.number in
    let within : n < length rows = omega (arith, c.loop-number-test.true) in
    index_grows c.loop-number.index c.add.new.self rows n c.index-rows-number.result within c.index-rows-number.is c.loop-number.invariant c.in_ok-add.ensures

pub returns : goal.returns
returns g c =
    let P : List (ℕ × g.row.S.Denot) → Type 0 = λ l. IsIndexOf c.loop-number.index l in
    subst P (take_all c.loop-number.number c.args.rows.now c.loop-number-test.false) c.loop-number.invariant
