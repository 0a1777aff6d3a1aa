-- A table without rows fails at row 0, and else the answer is that of the findings; a yes is the theorem.
use Rattle.std.proofs.Common.{◌≡◌, ◌==◌, ◌∙◌, true, false, ℕ, List, length, subst, sym}
use Rattle.std.specs.Prelude.{All}
use Rattle.std.proofs.lemmas.Bool.{eq-eqb}
use Rattle.std.proofs.lemmas.Bool.Decides.{nat_tests}
use Rattle.std.proofs.Common.{arith}
use Rattle.std.proofs.lemmas.Result.{IfOk-weaker}
use Rattle.memory_map.specs.Image.{Image}
use Rattle.stub_file.specs.Stubs.{StatedStubs}
use Rattle.domain_laws.specs.Made.{values_of}
use Rattle.abstract_state.specs.State.{IsWellState, Known}
use Rattle.table_check.specs.declared.table.Table.{Table}
use Rattle.table_check.specs.Checking.{AreFindings, answer_found}
use Rattle.table_check.specs.Closed.{IsYes, table_answer}
use Rattle.table_check.specs.Laws.{RunsAreFollowedBy}
use Rattle.table_check.proofs.Answered.{answered, rowless, yes-followed}
use Rattle.table_check.proofs.checking.check_table.Goals as goal

pub returns-then-len-eq0-clause-answer : goal.returns-then-len-eq0-clause-answer
returns-then-len-eq0-clause-answer g c =
    let d = values_of g.D.Domain g.D.PartialEq.eq in
    let t = c.args.t.now in
    rowless d c.args.image.now c.args.stubs.now t (eq-eqb (length t.rows) 0 (sym c.len.ensures ∙ c.if-len-eq0.true))

pub returns-clause-answer : goal.returns-clause-answer
returns-clause-answer g c =
    let d = values_of g.D.Domain g.D.PartialEq.eq in
    let image = c.args.image.now in
    let stubs = c.args.stubs.now in
    let t = c.args.t.now in
    let check = c.in_ok-check.check in
    let found = c.in_ok-findings.field-0.items in
    let some : (length t.rows == 0) ≡ false = grind (arith, nat_tests, c.len.ensures, c.if-len-eq0.false) in
    let P : Image → Type 0 = λ i. AreFindings d i check.stubs.now check.table.now found in
    let Q : StatedStubs → Type 0 = λ s. AreFindings d image s check.table.now found in
    let R : Table g.row.D.Denot → Type 0 = λ x. AreFindings d image stubs x found in
    let are : AreFindings d image stubs t found = subst R c.in_ok-check.ensures.table (subst Q c.in_ok-check.ensures.stubs (subst P c.in_ok-check.ensures.image c.in_ok-findings.ensures)) in
    IfOk-weaker c.answer_of.result (λ answer. answer ≡ answer_found found) (λ answer. answer ≡ table_answer d image stubs t) (λ answer e. e ∙ answered d image stubs t found some are) c.answer_of.ensures

pub returns-clause-sound : goal.returns-clause-sound
returns-clause-sound g c =
    let d = values_of g.D.Domain g.D.PartialEq.eq in
    let met = g.met.D.Domain g.world.𝓛 g.world.𝓜 g.world.𝓡 ((λ s x. x), (λ x. x), (λ x. x), λ x. x) in
    let image = c.args.image.now in
    let stubs = c.args.stubs.now in
    let t = c.args.t.now in
    let P : List (ℕ × Known g.row.D.Denot) → Type 0 = λ rows. All (λ (row : ℕ × Known g.row.D.Denot). IsWellState d row.1) rows in
    let well = subst P c.as_slice.ensures c.kept.ensures.well in
    let check = c.in_ok-check.check in
    let found = c.in_ok-findings.field-0.items in
    let some : (length t.rows == 0) ≡ false = grind (arith, nat_tests, c.len.ensures, c.if-len-eq0.false) in
    let Q : Image → Type 0 = λ i. AreFindings d i check.stubs.now check.table.now found in
    let R : StatedStubs → Type 0 = λ s. AreFindings d image s check.table.now found in
    let S : Table g.row.D.Denot → Type 0 = λ x. AreFindings d image stubs x found in
    let are : AreFindings d image stubs t found = subst S c.in_ok-check.ensures.table (subst R c.in_ok-check.ensures.stubs (subst Q c.in_ok-check.ensures.image c.in_ok-findings.ensures)) in
    IfOk-weaker c.answer_of.result (λ answer. answer ≡ answer_found found) (λ answer. IsYes answer → RunsAreFollowedBy d image stubs t)
    (λ answer e. yes-followed d image stubs t met.lawful c.kept.ensures.loaded well answer (e ∙ answered d image stubs t found some are)) c.answer_of.ensures
