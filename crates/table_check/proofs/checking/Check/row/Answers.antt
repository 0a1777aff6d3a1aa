-- The start, a marked row, or one at a location that is not.
use Rattle.std.proofs.Common.{◌≡◌, ◌==◌, ◌&&◌, ◌∙◌, Bool, true, false, ap, sym}
use Rattle.std.specs.Prelude.{not}
use Rattle.std.proofs.lemmas.Result.{IfOk-weaker}
use Rattle.domain_laws.specs.Made.{values_of}
use Rattle.abstract_state.specs.State.{Known, covers_state}
use Rattle.table_check.specs.Checking.{IsExpandedOf, IsFindingOf, table_analysis}
use Rattle.table_check.specs.Closed.{broken_by, clause_broken, edges_from, is_marked, leads_from}
use Rattle.table_check.proofs.Answering.{broken-open, broken-start, edges-marked, edges-open, finding-same, unbroken-marked}
use Rattle.table_check.proofs.checking.Check.row.Goals as goal

pub returns-then-is_wrong_start : goal.returns-then-is_wrong_start
returns-then-is_wrong_start g c =
    let d = values_of g.D.Domain g.D.PartialEq.eq in
    let check = c.args.self.now in
    let t = check.table.now in
    let row = c.args.row.now in
    let number = c.args.number in
    let wrong : Known g.row.D.Denot → Bool = λ start. number == 0 && not (row.0 == check.image.now.entry && covers_state d row.1 start) in
    broken-start (table_analysis d check.image.now check.stubs.now t) t.marked t.rows number row
    (sym (ap wrong check.started) ∙ sym c.is_wrong_start.ensures ∙ c.if-is_wrong_start.true)

pub returns-then-contain : goal.returns-then-contain
returns-then-contain g c =
    let d = values_of g.D.Domain g.D.PartialEq.eq in
    let check = c.args.self.now in
    let t = check.table.now in
    let row = c.args.row.now in
    let number = c.args.number in
    let a = table_analysis d check.image.now check.stubs.now t in
    let wrong : Known g.row.D.Denot → Bool = λ start. number == 0 && not (row.0 == check.image.now.entry && covers_state d row.1 start) in
    let right = sym (ap wrong check.started) ∙ sym c.is_wrong_start.ensures ∙ c.if-is_wrong_start.false in
    let on : is_marked t.marked row.0 ≡ true = sym (check.marked.kept row.0) ∙ sym c.contain.ensures ∙ c.if-contain.true in
    (unbroken-marked a t.marked t.rows number row right on, c.new.ensures.items ∙ sym (edges-marked a t.marked t.rows row on))

pub returns : goal.returns
returns g c =
    let d = values_of g.D.Domain g.D.PartialEq.eq in
    let check = c.args.self.now in
    let t = check.table.now in
    let row = c.args.row.now in
    let number = c.args.number in
    let a = table_analysis d check.image.now check.stubs.now t in
    let wrong : Known g.row.D.Denot → Bool = λ start. number == 0 && not (row.0 == check.image.now.entry && covers_state d row.1 start) in
    let right = sym (ap wrong check.started) ∙ sym c.is_wrong_start.ensures ∙ c.if-is_wrong_start.false in
    let off : is_marked t.marked row.0 ≡ false = sym (check.marked.kept row.0) ∙ sym c.contain.ensures ∙ c.if-contain.false in
    IfOk-weaker c.expanded.result (IsExpandedOf d check.image.now check.stubs.now t row) (IsFindingOf d check.image.now check.stubs.now t number row)
    (λ f h.
    finding-same (broken_by a t.marked t.rows row) (clause_broken a t.marked t.rows number row) (leads_from a t.marked t.rows row) (edges_from a t.marked t.rows row) f
    (sym (broken-open a t.marked t.rows number row right off)) (sym (edges-open a t.marked t.rows row off)) h)
    c.expanded.ensures
