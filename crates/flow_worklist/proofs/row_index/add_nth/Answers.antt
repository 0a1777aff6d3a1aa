-- The row of the place is put in there.
use Rattle.std.proofs.Common.{◌≡◌, None, Some, sym, ◌∙◌, subst}
use Rattle.std.proofs.lemmas.Result.{on_ok_weaker}
use Rattle.domain_laws.specs.Made.{values_of}
use Rattle.flow_log.specs.Log.{Row}
use Rattle.abstract_state.specs.State.{Known}
use Rattle.flow_worklist.specs.Covering.{row_nth}
use Rattle.flow_worklist.specs.Grouping.{HasPlace}
use Rattle.flow_worklist.proofs.row_index.add_nth.Goals as goal

pub returns-in-Some-clause-has : goal.returns-in-Some-clause-has
returns-in-Some-clause-has g c =
    let d = values_of g.D.Domain g.D.PartialEq.eq in
    let there : row_nth c.args.rows.now c.args.numbers.now c.args.place ≡ Some c.in-Some.row.now = sym c.in-Some.ensures in
    on_ok_weaker c.add.result (λ done row at.
    let same : Some c.in-Some.row.now ≡ Some row = sym there ∙ at in
    let is : c.in-Some.row.now ≡ row = cc in
    subst (λ (r : Row (Known g.row.D.Denot)). HasPlace d c.add.new.self c.args.place r.state) is
    (subst (λ (t : Known g.row.D.Denot). HasPlace d c.add.new.self c.args.place t) c.state.ensures done)) c.add.ensures.has

pub returns-in-None-clause-has : goal.returns-in-None-clause-has
returns-in-None-clause-has g c =
    λ row at.
    let none : None ≡ Some row = c.in-None.ensures ∙ at in
    absurd (cc)
