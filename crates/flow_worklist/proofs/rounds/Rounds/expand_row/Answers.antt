-- What is taken in is the expansion of the row of that number.
use Rattle.std.proofs.Common.{◌≡◌, ◌<◌, Some, length, vec_len, refl, ◌∙◌, arith}
use Rattle.std.specs.Prelude.{slice_get}
use Rattle.std.proofs.lemmas.Option.{slice_get_read}
use Rattle.domain_laws.specs.Made.{values_of}
use Rattle.flow_worklist.specs.Exploring.{log_in}
use Rattle.flow_worklist.proofs.Taking.{row_is}
use Rattle.flow_worklist.proofs.rounds.Rounds.expand_row.Goals as goal

pub returns-clause-log : goal.returns-clause-log
returns-clause-log g c =
    let rounds = c.args.self.now in
    let rows = c.args.exploration.now.rows in
    let number = c.args.number in
    let row = c.index-row.result.now in
    let count : vec_len rows ≡ length rows.items = rows.ok.0 in
    let asked = c.requires.some in
    let within : number < length rows.items = omega (arith, count, asked) in
    let at : slice_get rows.items number ≡ Some row = slice_get_read rows.items (length rows.items) number row refl within c.index-row.ensures in
    c.in_ok-take_in.ensures.log
    ∙ row_is (values_of g.D.Domain g.D.PartialEq.eq) rounds.image.now rounds.stubs.now rounds.limits.k rounds.limits.budget number row c.in_ok-post.post (log_in c.args.exploration.now) at c.in_ok-post.ensures
