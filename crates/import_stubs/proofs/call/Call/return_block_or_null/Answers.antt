use Rattle.std.proofs.Common.{◌∙◌, ap}
use Rattle.std.proofs.Math.Facts.{to_z-of_z}
use Rattle.std.proofs.lemmas.Result.{IfOk-weaker}
use Rattle.domain_laws.specs.Made.{values_of}
use Rattle.abstract_state.specs.Expanding.{joined}
use Rattle.import_stubs.specs.Stub.{returns_block, returns_null}
use Rattle.import_stubs.proofs.call.Call.return_block_or_null.Goals as goal

pub returns : goal.returns
returns g c =
    let d = values_of g.D.Domain g.D.PartialEq.eq in
    let image = c.args.self.now.image.now in
    let block = returns_block d image c.args.top c.args.site c.args.size c.args.zeroed c.args.p in
    let top = to_z-of_z c.ranges.top in
    let first = c.in_ok-first.ensures ∙ ap (λ t. returns_block d image t c.args.site c.args.size c.args.zeroed c.args.p) top in
    let second = c.in_ok-second.ensures ∙ ap (λ t. returns_null d image t c.args.site c.args.may_fail c.in_ok-rest.rest) top ∙ ap (λ q. returns_null d image c.args.top c.args.site c.args.may_fail q) c.in_ok-rest.ensures in
    IfOk-weaker c.join.result _ _ (λ x e. e ∙ ap (λ a. joined a c.in_ok-second.second) first ∙ ap (λ b. joined block b) second) c.join.ensures
