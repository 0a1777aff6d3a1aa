use Rattle.std.proofs.Common.{◌∙◌, ap}
use Rattle.std.proofs.lemmas.Result.{IfOk-weaker}
use Rattle.domain_laws.specs.Made.{values_of}
use Rattle.abstract_state.proofs.AnyBytes.{any_stored-blocks}
use Rattle.import_stubs.proofs.call.Call.write_at.Goals as goal

pub returns-else-may_be_null-clause-blocks : goal.returns-else-may_be_null-clause-blocks
returns-else-may_be_null-clause-blocks g c =
    let d = values_of g.D.Domain g.D.PartialEq.eq in
    IfOk-weaker c.store_any.result _ _ (λ done e. ap (λ x. x.1.state.parts.blocks) e ∙ any_stored-blocks d c.args.self.now.image.now c.args.pointer c.args.n c.args.p.now) c.store_any.ensures
