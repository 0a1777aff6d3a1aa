use Rattle.std.proofs.Common.{◌∙◌, ap}
use Rattle.std.proofs.lemmas.Result.{IfOk-weaker}
use Rattle.domain_laws.specs.Made.{values_of}
use Rattle.transfer_functions.proofs.Blocks.{stored-blocks}
use Rattle.transfer_functions.proofs.site.Site.store.Goals as goal

pub returns-clause-blocks : goal.returns-clause-blocks
returns-clause-blocks g c =
    let d = values_of g.D.Domain g.D.PartialEq.eq in
    IfOk-weaker c.store.result _ _ (λ done e. ap (λ x. x.1.state.parts.blocks) e ∙ stored-blocks d c.args.self.now.image.now c.args.w c.args.at c.args.v c.args.p.now) c.store.ensures
