use Rattle.std.proofs.Common.{◌∙◌, ap}
use Rattle.std.proofs.lemmas.Result.{IfOk-weaker}
use Rattle.domain_laws.specs.Made.{values_of}
use Rattle.x86_syntax.specs.Text.{next_address}
use Rattle.abstract_state.specs.Expanding.{Path, joined}
use Rattle.transfer_functions.specs.Exchanges.{exchanged, not_exchanged}
use Rattle.transfer_functions.proofs.site.Site.exchanged_or_not.Goals as goal

pub returns : goal.returns
returns g c =
    let d = values_of g.D.Domain g.D.PartialEq.eq in
    let image = c.args.self.now.image.now in
    let next = next_address c.args.self.now.at c.args.self.now.len in
    let first = exchanged d image c.args.place c.args.w c.args.r c.args.both.0 c.args.both.1 next c.args.p in
    let rest = ap (λ (q : Path g.row.D.Denot). not_exchanged d image c.args.place c.args.w c.args.both.0 c.args.both.1 next q) c.in_ok-rest.ensures in
    IfOk-weaker c.join.result _ _ (λ x e. e ∙ ap (λ a. joined a c.in_ok-second.second) c.in_ok-first.ensures ∙ ap (λ b. joined first b) (c.in_ok-second.ensures ∙ rest)) c.join.ensures
