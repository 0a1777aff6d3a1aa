use Rattle.std.proofs.Common.{◌≡◌, ◌∙◌, None, subst, sym}
use Rattle.domain_laws.specs.Made.{values_of}
use Rattle.x86_syntax.specs.Text.{next_address}
use Rattle.abstract_state.specs.Expanding.{Path}
use Rattle.transfer_functions.specs.Flow.{landing}
use Rattle.transfer_functions.specs.Values.{operand_value}
use Rattle.transfer_functions.specs.Moves.{pushing}
use Rattle.transfer_functions.proofs.Targeting.{unread-target}
use Rattle.transfer_functions.proofs.site.Site.call.Goals as goal

pub returns-in-None : goal.returns-in-None
returns-in-None g c =
    let d = values_of g.D.Domain g.D.PartialEq.eq in
    let p = c.args.p in
    let site = c.args.self.now in
    let unread =
    subst (λ (q : Path g.row.D.Denot). operand_value d site.image.now c.args.target q.state ≡ None) c.p.view_is (sym c.read.ensures.value ∙ c.in-None.is) in
    c.ended.ensures
    ∙ sym (unread-target d site.image.now p c.args.target site.at site.len (λ a. pushing d site.image.now p (d.number (next_address site.at site.len)) (λ q. landing a q))
    unread)
