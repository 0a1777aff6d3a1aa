use Rattle.std.proofs.Common.{subst}
use Rattle.abstract_state.specs.Expanding.{Path}
use Rattle.transfer_functions.specs.Values.{MayWrite}
use Rattle.domain_laws.specs.Made.{values_of}
use Rattle.transfer_functions.proofs.Holds.{carry-place, write-place}
use Rattle.transfer_functions.proofs.site.Site.carry.Goals as goal

pub write-requires-after_bounds : goal.write-requires-after_bounds
write-requires-after_bounds g c κs within =
    let d = values_of g.D.Domain g.D.PartialEq.eq in
    let place = carry-place c.args.shape.op c.args.shape.rule c.args.shape.w c.args.to c.args.from c.requires in
    let blocks = c.p.inside.state.parts.blocks in
    subst (λ (q : Path g.row.D.Denot). MayWrite d q.state.parts.blocks c.args.to c.carried-r.result) c.p.view_is
    (write-place d blocks c.args.shape.w c.args.to c.carried-r.result place (c.carried-r.ensures.holds blocks _ _ c.in-Some.ensures.left c.in-Some.ensures.right))
