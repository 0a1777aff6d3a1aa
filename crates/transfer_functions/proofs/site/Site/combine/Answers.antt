use Rattle.std.proofs.Common.{subst}
use Rattle.abstract_state.specs.Expanding.{Path}
use Rattle.transfer_functions.specs.Values.{MayWrite}
use Rattle.domain_laws.specs.Made.{values_of}
use Rattle.transfer_functions.proofs.Holds.{combine-place}
use Rattle.transfer_functions.proofs.site.Site.combine.Goals as goal

pub write-requires-after_bounds : goal.write-requires-after_bounds
write-requires-after_bounds g c κs within =
    let d = values_of g.D.Domain g.D.PartialEq.eq in
    let place = combine-place c.args.shape.op c.args.shape.rule c.args.shape.w c.args.to c.args.from c.requires in
    subst (λ (q : Path g.row.D.Denot). MayWrite d q.state.parts.blocks c.args.to c.combined-r.result) c.p.view_is
    (c.combined-r.ensures.writable c.p.inside.state.parts.blocks _ place c.in-Some.ensures.left c.in-Some.ensures.right)
