use Rattle.domain_laws.specs.Made.{values_of}
use Rattle.transfer_functions.proofs.Holds.{write-place}
use Rattle.transfer_functions.proofs.site.Site.shift_by.Goals as goal

pub write-requires-after_bounds : goal.write-requires-after_bounds
write-requires-after_bounds g c κs within =
    let d = values_of g.D.Domain g.D.PartialEq.eq in
    let blocks = c.args.p.state.parts.blocks in
    write-place d blocks c.args.shape.w c.args.to c.shifted-r.result c.requires.place (c.shifted-r.ensures.holds blocks _ c.requires.value)
