use Rattle.domain_laws.specs.Made.{values_of}
use Rattle.transfer_functions.proofs.Holds.{write-place}
use Rattle.transfer_functions.proofs.site.Site.double_shift_by.Goals as goal

pub write-requires-after_bounds : goal.write-requires-after_bounds
write-requires-after_bounds g c κs within =
    let d = values_of g.D.Domain g.D.PartialEq.eq in
    let blocks = c.args.p.state.parts.blocks in
    write-place d blocks c.args.shape.w c.args.to c.double_shifted-r.result c.requires.place (c.double_shifted-r.ensures.holds blocks _ _ c.requires.value c.requires.behind)
