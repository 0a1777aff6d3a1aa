use Rattle.domain_laws.specs.Made.{values_of}
use Rattle.transfer_functions.proofs.Holds.{holds-word}
use Rattle.transfer_functions.proofs.site.Site.find_bit.Goals as goal

pub set_part-requires-after_bounds : goal.set_part-requires-after_bounds
set_part-requires-after_bounds g c κs within =
    let d = values_of g.D.Domain g.D.PartialEq.eq in
    let blocks = c.p.inside.state.parts.blocks in
    holds-word d blocks c.args.w c.found_bit-place.result (c.found_bit-place.ensures.holds blocks _ c.in-Some.ensures.holds)
