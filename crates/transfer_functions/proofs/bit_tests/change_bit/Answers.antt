use Rattle.domain_laws.specs.Made.{values_of}
use Rattle.transfer_functions.proofs.Holds.{holds-word}
use Rattle.transfer_functions.proofs.bit_tests.change_bit.Goals as goal

pub set_part-requires-after_bounds : goal.set_part-requires-after_bounds
set_part-requires-after_bounds g c κs within =
    let d = values_of g.D.Domain g.D.PartialEq.eq in
    let blocks = c.args.s.now.parts.blocks in
    holds-word d blocks c.args.w c.bit_changed-v.result (c.bit_changed-v.ensures.holds blocks c.part-a.ensures.holds c.requires)
