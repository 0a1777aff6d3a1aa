use Rattle.transfer_functions.proofs.site.Site.test_bit.Goals as goal

pub change_bit-requires-after_bounds : goal.change_bit-requires-after_bounds
change_bit-requires-after_bounds g c κs within = c.bit_value-bit.ensures.holds c.p.inside.state.parts.blocks
