use Rattle.transfer_functions.proofs.site.Site.multiply.Goals as goal

pub set_part-requires-after_bounds : goal.set_part-requires-after_bounds
set_part-requires-after_bounds g c κs within = c.product-low.ensures.holds c.p.inside.state.parts.blocks
