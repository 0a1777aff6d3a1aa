use Rattle.transfer_functions.proofs.site.Site.multiply_long.Goals as goal

pub set_long-requires-clause-low : goal.set_long-requires-clause-low
set_long-requires-clause-low g c κs within = c.product-low.ensures.holds c.p.inside.state.parts.blocks

pub set_long-requires-clause-high : goal.set_long-requires-clause-high
set_long-requires-clause-high g c κs within = c.product-upper.ensures.holds c.p.inside.state.parts.blocks
