use Rattle.transfer_functions.proofs.site.Site.load_status.Goals as goal

pub set_part-requires-after_bounds : goal.set_part-requires-after_bounds
set_part-requires-after_bounds g c κs within = c.status_value-v.ensures.holds c.p.inside.state.parts.blocks
