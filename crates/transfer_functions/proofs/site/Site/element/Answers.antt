use Rattle.transfer_functions.proofs.site.Site.element.Goals as goal

pub move_element-requires-after_bounds : goal.move_element-requires-after_bounds
move_element-requires-after_bounds g c κs within = c.step_by-step.ensures.holds c.args.p.state.parts.blocks

pub compare_element-requires-after_bounds : goal.compare_element-requires-after_bounds
compare_element-requires-after_bounds g c κs within = c.step_by-step.ensures.holds c.args.p.state.parts.blocks

pub store_element-requires-after_bounds : goal.store_element-requires-after_bounds
store_element-requires-after_bounds g c κs within = c.step_by-step.ensures.holds c.args.p.state.parts.blocks

pub load_element-requires-after_bounds : goal.load_element-requires-after_bounds
load_element-requires-after_bounds g c κs within = c.step_by-step.ensures.holds c.args.p.state.parts.blocks

pub scan_element-requires-after_bounds : goal.scan_element-requires-after_bounds
scan_element-requires-after_bounds g c κs within = c.step_by-step.ensures.holds c.args.p.state.parts.blocks
