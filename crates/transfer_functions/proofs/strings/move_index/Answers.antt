use Rattle.transfer_functions.proofs.strings.move_index.Goals as goal

pub set_register-requires-after_bounds : goal.set_register-requires-after_bounds
set_register-requires-after_bounds g c κs within = c.above-there.ensures.holds c.args.s.now.parts.blocks c.register_value.ensures.holds c.requires
