use Rattle.bit_words.specs.declared.width.Width.TheVariants.{B32}
use Rattle.transfer_functions.proofs.values.set_part.Goals as goal

pub set_register-requires-after_bounds : goal.set_register-requires-after_bounds
set_register-requires-after_bounds g c κs within = c.eval-put.ensures.holds c.args.s.now.parts.blocks B32 B32 c.register_value-old.ensures.holds c.requires

pub set_register-requires-in-B16-after_bounds : goal.set_register-requires-in-B16-after_bounds
set_register-requires-in-B16-after_bounds g c κs within = c.eval-put-in-B16.ensures.holds c.args.s.now.parts.blocks B32 B32 c.register_value-old-in-B16.ensures.holds c.requires
