use Rattle.bit_words.specs.declared.width.Width.TheVariants.{B32}
use Rattle.transfer_functions.proofs.tests.base_value.Goals as goal

pub returns-then-eq : goal.returns-then-eq
returns-then-eq g c = c.anything.ensures.holds c.args.s.now.parts.blocks B32
