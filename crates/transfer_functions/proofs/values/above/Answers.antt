use Rattle.bit_words.specs.declared.width.Width.TheVariants.{B32}
use Rattle.transfer_functions.proofs.values.above.Goals as goal

pub returns-clause-holds : goal.returns-clause-holds
returns-clause-holds g c = λ blocks h k. c.eval.ensures.holds blocks B32 B32 h k
