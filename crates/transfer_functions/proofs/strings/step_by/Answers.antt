use Rattle.bit_words.specs.declared.width.Width.TheVariants.{B32}
use Rattle.transfer_functions.proofs.strings.step_by.Goals as goal

pub returns-in-Unknown-clause-holds : goal.returns-in-Unknown-clause-holds
returns-in-Unknown-clause-holds g c = λ blocks. c.anything.ensures.holds blocks B32
