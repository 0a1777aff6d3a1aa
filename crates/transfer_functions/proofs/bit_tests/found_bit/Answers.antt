use Rattle.bit_words.specs.declared.width.Width.TheVariants.{B32}
use Rattle.transfer_functions.proofs.bit_tests.found_bit.Goals as goal

pub returns-in-No-clause-holds : goal.returns-in-No-clause-holds
returns-in-No-clause-holds g c = λ blocks v h. c.eval.ensures.holds blocks v B32 h (c.number-second.ensures.word blocks)

pub returns-in-Yes-clause-holds : goal.returns-in-Yes-clause-holds
returns-in-Yes-clause-holds g c = λ blocks v h. c.anything.ensures.holds blocks c.args.w
