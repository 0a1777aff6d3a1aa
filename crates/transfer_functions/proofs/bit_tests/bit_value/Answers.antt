use Rattle.bit_words.specs.declared.width.Width.TheVariants.{B32}
use Rattle.transfer_functions.proofs.bit_tests.bit_value.Goals as goal

pub returns-in-None-clause-holds : goal.returns-in-None-clause-holds
returns-in-None-clause-holds g c = λ blocks. c.anything.ensures.holds blocks c.args.w

pub returns-in-Some-clause-holds : goal.returns-in-Some-clause-holds
returns-in-Some-clause-holds g c = λ blocks. c.eval.ensures.holds blocks B32 B32 (c.number-one.ensures.word blocks) (c.number-places.ensures.word blocks)
