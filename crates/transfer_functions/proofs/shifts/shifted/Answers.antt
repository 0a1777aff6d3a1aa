use Rattle.bit_words.specs.declared.width.Width.TheVariants.{B32}
use Rattle.transfer_functions.proofs.shifts.shifted.Goals as goal

pub returns-in-None-clause-holds : goal.returns-in-None-clause-holds
returns-in-None-clause-holds g c = λ blocks v h. c.anything.ensures.holds blocks c.args.w

pub returns-in-Some-clause-holds : goal.returns-in-Some-clause-holds
returns-in-Some-clause-holds g c = λ blocks v h. c.eval.ensures.holds blocks v B32 h (c.number-places.ensures.word blocks)
