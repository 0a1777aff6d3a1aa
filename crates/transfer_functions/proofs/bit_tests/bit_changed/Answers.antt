use Rattle.bit_words.specs.declared.width.Width.TheVariants.{B32}
use Rattle.transfer_functions.proofs.bit_tests.bit_changed.Goals as goal

pub returns-in-SetBit-clause-holds : goal.returns-in-SetBit-clause-holds
returns-in-SetBit-clause-holds g c = λ blocks h k. c.eval.ensures.holds blocks c.args.w c.args.w h k

pub returns-in-ClearBit-clause-holds : goal.returns-in-ClearBit-clause-holds
returns-in-ClearBit-clause-holds g c =
    λ blocks h k. c.eval-in-ClearBit.ensures.holds blocks c.args.w c.args.w h (c.eval-others.ensures.holds blocks c.args.w B32 k (c.number-zero.ensures.word blocks))

pub returns-in-FlipBit-clause-holds : goal.returns-in-FlipBit-clause-holds
returns-in-FlipBit-clause-holds g c = λ blocks h k. c.eval-in-FlipBit.ensures.holds blocks c.args.w c.args.w h k
