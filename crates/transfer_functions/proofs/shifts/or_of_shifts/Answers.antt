use Rattle.bit_words.specs.declared.width.Width.TheVariants.{B32}
use Rattle.transfer_functions.proofs.shifts.or_of_shifts.Goals as goal

pub returns-clause-holds : goal.returns-clause-holds
returns-clause-holds g c = λ blocks u v h k.
    c.eval.ensures.holds blocks c.args.w c.args.w (c.eval-moved.ensures.holds blocks u B32 h (c.number-places.ensures.word blocks)) (c.eval-behind.ensures.holds blocks v B32 k (c.number-rest.ensures.word blocks))
