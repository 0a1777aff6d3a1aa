use Rattle.transfer_functions.proofs.arithmetic.carried.Goals as goal

pub returns-clause-holds : goal.returns-clause-holds
returns-clause-holds g c =
    λ blocks v u h k. c.eval.ensures.holds blocks c.args.shape.w c.args.shape.w (c.eval-first.ensures.holds blocks v u h k) (c.value_of_truth-carry.ensures.holds blocks c.args.shape.w)
