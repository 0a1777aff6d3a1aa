use Rattle.transfer_functions.proofs.shifts.double_shifted.Goals as goal

pub returns-in-None-clause-holds : goal.returns-in-None-clause-holds
returns-in-None-clause-holds g c = λ blocks u v h k. c.anything.ensures.holds blocks c.args.w

pub returns-else-n-bits-clause-holds : goal.returns-else-n-bits-clause-holds
returns-else-n-bits-clause-holds g c = λ blocks u v h k. c.anything-else-n-bits.ensures.holds blocks c.args.w
