use Rattle.transfer_functions.proofs.values.index_value.Goals as goal

pub returns-in-Some-clause-holds : goal.returns-in-Some-clause-holds
returns-in-Some-clause-holds g c = c.scaled_value.ensures.holds c.args.s.now.parts.blocks c.register_value-v.ensures.holds
