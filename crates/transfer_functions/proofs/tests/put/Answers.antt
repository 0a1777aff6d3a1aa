use Rattle.transfer_functions.proofs.tests.put.Goals as goal

pub store-requires-clause-value : goal.store-requires-clause-value
store-requires-clause-value g c κs within = c.low_number-v.ensures.holds c.start-p.result.state.parts.blocks
