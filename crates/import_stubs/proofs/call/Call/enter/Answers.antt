use Rattle.import_stubs.proofs.call.Call.enter.Goals as goal

pub store_in-requires-clause-value : goal.store_in-requires-clause-value
store_in-requires-clause-value g c κs within = c.number.ensures.holds _

pub land-requires-clause-value : goal.land-requires-clause-value
land-requires-clause-value g c κs within = c.anything.ensures.holds _
