use Rattle.import_stubs.proofs.call.Call.return_block.Goals as goal

pub land-requires-clause-value : goal.land-requires-clause-value
land-requires-clause-value g c κs within = c.anything.ensures.holds _
