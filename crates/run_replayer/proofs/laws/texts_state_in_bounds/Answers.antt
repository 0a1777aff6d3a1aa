use Rattle.run_replayer.proofs.RecordBounds.{record_in_bounds}
use Rattle.run_replayer.proofs.laws.texts_state_in_bounds.Goals as goal

pub returns : goal.returns
returns c = record_in_bounds
