use Rattle.run_replayer.proofs.Leaving.{leaves_by}
use Rattle.run_replayer.proofs.laws.missing_edges_are_of_runs.Goals as goal

pub returns : goal.returns
returns c = leaves_by
