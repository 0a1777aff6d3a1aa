use Rattle.partitioned_memory.proofs.Ordered.{areas-ordered, spots-ordered}
use Rattle.partitioned_memory.proofs.laws.spots_are_ordered.Goals as goal

pub returns : goal.returns
returns c = record { areas = areas-ordered; spots = spots-ordered }
