use Rattle.memory_map.proofs.Faults.{map-no_fault, mapped-map}
use Rattle.memory_map.proofs.segments.Segments.into_vec.Goals as goal

pub returns-clause-again : goal.returns-clause-again
returns-clause-again c = (mapped-map c.self.inside.held.items c.self.invariant, map-no_fault _ c.self.invariant)
