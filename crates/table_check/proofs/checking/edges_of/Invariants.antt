use Rattle.std.proofs.Common.{◌≡◌, map, take}
use Rattle.flow_worklist.specs.Analysis.{edge_by}
use Rattle.table_check.proofs.checking.edges_of.Given as goal

abbrev pub invariant-loop-pair : goal.invariant-loop-pair
invariant-loop-pair g l = l.edges.items ≡ map (λ pair. edge_by l.from l.label pair.0) (take l.pair-index l.next)
