use Rattle.std.proofs.Common.{◌≡◌, take}
use Rattle.run_replayer.proofs.index.copy_edges.Given as goal

abbrev pub invariant-loop-e : goal.invariant-loop-e
invariant-loop-e l = l.copies.items ≡ take l.e-index l.edges
