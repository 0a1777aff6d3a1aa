use Rattle.std.proofs.Common.{◌≡◌, drop}
use Rattle.std.specs.Prelude.{slice_get}
use Rattle.partitioned_memory.specs.Leaves.{flattened, pieces}
use Rattle.partitioned_memory.proofs.spots.nth_pair.Given as goal

abbrev pub invariant-loop-leaf : goal.invariant-loop-leaf
invariant-loop-leaf g l = slice_get (flattened (pieces (drop l.leaf-index l.leaves))) l.left ≡ slice_get (flattened (pieces l.leaves)) l.fn.i
