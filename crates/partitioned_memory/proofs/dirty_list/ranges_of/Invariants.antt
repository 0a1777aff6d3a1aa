use Rattle.std.proofs.Common.{◌≡◌, map, take}
use Rattle.partitioned_memory.specs.Held.{dirty_at}
use Rattle.partitioned_memory.specs.Leaves.{flattened, pieces}
use Rattle.partitioned_memory.proofs.dirty_list.ranges_of.Given as goal

abbrev pub invariant-loop-leaf : goal.invariant-loop-leaf
invariant-loop-leaf l = l.all.items ≡ map dirty_at (flattened (pieces (take l.leaf-index l.leaf-items)))
