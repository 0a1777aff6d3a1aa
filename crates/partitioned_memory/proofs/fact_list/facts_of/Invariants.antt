use Rattle.std.proofs.Common.{◌≡◌, map, take}
use Rattle.partitioned_memory.specs.Held.{fact_at}
use Rattle.partitioned_memory.specs.Leaves.{flattened, pieces}
use Rattle.partitioned_memory.proofs.fact_list.facts_of.Given as goal

abbrev pub invariant-loop-leaf : goal.invariant-loop-leaf
invariant-loop-leaf g l = l.all.items ≡ map fact_at (flattened (pieces (take l.leaf-index l.leaf-items)))
