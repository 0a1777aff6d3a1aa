use Rattle.std.proofs.Common.{◌≡◌, ◌++◌, take}
use Rattle.partitioned_memory.specs.Leaves.{pieces}
use Rattle.partitioned_memory.proofs.leaf.push_shared.Given as goal

abbrev pub invariant-loop-leaf : goal.invariant-loop-leaf
invariant-loop-leaf g l = pieces l.out.items ≡ pieces l.fn.out.items ++ pieces (take l.leaf-index l.leaves)
