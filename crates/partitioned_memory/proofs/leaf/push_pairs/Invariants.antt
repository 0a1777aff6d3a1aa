use Rattle.std.proofs.Common.{◌≡◌, ◌++◌, length}
use Rattle.partitioned_memory.specs.Lists.{Every}
use Rattle.partitioned_memory.specs.Leaves.{IsLeaf, flattened, pieces}
use Rattle.partitioned_memory.proofs.leaf.push_pairs.Given as goal

abbrev pub invariant-loop-rest : goal.invariant-loop-rest
invariant-loop-rest g l = record {
  pairs : flattened (pieces l.out.items) ++ l.rest ≡ flattened (pieces l.fn.out.items) ++ l.pairs;
  leaves : Every IsLeaf (pieces l.out.items);
}

abbrev pub decreases-loop-rest : goal.decreases-loop-rest
decreases-loop-rest g l = length l.rest
