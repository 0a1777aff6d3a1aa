use Rattle.partitioned_memory.specs.Held.{dirty_at, lies_in_one}
use Rattle.partitioned_memory.specs.Leaves.{pairs_in}
use Rattle.partitioned_memory.proofs.Cuts.{any-of-leaves}
use Rattle.partitioned_memory.proofs.dirty_list.lies_in.Goals as goal

pub returns : goal.returns
returns c = any-of-leaves (λ leaf. pairs_in leaf) dirty_at (lies_in_one c.args.r) c.leaves.result.now c.args.ranges.now c.lies_in_leaves.result c.lies_in_leaves.ensures c.leaves.ensures
