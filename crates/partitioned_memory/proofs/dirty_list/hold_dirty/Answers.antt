use Rattle.std.proofs.Common.{map}
use Rattle.partitioned_memory.specs.Held.{dirty_at, lies_in}
use Rattle.partitioned_memory.specs.Leaves.{pairs_in}
use Rattle.partitioned_memory.proofs.Cuts.{all-of-leaves}
use Rattle.partitioned_memory.proofs.dirty_list.hold_dirty.Goals as goal

pub returns : goal.returns
returns c = all-of-leaves (λ leaf. pairs_in leaf) dirty_at (lies_in (map dirty_at c.args.ranges.now)) c.leaves.result.now c.args.others.now c.hold_leaves.result c.hold_leaves.ensures c.leaves.ensures
