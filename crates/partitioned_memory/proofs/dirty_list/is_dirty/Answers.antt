use Rattle.std.proofs.Common.{ap, ◌∙◌}
use Rattle.std.specs.List.{list_any}
use Rattle.partitioned_memory.specs.Areas.{has_byte}
use Rattle.partitioned_memory.specs.Held.{dirty_at, interval_of_dirty}
use Rattle.partitioned_memory.specs.Leaves.{pairs_in}
use Rattle.partitioned_memory.proofs.Cuts.{any-of-leaves}
use Rattle.partitioned_memory.proofs.Orders.{passed}
use Rattle.partitioned_memory.proofs.dirty_list.is_dirty.Goals as goal

pub returns : goal.returns
returns c =
    any-of-leaves (λ leaf. pairs_in leaf) dirty_at (λ r. has_byte (interval_of_dirty r) c.args.area c.args.o) c.leaves.result.now c.args.ranges.now c.is_dirty_in.result
    (c.is_dirty_in.ensures ∙ ap (λ z. list_any (λ leaf. list_any (λ p. has_byte (interval_of_dirty (dirty_at p)) c.args.area z) (pairs_in leaf)) c.leaves.result.now) (passed c.args.o c.ranges.o))
    c.leaves.ensures
