use Rattle.std.proofs.Common.{◌≡◌, drop, map}
use Rattle.partitioned_memory.specs.Areas.{IsBounded}
use Rattle.partitioned_memory.specs.Lists.{Every}
use Rattle.partitioned_memory.specs.Held.{dirty_at, hull_of, interval_of_dirty}
use Rattle.partitioned_memory.proofs.dirty_list.hull_of.Given as goal

abbrev pub invariant-loop-pair : goal.invariant-loop-pair
invariant-loop-pair l = record {
  value : hull_of l.whole (map dirty_at (drop l.pair-index l.met)) ≡ hull_of l.fn.new (map dirty_at l.met);
  bounded : IsBounded l.whole;
  met : Every (λ r. IsBounded (interval_of_dirty r)) (map dirty_at (drop l.pair-index l.met));
}
