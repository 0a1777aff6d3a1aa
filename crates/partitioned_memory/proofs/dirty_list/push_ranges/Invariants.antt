use Rattle.std.proofs.Common.{◌≡◌, ◌++◌, map, take}
use Rattle.partitioned_memory.specs.Held.{dirty_at}
use Rattle.partitioned_memory.proofs.dirty_list.push_ranges.Given as goal

abbrev pub invariant-loop-pair : goal.invariant-loop-pair
invariant-loop-pair l = l.all.items ≡ l.fn.all.items ++ map dirty_at (take l.pair-index l.pairs)
