use Rattle.std.proofs.Common.{◌≡◌, ◌++◌, map, take}
use Rattle.partitioned_memory.specs.Held.{fact_at}
use Rattle.partitioned_memory.proofs.fact_list.push_facts.Given as goal

abbrev pub invariant-loop-pair : goal.invariant-loop-pair
invariant-loop-pair g l = l.all.items ≡ l.fn.all.items ++ map fact_at (take l.pair-index l.pairs)
