use Rattle.std.proofs.Common.{◌≡◌, map, length}
use Rattle.memory_map.specs.Map.{range_of, all_apart}
use Rattle.memory_map.proofs.segments.are_all_apart.Given as goal

abbrev pub invariant-loop-first : goal.invariant-loop-first
invariant-loop-first l = all_apart (map range_of l.left) ≡ all_apart (map range_of l.list)

abbrev pub decreases-loop-first : goal.decreases-loop-first
decreases-loop-first l = length l.left
