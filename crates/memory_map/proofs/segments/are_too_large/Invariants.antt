use Rattle.std.proofs.Common.{All, ◌≡◌, ◌≤◌, ◌+◌, map, length}
use Rattle.memory_map.specs.Range.{HasBytes}
use Rattle.memory_map.specs.Map.{range_of, total_size, MAPPED_LIMIT}
use Rattle.memory_map.proofs.segments.are_too_large.Given as goal

abbrev pub invariant-loop-first : goal.invariant-loop-first
invariant-loop-first l = (l.total + total_size (map range_of l.left) ≡ total_size (map range_of l.list)) × (l.total ≤ MAPPED_LIMIT) × (All HasBytes (map range_of l.left) → All HasBytes (map range_of l.list))

abbrev pub decreases-loop-first : goal.decreases-loop-first
decreases-loop-first l = length l.left
