use Rattle.std.proofs.Common.{◌≡◌, map, length}
use Rattle.memory_map.specs.Range.{byte_at}
use Rattle.memory_map.specs.Map.{range_of}
use Rattle.memory_map.proofs.segments.byte_in.Given as goal

abbrev pub invariant-loop-first : goal.invariant-loop-first
invariant-loop-first l = byte_at (map range_of l.left) l.a ≡ byte_at (map range_of l.list) l.a

abbrev pub decreases-loop-first : goal.decreases-loop-first
decreases-loop-first l = length l.left
