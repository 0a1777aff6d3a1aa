use Rattle.std.proofs.Common.{◌≡◌, map, length}
use Rattle.std.specs.Prelude.{find}
use Rattle.memory_map.specs.Map.{range_of}
use Rattle.memory_map.specs.Range.{holds}
use Rattle.file_pieces.proofs.found.segment_with.Given as goal

abbrev pub invariant-loop-first : goal.invariant-loop-first
invariant-loop-first l = find (holds l.a l.n) (map range_of l.left) ≡ find (holds l.a l.n) (map range_of l.list)

abbrev pub decreases-loop-first : goal.decreases-loop-first
decreases-loop-first l = length l.left
