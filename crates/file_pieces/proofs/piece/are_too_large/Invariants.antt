use Rattle.std.proofs.Common.{◌≡◌, ◌+◌, ◌≤◌, map, length}
use Rattle.memory_map.specs.Map.{total_size, MAPPED_LIMIT}
use Rattle.file_pieces.specs.Layout.{extent}
use Rattle.file_pieces.proofs.piece.are_too_large.Given as goal

abbrev pub invariant-loop-first : goal.invariant-loop-first
invariant-loop-first l = (l.total + total_size (map extent l.left) ≡ total_size (map extent l.pieces)) × (l.total ≤ MAPPED_LIMIT)

abbrev pub decreases-loop-first : goal.decreases-loop-first
decreases-loop-first l = length l.left
