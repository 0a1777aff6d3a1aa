use Rattle.std.proofs.Common.{◌≡◌, map, length}
use Rattle.std.specs.Prelude.{All}
use Rattle.memory_map.specs.Map.{all_apart}
use Rattle.file_pieces.specs.Layout.{HasAddress, extent}
use Rattle.file_pieces.proofs.piece.are_all_apart.Given as goal

abbrev pub invariant-loop-first : goal.invariant-loop-first
invariant-loop-first l = (all_apart (map extent l.left) ≡ all_apart (map extent l.pieces)) × All HasAddress l.left

abbrev pub decreases-loop-first : goal.decreases-loop-first
decreases-loop-first l = length l.left
