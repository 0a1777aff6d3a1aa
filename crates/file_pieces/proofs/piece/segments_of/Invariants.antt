use Rattle.std.proofs.Common.{◌≡◌, map, take}
use Rattle.memory_map.specs.Map.{range_of}
use Rattle.file_pieces.specs.Layout.{range_of_piece}
use Rattle.file_pieces.proofs.piece.segments_of.Given as goal

abbrev pub invariant-loop-piece : goal.invariant-loop-piece
invariant-loop-piece l = map range_of l.list.items ≡ map (range_of_piece l.file) (take l.piece-index l.pieces)
