use Rattle.std.proofs.Common.{◌≡◌, map, take}
use Rattle.std.specs.Prelude.{All}
use Rattle.file_pieces.specs.Layout.{HasAddress}
use Rattle.elf32_reader.specs.Segments.{piece_of}
use Rattle.elf32_reader.proofs.segments.pieces_of.Given as goal

abbrev pub invariant-loop-header : goal.invariant-loop-header
invariant-loop-header l = (l.list.items ≡ map (piece_of l.bias) (take l.header-index l.loads)) × All HasAddress l.list.items
