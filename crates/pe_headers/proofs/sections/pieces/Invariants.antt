use Rattle.std.proofs.Common.{◌≡◌, ◌∷◌, All}
use Rattle.pe_headers.specs.Layout.{IsSized, headers_piece, section_pieces}
use Rattle.pe_headers.proofs.sections.pieces.Given as goal

abbrev pub invariant-loop-i : goal.invariant-loop-i
invariant-loop-i l = record {
  items : l.list.items ≡ headers_piece l.bytes ∷ section_pieces l.bytes l.i;
  sized : All IsSized l.list.items;
}
