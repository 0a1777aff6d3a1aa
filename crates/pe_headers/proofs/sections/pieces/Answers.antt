use Rattle.std.proofs.Common.{◌≡◌, ◌+◌, ◌*◌, ◌∷◌, ◌++◌, [], List, sym, ap, ◌∙◌, subst, arith, All}
use Rattle.std.proofs.lemmas.List.Elements.{All-push}
use Rattle.std.proofs.lemmas.List.FromFn.{map-range_with_len_more}
use Rattle.file_pieces.specs.declared.piece.Piece.{Piece}
use Rattle.pe_headers.specs.Headers.{section_header}
use Rattle.pe_headers.specs.Layout.{IsSized, headers_piece, section_piece, section_pieces}
use Rattle.pe_headers.proofs.sections.pieces.Goals as goal

pub loop-i-preserved : goal.loop-i-preserved
loop-i-preserved c =
    let bytes = c.args.bytes.now in
    let i = c.loop-i.i in
    let more = map-range_with_len_more (λ i. section_piece bytes (section_header bytes i)) 0 i i (omega arith) in
    let piece = c.section_piece.result in
    let old = c.loop-i.list.items in
    let pushed : c.push-in-loop-i.new.self.items ≡ old ++ piece ∷ [] = c.in_ok-push-2.ensures.items in
    let is : piece ≡ section_piece bytes (section_header bytes i) = c.section_piece.ensures.piece ∙ ap (λ t. section_piece bytes (t + 40 * i)) c.section_table-table.ensures.place in
    let Sized : List Piece → Type 0 = λ xs. All IsSized xs in
    record {
      items = pushed ∙ ap (λ xs. xs ++ piece ∷ []) c.loop-i.invariant.items ∙ ap (λ p. headers_piece bytes ∷ (section_pieces bytes i ++ p ∷ [])) is ∙ ap (λ xs. headers_piece bytes ∷ xs) (sym more);
      sized = subst Sized (sym pushed) (All-push IsSized old piece c.loop-i.invariant.sized c.section_piece.ensures.sized);
    }
