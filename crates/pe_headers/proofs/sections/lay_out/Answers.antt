use Rattle.std.proofs.Common.{◌≡◌, ◌∙◌, sym, ap, inr, inl, ⊎_elim, List, length, false, true, Some, None}
use Rattle.std.specs.List.{list_all, list_any}
use Rattle.memory_map.specs.Map.{map_fault}
use Rattle.file_pieces.specs.Found.{passes_end}
use Rattle.file_pieces.specs.Layout.{layout}
use Rattle.file_pieces.specs.declared.piece.Piece.{Piece}
use Rattle.pe_headers.specs.Layout.{fault_of_map, maps_bytes, uses_bytes_outside}
use Rattle.pe_headers.proofs.Layouts.{are_pieces, some_bytes, layout_fault-outside, layout_fault-map}
use Rattle.pe_headers.proofs.sections.lay_out.Goals as goal

pub returns-then-use_bytes_outside-clause-exact : goal.returns-then-use_bytes_outside-clause-exact
returns-then-use_bytes_outside-clause-exact c =
    let file = c.args.bytes.now in
    let same = c.deref.ensures.value ∙ c.in_ok-list.ensures.pieces in
    let outside : uses_bytes_outside file ≡ true = ap (list_any (λ (p : Piece). passes_end (length file) p.offset p.file_size)) (sym same) ∙ sym c.use_bytes_outside.ensures ∙ c.if-use_bytes_outside.true in
    inr (layout_fault-outside file outside)

pub map_pieces-requires : goal.map_pieces-requires
map_pieces-requires c =
    let file = c.args.bytes.now in
    let none = ap (list_any (λ (p : Piece). passes_end (length file) p.offset p.file_size)) (sym c.deref.ensures.value) ∙ sym c.use_bytes_outside.ensures ∙ c.if-use_bytes_outside.false in
    are_pieces file c.in_ok-list.list.items none c.in_ok-list.ensures.sized

pub returns-in-Ok-clause-exact : goal.returns-in-Ok-clause-exact
returns-in-Ok-clause-exact c =
    let file = c.args.bytes.now in
    let same = c.deref.ensures.value ∙ c.in_ok-list.ensures.pieces in
    let inside : uses_bytes_outside file ≡ false = ap (list_any (λ (p : Piece). passes_end (length file) p.offset p.file_size)) (sym same) ∙ sym c.use_bytes_outside.ensures ∙ c.if-use_bytes_outside.false in
    (c.in-Ok.ensures.exact.0 ∙ ap (layout file) c.in_ok-list.ensures.pieces, layout_fault-map file None inside (ap (λ l. map_fault (layout file l)) (sym c.in_ok-list.ensures.pieces) ∙ c.in-Ok.ensures.exact.1))

pub returns-in-Err-clause-exact : goal.returns-in-Err-clause-exact
returns-in-Err-clause-exact c =
    let file = c.args.bytes.now in
    let same = c.deref.ensures.value ∙ c.in_ok-list.ensures.pieces in
    let inside : uses_bytes_outside file ≡ false = ap (list_any (λ (p : Piece). passes_end (length file) p.offset p.file_size)) (sym same) ∙ sym c.use_bytes_outside.ensures ∙ c.if-use_bytes_outside.false in
    ⊎_elim
    (λ memory. inl (c.fault_of_map.ensures ∙ ap fault_of_map memory))
    (λ found. inr (layout_fault-map file (Some c.in-Err.fault) inside (ap (λ l. map_fault (layout file l)) (sym c.in_ok-list.ensures.pieces) ∙ found) ∙ ap Some (sym c.fault_of_map.ensures)))
    c.in-Err.ensures.exact

pub returns-in-Ok-clause-some : goal.returns-in-Ok-clause-some
returns-in-Ok-clause-some c =
    let file = c.args.bytes.now in
    let none = ap (list_any (λ (p : Piece). passes_end (length file) p.offset p.file_size)) (sym c.deref.ensures.value) ∙ sym c.use_bytes_outside.ensures ∙ c.if-use_bytes_outside.false in
    ap (λ (l : List Piece). list_all maps_bytes (layout file l)) (sym c.in_ok-list.ensures.pieces) ∙ some_bytes file c.in_ok-list.list.items (are_pieces file c.in_ok-list.list.items none c.in_ok-list.ensures.sized)

pub returns-in-Ok-clause-map : goal.returns-in-Ok-clause-map
returns-in-Ok-clause-map c = ap map_fault c.in-Ok.ensures.exact.0 ∙ c.in-Ok.ensures.exact.1
