use Rattle.std.proofs.Common.{List, ◌≡◌, ◌∙◌, sym, ap, inr, rules, map}
use Rattle.std.specs.Prelude.{filter}
use Rattle.std.specs.List.{list_all}
use Rattle.std.proofs.lemmas.List.Elements.{filter_from_retain}
use Rattle.memory_map.specs.Map.{is_in_user_space, map_fault}
use Rattle.memory_map.proofs.Lists.{list_all-map}
use Rattle.file_pieces.specs.Layout.{extent, is_mapped}
use Rattle.file_pieces.specs.declared.piece.Piece.{Piece}
use Rattle.file_pieces.proofs.Layouts.{addresses, answered, inside-no_fault, kept_pieces, refused}
use Rattle.file_pieces.proofs.piece.map_pieces.Goals as goal

pub find_fault-requires : goal.find_fault-requires
find_fault-requires c =
    let kept : c.retain.new.self.items ≡ filter is_mapped c.args.pieces.items = filter_from_retain _ is_mapped (λ p x b q h. search rules) _ _ _ c.retain.ensures.filtered in
    addresses c.args.file.now c.deref.result.now (kept_pieces c.args.file.now c.args.pieces.items c.deref.result.now (c.deref.ensures.value ∙ kept) c.requires)

pub returns-in-Some : goal.returns-in-Some
returns-in-Some c =
    let kept : c.retain.new.self.items ≡ filter is_mapped c.args.pieces.items = filter_from_retain _ is_mapped (λ p x b q h. search rules) _ _ _ c.retain.ensures.filtered in
    record { exact = inr (refused c.args.file.now c.args.pieces.items c.deref.result.now (c.deref.ensures.value ∙ kept) c.requires c.find_fault.result c.in-Some.fault c.find_fault.ensures c.in-Some.is) }

pub segments_of-requires-clause-pieces : goal.segments_of-requires-clause-pieces
segments_of-requires-clause-pieces c =
    let kept : c.retain.new.self.items ≡ filter is_mapped c.args.pieces.items = filter_from_retain _ is_mapped (λ p x b q h. search rules) _ _ _ c.retain.ensures.filtered in
    kept_pieces c.args.file.now c.args.pieces.items c.deref-2.result.now (c.deref-2.ensures.value ∙ kept) c.requires

pub segments_of-requires-clause-low : goal.segments_of-requires-clause-low
segments_of-requires-clause-low c =
    let same : c.deref.result.now ≡ c.deref-2.result.now = c.deref.ensures.value ∙ sym c.deref-2.ensures.value in
    let inside = inside-no_fault (map extent c.deref.result.now) (sym c.find_fault.ensures ∙ c.in_default.is) in
    ap (list_all (λ p. is_in_user_space (extent p))) (sym same) ∙ sym (list_all-map is_in_user_space extent c.deref.result.now) ∙ inside

pub returns-in-Ok : goal.returns-in-Ok
returns-in-Ok c =
    let kept : c.retain.new.self.items ≡ filter is_mapped c.args.pieces.items = filter_from_retain _ is_mapped (λ p x b q h. search rules) _ _ _ c.retain.ensures.filtered in
    let same : c.deref.result.now ≡ c.deref-2.result.now = c.deref.ensures.value ∙ sym c.deref-2.ensures.value in
    let none = ap (λ (l : List Piece). map_fault (map extent l)) (sym same) ∙ sym c.find_fault.ensures ∙ c.in_default.is in
    record { exact = answered c.args.file.now c.args.pieces.items c.deref-2.result.now (c.deref-2.ensures.value ∙ kept) c.requires c.in-Ok.list.items c.new.result c.in-Ok.ensures none c.new.ensures.exact }
