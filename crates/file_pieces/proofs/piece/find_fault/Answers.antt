use Rattle.std.proofs.Common.{sym, ◌∙◌, map}
use Rattle.memory_map.specs.Map.{is_in_user_space}
use Rattle.memory_map.proofs.Lists.{list_all-map}
use Rattle.memory_map.proofs.Faults.{map_fault-outside, map_fault-overlap, map_fault-large, map_fault-none}
use Rattle.file_pieces.specs.Layout.{extent}
use Rattle.file_pieces.proofs.piece.find_fault.Goals as goal

pub returns-then-not-are_in_user_space : goal.returns-then-not-are_in_user_space
returns-then-not-are_in_user_space c =
    let rs = map extent c.args.pieces.now in
    sym (map_fault-outside rs (list_all-map is_in_user_space extent c.args.pieces.now ∙ sym c.are_in_user_space.ensures ∙ c.if-not-are_in_user_space.true))

pub returns-then-not-are_all_apart : goal.returns-then-not-are_all_apart
returns-then-not-are_all_apart c =
    let rs = map extent c.args.pieces.now in
    let inside = list_all-map is_in_user_space extent c.args.pieces.now ∙ sym c.are_in_user_space.ensures ∙ c.if-not-are_in_user_space.false in
    sym (map_fault-overlap rs inside (sym c.are_all_apart.ensures ∙ c.if-not-are_all_apart.true))

pub returns-then-are_too_large : goal.returns-then-are_too_large
returns-then-are_too_large c =
    let rs = map extent c.args.pieces.now in
    let inside = list_all-map is_in_user_space extent c.args.pieces.now ∙ sym c.are_in_user_space.ensures ∙ c.if-not-are_in_user_space.false in
    sym (map_fault-large rs inside (sym c.are_all_apart.ensures ∙ c.if-not-are_all_apart.false) (sym c.are_too_large.ensures ∙ c.if-are_too_large.true))

pub returns : goal.returns
returns c =
    let rs = map extent c.args.pieces.now in
    let inside = list_all-map is_in_user_space extent c.args.pieces.now ∙ sym c.are_in_user_space.ensures ∙ c.if-not-are_in_user_space.false in
    sym (map_fault-none rs inside (sym c.are_all_apart.ensures ∙ c.if-not-are_all_apart.false) (sym c.are_too_large.ensures ∙ c.if-are_too_large.false))
