use Rattle.std.proofs.Common.{List, map, ap, sym, ◌∙◌, subst}
use Rattle.std.specs.Prelude.{All}
use Rattle.std.specs.List.{list_all}
use Rattle.std.proofs.lemmas.List.{nil_from_length}
use Rattle.std.proofs.lemmas.List.Elements.{All-tail}
use Rattle.memory_map.specs.Map.{all_apart, are_apart}
use Rattle.file_pieces.specs.declared.piece.Piece.{Piece}
use Rattle.file_pieces.specs.Layout.{HasAddress, extent}
use Rattle.memory_map.proofs.Lists.{all_apart-cons, all_apart-nil, list_all-map, and-true}
use Rattle.file_pieces.proofs.piece.are_all_apart.Goals as goal
use Rattle.std.proofs.lemmas.Bool.{and_left}

pub returns-then-not-are_apart_from : goal.returns-then-not-are_apart_from
returns-then-not-are_apart_from c =
    let first = extent c.in-Some.first.now in
    let rest = map extent c.in-Some.rest.now in
    let meets = list_all-map (are_apart first) extent c.in-Some.rest.now ∙ sym c.are_apart_from.ensures ∙ c.if-not-are_apart_from.true in
    sym (all_apart-cons first rest ∙ and_left (list_all (are_apart first) rest) (all_apart rest) meets)
    ∙ ap (λ (l : List Piece). all_apart (map extent l)) (sym c.in-Some.ensures.cases.0)
    ∙ c.loop-first.invariant.0

pub loop-first-preserved : goal.loop-first-preserved
loop-first-preserved c =
    let first = extent c.in-Some.first.now in
    let rest = map extent c.in-Some.rest.now in
    let apart = list_all-map (are_apart first) extent c.in-Some.rest.now ∙ sym c.are_apart_from.ensures ∙ c.if-not-are_apart_from.false in
    let Addressed : List Piece → Type 0 = λ (l : List Piece). All HasAddress l in (
      sym (all_apart-cons first rest ∙ and-true (list_all (are_apart first) rest) (all_apart rest) apart)
          ∙ ap (λ (l : List Piece). all_apart (map extent l)) (sym c.in-Some.ensures.cases.0)
          ∙ c.loop-first.invariant.0,
      All-tail HasAddress c.in-Some.first.now c.in-Some.rest.now (subst Addressed c.in-Some.ensures.cases.0 c.loop-first.invariant.1),
    )

pub returns : goal.returns
returns c =
    sym all_apart-nil
    ∙ ap (λ (l : List Piece). all_apart (map extent l)) (sym (nil_from_length c.loop-first.left.now c.in_default.ensures.cases))
    ∙ c.loop-first.invariant.0
