use Rattle.std.proofs.Common.{List, map, ap, sym, ◌∙◌}
use Rattle.std.specs.List.{list_all}
use Rattle.std.proofs.lemmas.List.{nil_from_length}
use Rattle.memory_map.specs.Map.{range_of, all_apart, are_apart}
use Rattle.memory_map.specs.declared.segment.Segment.{Segment}
use Rattle.memory_map.proofs.Lists.{all_apart-cons, all_apart-nil, list_all-map, and-true}
use Rattle.memory_map.proofs.segments.are_all_apart.Goals as goal
use Rattle.std.proofs.lemmas.Bool.{and_left}

pub returns-then-not-are_apart_from : goal.returns-then-not-are_apart_from
returns-then-not-are_apart_from c =
    let first = range_of c.in-Some.first.now in
    let rest = map range_of c.in-Some.rest.now in
    let meets = list_all-map (are_apart first) range_of c.in-Some.rest.now ∙ sym c.are_apart_from.ensures ∙ c.if-not-are_apart_from.true in
    sym (all_apart-cons first rest ∙ and_left (list_all (are_apart first) rest) (all_apart rest) meets)
    ∙ ap (λ (l : List Segment). all_apart (map range_of l)) (sym c.in-Some.ensures.cases.0)
    ∙ c.loop-first.invariant

pub loop-first-preserved : goal.loop-first-preserved
loop-first-preserved c =
    let first = range_of c.in-Some.first.now in
    let rest = map range_of c.in-Some.rest.now in
    let apart = list_all-map (are_apart first) range_of c.in-Some.rest.now ∙ sym c.are_apart_from.ensures ∙ c.if-not-are_apart_from.false in
    sym (all_apart-cons first rest ∙ and-true (list_all (are_apart first) rest) (all_apart rest) apart)
    ∙ ap (λ (l : List Segment). all_apart (map range_of l)) (sym c.in-Some.ensures.cases.0)
    ∙ c.loop-first.invariant

pub returns : goal.returns
returns c =
    sym all_apart-nil
    ∙ ap (λ (l : List Segment). all_apart (map range_of l)) (sym (nil_from_length c.loop-first.left.now c.in_default.ensures.cases))
    ∙ c.loop-first.invariant
