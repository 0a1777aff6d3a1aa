use Rattle.std.proofs.Common.{List, map, ap, sym, ◌∙◌, ◌≡◌, inr, rules, true, false}
use Rattle.std.specs.Prelude.{nat_lt}
use Rattle.std.specs.List.{list_all}
use Rattle.std.proofs.lemmas.List.Elements.{filter_from_retain}
use Rattle.memory_map.specs.Map.{range_of, mapped, maps_some, map_fault, all_apart, is_in_user_space, total_size, MAPPED_LIMIT}
use Rattle.memory_map.specs.declared.segment.Segment.{Segment}
use Rattle.memory_map.proofs.Lists.{list_all-map}
use Rattle.memory_map.proofs.Faults.{map_fault-outside, map_fault-overlap, map_fault-large, map_fault-none, tests_pass}
use Rattle.memory_map.proofs.segments.Segments.new.Goals as goal

pub returns-then-not-are_in_user_space-clause-exact : goal.returns-then-not-are_in_user_space-clause-exact
returns-then-not-are_in_user_space-clause-exact c =
    let kept : c.retain.new.self.items ≡ mapped c.args.list.items = filter_from_retain _ maps_some (λ p x b q h. search rules) _ _ _ c.retain.ensures.filtered in
    let rs = map range_of c.deref.result.now in
    let test : list_all is_in_user_space rs ≡ false = list_all-map is_in_user_space range_of c.deref.result.now ∙ sym c.are_in_user_space.ensures ∙ c.if-not-are_in_user_space.true in
    inr (ap (λ (l : List Segment). map_fault (map range_of l)) (sym (c.deref.ensures.value ∙ kept)) ∙ map_fault-outside rs test)

pub returns-then-not-are_all_apart-clause-exact : goal.returns-then-not-are_all_apart-clause-exact
returns-then-not-are_all_apart-clause-exact c =
    let kept : c.retain.new.self.items ≡ mapped c.args.list.items = filter_from_retain _ maps_some (λ p x b q h. search rules) _ _ _ c.retain.ensures.filtered in
    let rs = map range_of c.deref.result.now in
    let inside : list_all is_in_user_space rs ≡ true = list_all-map is_in_user_space range_of c.deref.result.now ∙ sym c.are_in_user_space.ensures ∙ c.if-not-are_in_user_space.false in
    let same : c.deref-2.result.now ≡ c.deref.result.now = c.deref-2.ensures.value ∙ sym c.deref.ensures.value in
    let test : all_apart rs ≡ false = ap (λ (l : List Segment). all_apart (map range_of l)) (sym same) ∙ sym c.are_all_apart.ensures ∙ c.if-not-are_all_apart.true in
    inr (ap (λ (l : List Segment). map_fault (map range_of l)) (sym (c.deref.ensures.value ∙ kept)) ∙ map_fault-overlap rs inside test)

pub returns-then-are_too_large-clause-exact : goal.returns-then-are_too_large-clause-exact
returns-then-are_too_large-clause-exact c =
    let kept : c.retain.new.self.items ≡ mapped c.args.list.items = filter_from_retain _ maps_some (λ p x b q h. search rules) _ _ _ c.retain.ensures.filtered in
    let rs = map range_of c.retain.new.self.items in
    let inside : list_all is_in_user_space rs ≡ true = ap (λ (l : List Segment). list_all is_in_user_space (map range_of l)) (sym c.deref.ensures.value) ∙ list_all-map is_in_user_space range_of c.deref.result.now ∙ sym c.are_in_user_space.ensures ∙ c.if-not-are_in_user_space.false in
    let apart : all_apart rs ≡ true = ap (λ (l : List Segment). all_apart (map range_of l)) (sym c.deref-2.ensures.value) ∙ sym c.are_all_apart.ensures ∙ c.if-not-are_all_apart.false in
    let test = ap (λ (l : List Segment). nat_lt MAPPED_LIMIT (total_size (map range_of l))) (sym c.deref-3.ensures.value) ∙ sym c.are_too_large.ensures.size ∙ c.if-are_too_large.true in
    inr (ap (λ (l : List Segment). map_fault (map range_of l)) (sym kept) ∙ map_fault-large rs inside apart test)

pub invariant_of-result : goal.invariant_of-result
invariant_of-result c =
    let kept : c.retain.new.self.items ≡ mapped c.args.list.items = filter_from_retain _ maps_some (λ p x b q h. search rules) _ _ _ c.retain.ensures.filtered in
    tests_pass c.args.list.items c.retain.new.self.items c.deref.result.now c.deref-2.result.now c.deref-3.result.now c.are_in_user_space.result c.are_all_apart.result c.are_too_large.result kept c.deref.ensures.value c.deref-2.ensures.value c.deref-3.ensures.value c.are_in_user_space.ensures c.are_all_apart.ensures c.are_too_large.ensures.size c.are_too_large.ensures.bytes c.if-not-are_in_user_space.false c.if-not-are_all_apart.false c.if-are_too_large.false

pub returns-clause-exact : goal.returns-clause-exact
returns-clause-exact c =
    let kept : c.retain.new.self.items ≡ mapped c.args.list.items = filter_from_retain _ maps_some (λ p x b q h. search rules) _ _ _ c.retain.ensures.filtered in
    let rs = map range_of c.retain.new.self.items in
    let inside : list_all is_in_user_space rs ≡ true = ap (λ (l : List Segment). list_all is_in_user_space (map range_of l)) (sym c.deref.ensures.value) ∙ list_all-map is_in_user_space range_of c.deref.result.now ∙ sym c.are_in_user_space.ensures ∙ c.if-not-are_in_user_space.false in
    let apart : all_apart rs ≡ true = ap (λ (l : List Segment). all_apart (map range_of l)) (sym c.deref-2.ensures.value) ∙ sym c.are_all_apart.ensures ∙ c.if-not-are_all_apart.false in
    let size = ap (λ (l : List Segment). nat_lt MAPPED_LIMIT (total_size (map range_of l))) (sym c.deref-3.ensures.value) ∙ sym c.are_too_large.ensures.size ∙ c.if-are_too_large.false in
    (kept, ap (λ (l : List Segment). map_fault (map range_of l)) (sym kept) ∙ map_fault-none rs inside apart size)

pub returns-clause-map : goal.returns-clause-map
returns-clause-map c =
    let kept : c.retain.new.self.items ≡ mapped c.args.list.items = filter_from_retain _ maps_some (λ p x b q h. search rules) _ _ _ c.retain.ensures.filtered in
    tests_pass c.args.list.items c.retain.new.self.items c.deref.result.now c.deref-2.result.now c.deref-3.result.now c.are_in_user_space.result c.are_all_apart.result c.are_too_large.result kept c.deref.ensures.value c.deref-2.ensures.value c.deref-3.ensures.value c.are_in_user_space.ensures c.are_all_apart.ensures c.are_too_large.ensures.size c.are_too_large.ensures.bytes c.if-not-are_in_user_space.false c.if-not-are_all_apart.false c.if-are_too_large.false
