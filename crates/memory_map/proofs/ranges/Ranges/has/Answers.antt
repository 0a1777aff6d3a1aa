use Rattle.std.proofs.Common.{◌∙◌, List, Option, ap, subst, sym}
use Rattle.std.specs.Prelude.{IfSome}
use Rattle.std.specs.List.Sorted.{IsPermutation}
use Rattle.std.proofs.lemmas.List.Sorted.{list_any-IsPermutation}
use Rattle.memory_map.specs.Spans.{is_in_ranges, is_in_span}
use Rattle.memory_map.specs.declared.span.Span.{Span}
use Rattle.memory_map.proofs.ranges.Ranges.has.Goals as goal

pub returns-in-Some : goal.returns-in-Some
returns-in-Some c =
    let held = c.self.inside.held.items in
    let Moved : Option (List Span) → Type 0 = λ o. IfSome o (λ index. IsPermutation held index) in
    c.has.ensures
    ∙ sym (list_any-IsPermutation (is_in_span c.args.a) held _ (subst Moved c.in-Some.is c.self.invariant))
    ∙ ap (is_in_ranges c.args.a) c.self.view_is
