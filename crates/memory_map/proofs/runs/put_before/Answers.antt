use Rattle.std.proofs.Common.{◌≡◌, ◌^◌, ◌∙◌, ap, sym, List, arith}
use Rattle.std.specs.Prelude.{slice_get}
use Rattle.memory_map.specs.declared.span.Span.{Span}
use Rattle.memory_map.proofs.Writing.{first_below}
use Rattle.memory_map.proofs.runs.put_before.Goals as goal

pub overflow_add-size : goal.overflow_add-size
overflow_add-size c =
    let next = c.in-Some.next.now in
    let fits = first_below (2 ^ 32) c.args.runs.now.items next c.requires.runs (c.in-Some.ensures.value ∙ ap (λ (l : List Span). slice_get l 0) c.deref.ensures.value) in
    let low = c.requires.low in
    let same : next.low ≡ c.args.end = sym c.from.ensures ∙ c.if-from-end.true in
    omega arith
