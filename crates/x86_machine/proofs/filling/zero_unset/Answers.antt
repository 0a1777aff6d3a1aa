use Rattle.std.proofs.Common.{◌∙◌, List, ap, subst, sym}
use Rattle.std.specs.List.Sorted.{IsPermutation}
use Rattle.memory_map.specs.declared.span.Span.{Span}
use Rattle.x86_machine.specs.Started.{unset_zeros, with_fills}
use Rattle.x86_machine.proofs.Zeroing.{reordered}
use Rattle.x86_machine.proofs.filling.zero_unset.Goals as goal

pub returns : goal.returns
returns c =
    let sorted = c.sort_by_low.new.spans.items in
    let From : List Span → Type 0 = λ l. IsPermutation l sorted in
    c.zero_sorted.ensures
    ∙ ap (λ l. with_fills (unset_zeros l) c.args.cells.now) c.deref.ensures.value
    ∙ reordered c.args.unset.now sorted c.args.cells.now (subst From c.in_ok-sorted.ensures.items c.in_ok-sort_by_low.ensures.moved)
