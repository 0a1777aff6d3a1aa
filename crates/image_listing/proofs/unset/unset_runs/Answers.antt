use Rattle.std.proofs.Common.{◌∙◌, sym, subst, List, All}
use Rattle.std.specs.List.Sorted.{IsPermutation}
use Rattle.std.proofs.lemmas.List.Sorted.{All-permutation}
use Rattle.memory_map.specs.declared.span.Span.{Span}
use Rattle.image_listing.specs.Merging.{Fits}
use Rattle.image_listing.proofs.Merges.{unset-is}
use Rattle.image_listing.proofs.unset.unset_runs.Goals as goal

pub merged-requires-clause-fits : goal.merged-requires-clause-fits
merged-requires-clause-fits c =
    let All_fit : List Span → Type 0 = λ l. All Fits l in
    subst All_fit (sym c.deref.ensures.value)
    (All-permutation Fits c.in_ok-sorted.sorted.items c.sort_by_low.new.spans.items c.in_ok-sort_by_low.ensures.moved (subst All_fit (sym c.in_ok-sorted.ensures.items) c.requires))

pub returns : goal.returns
returns c =
    let From : List Span → Type 0 = λ l. IsPermutation l c.sort_by_low.new.spans.items in
    let To : List Span → Type 0 = λ l. IsPermutation c.args.unset.now l in
    unset-is c.args.unset.now c.deref.result.now c.in_ok-runs.runs.items (subst To (sym c.deref.ensures.value) (subst From c.in_ok-sorted.ensures.items c.in_ok-sort_by_low.ensures.moved)) c.in_ok-runs.ensures
