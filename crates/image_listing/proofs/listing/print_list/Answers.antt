use Rattle.std.proofs.Common.{◌∙◌, sym, subst, List, All}
use Rattle.memory_map.specs.declared.span.Span.{Span}
use Rattle.image_listing.specs.Merging.{Fits}
use Rattle.image_listing.proofs.Merges.{fits_of}
use Rattle.image_listing.proofs.listing.print_list.Goals as goal

pub unset_runs-requires : goal.unset_runs-requires
unset_runs-requires c =
    let All_fit : List Span → Type 0 = λ l. All Fits l in
    subst All_fit (sym (c.as_slice.ensures ∙ c.unset.ensures)) (fits_of c.args.image.now c.segments.ensures.loaded)
