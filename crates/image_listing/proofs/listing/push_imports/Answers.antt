use Rattle.std.proofs.Common.{◌∙◌, ◌+◌, ◌++◌, ap, refl}
use Rattle.image_listing.specs.Listing.{import_line}
use Rattle.image_listing.proofs.Ordering.{lines-more}
use Rattle.image_listing.proofs.listing.push_imports.Goals as goal

pub loop-i-preserved : goal.loop-i-preserved
loop-i-preserved c =
    let out = c.loop-i.out.items in
    let stubs = c.args.stubs.now in
    let k = c.loop-i.i + 1 in
    lines-more (import_line stubs) c.args.out.now.items c.args.list.now out c.push_import.new.out.items c.loop-i.i k c.index-list-i.result c.loop-i-test.true refl c.loop-i.invariant
    (c.in_ok-push_import.ensures ∙ ap (λ n. out ++ import_line stubs (k, n)) c.index-list-i.is)
