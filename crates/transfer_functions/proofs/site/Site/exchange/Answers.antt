use Rattle.std.proofs.Common.{List, subst, sym}
use Rattle.bit_words.specs.declared.width.Width.TheVariants.{B32}
use Rattle.partitioned_memory.specs.declared.fact.Counted.{Counted}
use Rattle.partitioned_memory.specs.Well.{MayHold}
use Rattle.abstract_state.specs.Expanding.{Path}
use Rattle.transfer_functions.specs.Values.{MayWrite}
use Rattle.domain_laws.specs.Made.{values_of}
use Rattle.transfer_functions.proofs.Holds.{exchange-place, holds-word, write-place}
use Rattle.transfer_functions.proofs.site.Site.exchange.Goals as goal

pub write-requires-after_bounds : goal.write-requires-after_bounds
write-requires-after_bounds g c κs within =
    let d = values_of g.D.Domain g.D.PartialEq.eq in
    subst (λ (q : Path g.row.D.Denot). MayWrite d q.state.parts.blocks c.args.place c.part-b.result) c.p.view_is
    (write-place d c.p.inside.state.parts.blocks c.args.w c.args.place c.part-b.result (exchange-place c.args.place c.args.w c.args.r c.requires) c.part-b.ensures.holds)

pub set_part-requires-after_bounds : goal.set_part-requires-after_bounds
set_part-requires-after_bounds g c κs within =
    let d = values_of g.D.Domain g.D.PartialEq.eq in
    let before = subst (λ (q : Path g.row.D.Denot). MayHold d q.state.parts.blocks B32 c.in-Some.a) c.p.view_is (holds-word d c.p.inside.state.parts.blocks _ c.in-Some.a c.in-Some.ensures.holds) in
    let after = subst (λ (bs : List Counted). MayHold d bs B32 c.in-Some.a) (sym c.in_ok-write-in-Some.ensures.blocks) before in
    subst (λ (q : Path g.row.D.Denot). MayHold d q.state.parts.blocks B32 c.in-Some.a) (sym c.p-in-Some.view_is) after
