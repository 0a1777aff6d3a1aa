use Rattle.std.proofs.Common.{List, subst, sym}
use Rattle.bit_words.specs.declared.width.Width.TheVariants.{B32}
use Rattle.partitioned_memory.specs.declared.fact.Counted.{Counted}
use Rattle.partitioned_memory.specs.Well.{MayHold}
use Rattle.abstract_state.specs.Expanding.{Path}
use Rattle.transfer_functions.specs.Values.{MayWrite}
use Rattle.domain_laws.specs.Made.{values_of}
use Rattle.transfer_functions.proofs.Holds.{exchange_add-place, holds-word, write-place}
use Rattle.transfer_functions.proofs.site.Site.exchange_add.Goals.{then-is_register_numbered, else-is_register_numbered}
use Rattle.transfer_functions.proofs.site.Site.exchange_add.Goals as goal

pub write-requires-after_bounds : goal.write-requires-after_bounds
write-requires-after_bounds g c κs within =
    let d = values_of g.D.Domain g.D.PartialEq.eq in
    let blocks = c.p.inside.state.parts.blocks in
    subst (λ (q : Path g.row.D.Denot). MayWrite d q.state.parts.blocks c.args.place c.eval-sum.result) c.p.view_is
    (write-place d blocks c.args.w c.args.place c.eval-sum.result (exchange_add-place c.args.place c.args.w c.args.r c.requires) (c.eval-sum.ensures.holds blocks _ _ c.in-Some.ensures.holds c.part-b.ensures.holds))

pub set_part-requires-after_bounds : goal.set_part-requires-after_bounds
set_part-requires-after_bounds g c κs within =
    let d = values_of g.D.Domain g.D.PartialEq.eq in
    let blocks = c.p.inside.state.parts.blocks in
    let v = c.if-is_register_numbered.v in
    let own = elim c.if-is_register_numbered.branch as (λ _. MayHold d blocks B32 v) [
      | then-is_register_numbered w ↦
          subst (λ (u : g.row.D.Denot). MayHold d blocks B32 u) (sym w.v-is) (holds-word d blocks c.args.w c.eval-sum.result (c.eval-sum.ensures.holds blocks _ _ c.in-Some.ensures.holds c.part-b.ensures.holds))
      | else-is_register_numbered w ↦ subst (λ (u : g.row.D.Denot). MayHold d blocks B32 u) (sym w.v-is) (holds-word d blocks _ c.in-Some.a c.in-Some.ensures.holds)
    ] in
    let before = subst (λ (q : Path g.row.D.Denot). MayHold d q.state.parts.blocks B32 v) c.p.view_is own in
    let after = subst (λ (bs : List Counted). MayHold d bs B32 v) (sym c.in_ok-write-in-Some.ensures.blocks) before in
    subst (λ (q : Path g.row.D.Denot). MayHold d q.state.parts.blocks B32 v) (sym c.p-in-Some.view_is) after
