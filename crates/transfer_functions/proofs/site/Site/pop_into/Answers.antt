use Rattle.std.proofs.Common.{subst, sym}
use Rattle.bit_words.specs.declared.width.Width.TheVariants.{B32}
use Rattle.partitioned_memory.specs.Well.{MayHold}
use Rattle.abstract_state.specs.State.{Known}
use Rattle.abstract_state.specs.Expanding.{Path}
use Rattle.transfer_functions.specs.Values.{MayWrite}
use Rattle.domain_laws.specs.Made.{values_of}
use Rattle.transfer_functions.proofs.Holds.{pop-place, write-place}
use Rattle.transfer_functions.proofs.site.Site.pop_into.Goals as goal

pub written-requires-after_bounds : goal.written-requires-after_bounds
written-requires-after_bounds g c κs within =
    let d = values_of g.D.Domain g.D.PartialEq.eq in
    let value = subst (λ (q : Path g.row.D.Denot). MayHold d q.state.parts.blocks B32 c.args.v) (sym c.p.view_is) c.requires.value in
    subst (λ (s : Known g.row.D.Denot). MayWrite d s.parts.blocks c.args.to c.args.v) (sym c.set_stack_pointer.ensures)
    (write-place d c.p.inside.state.parts.blocks B32 c.args.to c.args.v (pop-place c.args.to c.requires.own) value)
