use Rattle.std.proofs.Common.{subst}
use Rattle.abstract_state.specs.Expanding.{Path}
use Rattle.transfer_functions.specs.Values.{MayWrite}
use Rattle.domain_laws.specs.Made.{values_of}
use Rattle.bit_words.specs.declared.width.Width.TheVariants.{B8}
use Rattle.transfer_functions.proofs.Holds.{set-place, write-place}
use Rattle.transfer_functions.proofs.site.Site.set.Goals as goal

pub written-requires-after_bounds : goal.written-requires-after_bounds
written-requires-after_bounds g c κs within =
    let d = values_of g.D.Domain g.D.PartialEq.eq in
    let blocks = c.p.inside.state.parts.blocks in
    subst (λ (q : Path g.row.D.Denot). MayWrite d q.state.parts.blocks c.args.to c.value_of_truth-v.result) c.p.view_is
    (write-place d blocks B8 c.args.to c.value_of_truth-v.result (set-place c.args.condition c.args.to c.requires) (c.value_of_truth-v.ensures.holds blocks B8))
