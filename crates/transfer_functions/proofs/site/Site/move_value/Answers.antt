use Rattle.std.proofs.Common.{subst}
use Rattle.abstract_state.specs.Expanding.{Path}
use Rattle.transfer_functions.specs.Values.{MayWrite}
use Rattle.domain_laws.specs.Made.{values_of}
use Rattle.transfer_functions.proofs.Holds.{move-within, write-within}
use Rattle.transfer_functions.proofs.site.Site.move_value.Goals as goal

pub written-requires-after_bounds : goal.written-requires-after_bounds
written-requires-after_bounds g c κs within =
    let d = values_of g.D.Domain g.D.PartialEq.eq in
    let blocks = c.p.inside.state.parts.blocks in
    subst (λ (q : Path g.row.D.Denot). MayWrite d q.state.parts.blocks c.args.to c.in-Some.v) c.p.view_is
    (write-within d blocks _ c.args.to c.in-Some.v (move-within c.args.to c.args.from c.requires) c.in-Some.ensures.holds)
