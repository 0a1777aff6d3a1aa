use Rattle.std.proofs.Common.{subst}
use Rattle.abstract_state.specs.Expanding.{Path}
use Rattle.transfer_functions.specs.Values.{MayWrite}
use Rattle.domain_laws.specs.Made.{values_of}
use Rattle.transfer_functions.proofs.Holds.{lea-register, write-register}
use Rattle.transfer_functions.proofs.site.Site.lea.Goals as goal

pub written-requires-after_bounds : goal.written-requires-after_bounds
written-requires-after_bounds g c κs within =
    let d = values_of g.D.Domain g.D.PartialEq.eq in
    let blocks = c.p.inside.state.parts.blocks in
    subst (λ (q : Path g.row.D.Denot). MayWrite d q.state.parts.blocks c.args.to c.offset_value-v.result) c.p.view_is
    (write-register d blocks c.args.to c.offset_value-v.result (lea-register c.args.to c.args.address c.requires) c.offset_value-v.ensures.holds)
