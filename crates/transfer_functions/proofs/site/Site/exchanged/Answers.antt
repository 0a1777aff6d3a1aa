use Rattle.std.proofs.Common.{subst}
use Rattle.abstract_state.specs.Expanding.{Path}
use Rattle.domain_laws.specs.Made.{values_of}
use Rattle.transfer_functions.specs.Values.{MayWrite}
use Rattle.transfer_functions.proofs.Holds.{write-place}
use Rattle.transfer_functions.proofs.site.Site.exchanged.Goals as goal

pub write-requires-after_bounds : goal.write-requires-after_bounds
write-requires-after_bounds g c κs within =
    let d = values_of g.D.Domain g.D.PartialEq.eq in
    subst (λ (q : Path g.row.D.Denot). MayWrite d q.state.parts.blocks c.args.place c.part-b.result) c.p.view_is
    (write-place d c.p.inside.state.parts.blocks c.args.w c.args.place c.part-b.result c.requires c.part-b.ensures.holds)
