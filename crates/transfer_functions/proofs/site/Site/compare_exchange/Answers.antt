use Rattle.std.proofs.Common.{subst}
use Rattle.abstract_state.specs.Expanding.{Path}
use Rattle.partitioned_memory.specs.Well.{MayHold}
use Rattle.domain_laws.specs.Made.{values_of}
use Rattle.transfer_functions.proofs.Holds.{compare_exchange-place, place-holds}
use Rattle.transfer_functions.proofs.site.Site.compare_exchange.Goals as goal

pub exchanged-requires-after_bounds : goal.exchanged-requires-after_bounds
exchanged-requires-after_bounds g c κs within = compare_exchange-place c.args.place c.args.w c.args.r c.requires

pub not_exchanged-requires-clause-place : goal.not_exchanged-requires-clause-place
not_exchanged-requires-clause-place g c κs within = compare_exchange-place c.args.place c.args.w c.args.r c.requires

pub not_exchanged-requires-clause-value : goal.not_exchanged-requires-clause-value
not_exchanged-requires-clause-value g c κs within =
    let d = values_of g.D.Domain g.D.PartialEq.eq in
    subst (λ (q : Path g.row.D.Denot). MayHold d q.state.parts.blocks c.args.w c.in-Some.a) c.p.view_is
    (place-holds d c.p.inside.state.parts.blocks c.args.w c.args.place c.in-Some.a (compare_exchange-place c.args.place c.args.w c.args.r c.requires) c.in-Some.ensures.holds)

pub exchanged_or_not-requires-clause-place : goal.exchanged_or_not-requires-clause-place
exchanged_or_not-requires-clause-place g c κs within = compare_exchange-place c.args.place c.args.w c.args.r c.requires

pub exchanged_or_not-requires-clause-value : goal.exchanged_or_not-requires-clause-value
exchanged_or_not-requires-clause-value g c κs within =
    let d = values_of g.D.Domain g.D.PartialEq.eq in
    subst (λ (q : Path g.row.D.Denot). MayHold d q.state.parts.blocks c.args.w c.in-Some.a) c.p.view_is
    (place-holds d c.p.inside.state.parts.blocks c.args.w c.args.place c.in-Some.a (compare_exchange-place c.args.place c.args.w c.args.r c.requires) c.in-Some.ensures.holds)
