use Rattle.std.proofs.Common.{sym, ap, subst}
use Rattle.domain_laws.specs.Made.{values_of}
use Rattle.partitioned_memory.specs.Well.{IsWell, MayHold}
use Rattle.partitioned_memory.proofs.Holding.{any-holds, found-held, number-holds}
use Rattle.partitioned_memory.proofs.parts.Parts.read.Goals as goal

pub returns-in-Some-clause-holds : goal.returns-in-Some-clause-holds
returns-in-Some-clause-holds g c =
    let d = values_of g.D.Domain g.D.PartialEq.eq in
    let well = subst (IsWell d) c.self.view_is c.self.invariant in
    found-held d _ _ _ _ _ _ _ well.facts (ap (λ h. h.facts) c.self.view_is) c.in-Some.ensures

pub returns-in-Some-number-clause-holds : goal.returns-in-Some-number-clause-holds
returns-in-Some-number-clause-holds g c =
    let d = values_of g.D.Domain g.D.PartialEq.eq in
    let met = g.met.D.Domain g.world.𝓛 g.world.𝓜 g.world.𝓡 ((λ s x. x), (λ x. x), (λ x. x), λ x. x) in
    subst (λ (v : g.row.D.Denot). MayHold d c.args.self.now.blocks c.args.w v) (sym c.number-in-Some-number.ensures)
    (number-holds d met.lawful c.args.self.now.blocks c.args.w c.in-Some-number.n c.in-Some-number.ensures.fits)

pub returns-in-None-number-clause-holds : goal.returns-in-None-number-clause-holds
returns-in-None-number-clause-holds g c =
    let d = values_of g.D.Domain g.D.PartialEq.eq in
    let met = g.met.D.Domain g.world.𝓛 g.world.𝓜 g.world.𝓡 ((λ s x. x), (λ x. x), (λ x. x), λ x. x) in
    subst (λ (v : g.row.D.Denot). MayHold d c.args.self.now.blocks c.args.w v) (sym c.any.ensures)
    (any-holds d met.lawful c.args.self.now.blocks c.args.w)
