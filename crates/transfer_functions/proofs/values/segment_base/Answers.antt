use Rattle.std.proofs.Common.{sym, subst}
use Rattle.domain_laws.specs.Made.{values_of}
use Rattle.domain_laws.specs.Reached.{named}
use Rattle.std.specs.Prelude.{pos}
use Rattle.partitioned_memory.specs.Well.{HasCount}
use Rattle.transfer_functions.proofs.Holds.{place-counted}
use Rattle.transfer_functions.proofs.values.segment_base.Goals as goal

pub returns-clause-counted : goal.returns-clause-counted
returns-clause-counted g c =
    let d = values_of g.D.Domain g.D.PartialEq.eq in
    let met = g.met.D.Domain g.world.𝓛 g.world.𝓜 g.world.𝓡 ((λ s x. x), (λ x. x), (λ x. x), λ x. x) in
    λ blocks. subst (λ (x : g.row.D.Denot). HasCount blocks (named (d.reach x))) (sym c.place.ensures) (place-counted d met.lawful blocks c.args.region (pos 0) c.requires)
