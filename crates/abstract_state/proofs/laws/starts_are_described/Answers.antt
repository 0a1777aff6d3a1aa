use Rattle.domain_laws.specs.Made.{values_of}
use Rattle.abstract_state.proofs.Beginning.{start-is_well}
use Rattle.abstract_state.proofs.Starting.{starts-are_described}
use Rattle.abstract_state.proofs.laws.starts_are_described.Goals as goal

pub returns : goal.returns
returns g c =
    let d = values_of g.D.Domain g.D.PartialEq.eq in
    let met = g.met.D.Domain g.world.𝓛 g.world.𝓜 g.world.𝓡 ((λ s x. x), (λ x. x), (λ x. x), λ x. x) in
    record { described = starts-are_described d met.lawful; well = start-is_well d met.lawful }
