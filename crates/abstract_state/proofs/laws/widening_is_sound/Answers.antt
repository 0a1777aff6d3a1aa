use Rattle.domain_laws.specs.Made.{values_of}
use Rattle.abstract_state.proofs.Raising.{widening-is_sound, widening-keeps_well}
use Rattle.abstract_state.proofs.laws.widening_is_sound.Goals as goal

pub returns : goal.returns
returns g c =
    let d = values_of g.D.Domain g.D.PartialEq.eq in
    let met = g.met.D.Domain g.world.𝓛 g.world.𝓜 g.world.𝓡 ((λ s x. x), (λ x. x), (λ x. x), λ x. x) in
    record { covers = widening-is_sound d met.lawful; well = widening-keeps_well d met.lawful }
