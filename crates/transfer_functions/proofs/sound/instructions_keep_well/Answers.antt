use Rattle.domain_laws.specs.Made.{values_of}
use Rattle.transfer_functions.proofs.Soundness.{instructions-keep_well}
use Rattle.transfer_functions.proofs.sound.instructions_keep_well.Goals as goal

pub returns : goal.returns
returns g c =
    let d = values_of g.D.Domain g.D.PartialEq.eq in
    let met = g.met.D.Domain g.world.𝓛 g.world.𝓜 g.world.𝓡 ((λ s x. x), (λ x. x), (λ x. x), λ x. x) in
    instructions-keep_well d met.lawful
