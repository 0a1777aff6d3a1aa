use Rattle.domain_laws.specs.Made.{values_of}
use Rattle.import_stubs.proofs.KeepCalls.{call-keeps_well}
use Rattle.import_stubs.proofs.SoundReplies.{call-is_sound}
use Rattle.import_stubs.proofs.laws.calls_are_sound.Goals as goal

pub returns-clause-sound : goal.returns-clause-sound
returns-clause-sound g c =
    let d = values_of g.D.Domain g.D.PartialEq.eq in
    let met = g.met.D.Domain g.world.𝓛 g.world.𝓜 g.world.𝓡 ((λ s x. x), (λ x. x), (λ x. x), λ x. x) in
    call-is_sound d met.lawful

pub returns-clause-keeps_well : goal.returns-clause-keeps_well
returns-clause-keeps_well g c =
    let d = values_of g.D.Domain g.D.PartialEq.eq in
    let met = g.met.D.Domain g.world.𝓛 g.world.𝓜 g.world.𝓡 ((λ s x. x), (λ x. x), (λ x. x), λ x. x) in
    call-keeps_well d met.lawful
