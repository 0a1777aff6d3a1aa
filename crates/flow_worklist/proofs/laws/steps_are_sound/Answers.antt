use Rattle.domain_laws.specs.Made.{values_of}
use Rattle.flow_worklist.proofs.StepSound.{analysis_sound, code-is_fetched}
use Rattle.flow_worklist.proofs.laws.steps_are_sound.Goals as goal

pub returns-clause-fetched : goal.returns-clause-fetched
returns-clause-fetched g c =
    let d = values_of g.D.Domain g.D.PartialEq.eq in
    let met = g.met.D.Domain g.world.𝓛 g.world.𝓜 g.world.𝓡 ((λ s x. x), (λ x. x), (λ x. x), λ x. x) in
    code-is_fetched d met.lawful

pub returns-clause-sound : goal.returns-clause-sound
returns-clause-sound g c =
    let d = values_of g.D.Domain g.D.PartialEq.eq in
    let met = g.met.D.Domain g.world.𝓛 g.world.𝓜 g.world.𝓡 ((λ s x. x), (λ x. x), (λ x. x), λ x. x) in
    analysis_sound d met.lawful
