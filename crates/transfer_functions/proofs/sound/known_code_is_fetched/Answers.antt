use Rattle.domain_laws.specs.Made.{values_of}
use Rattle.transfer_functions.proofs.Fetching.{known-fetched}
use Rattle.transfer_functions.proofs.sound.known_code_is_fetched.Goals as goal

pub returns : goal.returns
returns g c =
    let d = values_of g.D.Domain g.D.PartialEq.eq in
    let met = g.met.D.Domain g.world.𝓛 g.world.𝓜 g.world.𝓡 ((λ s x. x), (λ x. x), (λ x. x), λ x. x) in
    known-fetched d met.lawful
