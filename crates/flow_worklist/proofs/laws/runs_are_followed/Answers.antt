use Rattle.domain_laws.specs.Made.{values_of}
use Rattle.flow_worklist.proofs.Following.{runs-are_followed}
use Rattle.flow_worklist.proofs.laws.runs_are_followed.Goals as goal

pub returns : goal.returns
returns g c =
    let d = values_of g.D.Domain g.D.PartialEq.eq in
    let met = g.met.D.Domain g.world.𝓛 g.world.𝓜 g.world.𝓡 ((λ s x. x), (λ x. x), (λ x. x), λ x. x) in
    runs-are_followed d met.lawful
