use Rattle.domain_laws.specs.Made.{values_of}
use Rattle.table_check.proofs.Closing.{runs-are_followed, yes-closed}
use Rattle.table_check.proofs.laws.closed_tables_are_followed.Goals as goal

pub returns : goal.returns
returns g c image stubs t loaded well said =
    let d = values_of g.D.Domain g.D.PartialEq.eq in
    let met = g.met.D.Domain g.world.𝓛 g.world.𝓜 g.world.𝓡 ((λ s x. x), (λ x. x), (λ x. x), λ x. x) in
    let closed = yes-closed d met.lawful image stubs t said in
    (closed, runs-are_followed d met.lawful image stubs t loaded well closed)
