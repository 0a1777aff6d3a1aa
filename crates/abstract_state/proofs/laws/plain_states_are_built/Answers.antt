use Rattle.domain_laws.specs.Made.{values_of}
use Rattle.abstract_state.proofs.Building.{built-plain, plain-built}
use Rattle.abstract_state.proofs.laws.plain_states_are_built.Goals as goal

pub returns : goal.returns
returns g c =
    let d = values_of g.D.Domain g.D.PartialEq.eq in
    record { again = plain-built d; plain = built-plain d }
