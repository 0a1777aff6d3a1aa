use Rattle.std.proofs.Common.{rules}
use Rattle.abstract_state.specs.Notes.{is_of_register}
use Rattle.abstract_state.proofs.Keeping.{register-state}
use Rattle.abstract_state.proofs.state.State.set_register.Goals as goal

pub invariant_of-self : goal.invariant_of-self
invariant_of-self g c =
    register-state _ _ _ _ _ _ _ c.args.r c.args.v (is_of_register c.args.r) (search rules) (search rules) (search rules) c.self.invariant
