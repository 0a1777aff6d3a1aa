use Rattle.std.proofs.Common.{rules}
use Rattle.abstract_state.proofs.Keeping.{register-alone}
use Rattle.abstract_state.proofs.state.State.refine_register.Goals as goal

pub invariant_of-self : goal.invariant_of-self
invariant_of-self g c = register-alone _ _ _ _ _ _ c.args.r c.args.v (search rules) (search rules) c.self.invariant
