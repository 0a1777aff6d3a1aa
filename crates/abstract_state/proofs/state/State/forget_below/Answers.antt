use Rattle.std.proofs.Common.{rules}
use Rattle.abstract_state.proofs.Keeping.{forget-state, same-kept}
use Rattle.abstract_state.proofs.state.State.forget_below.Goals as goal

pub invariant_of-self : goal.invariant_of-self
invariant_of-self g c = same-kept _ _ _ _ _ _ (search rules) c.self.invariant

pub invariant_of-self-2 : goal.invariant_of-self-2
invariant_of-self-2 g c = forget-state _ _ _ _ _ _ c.args.high (search rules) c.self.invariant
