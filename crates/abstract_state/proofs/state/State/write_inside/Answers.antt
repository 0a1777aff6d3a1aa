use Rattle.std.proofs.Common.{rules}
use Rattle.abstract_state.proofs.Keeping.{inside-state, same-kept}
use Rattle.abstract_state.proofs.state.State.write_inside.Goals as goal

pub invariant_of-self : goal.invariant_of-self
invariant_of-self g c = same-kept _ _ _ _ _ _ (search rules) c.self.invariant

pub invariant_of-self-2 : goal.invariant_of-self-2
invariant_of-self-2 g c =
    inside-state _ _ _ _ _ _ c.args.area c.args.low c.args.high c.requires.inside (search rules) (search rules) c.self.invariant
