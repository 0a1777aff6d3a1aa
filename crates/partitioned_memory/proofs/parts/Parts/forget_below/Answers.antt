use Rattle.std.specs.Prelude.{not}
use Rattle.std.proofs.Common.{rules}
use Rattle.partitioned_memory.specs.Held.{is_stack_below}
use Rattle.partitioned_memory.proofs.Kept.{filtered-kept}
use Rattle.partitioned_memory.proofs.parts.Parts.forget_below.Goals as goal

pub invariant_of-self : goal.invariant_of-self
invariant_of-self g c = filtered-kept _ (λ f. not (is_stack_below c.args.high f)) _ _ _ _ c.self.invariant (search rules)
