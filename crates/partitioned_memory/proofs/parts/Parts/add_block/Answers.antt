use Rattle.std.proofs.Common.{rules}
use Rattle.partitioned_memory.proofs.Kept.{block-kept}
use Rattle.partitioned_memory.proofs.parts.Parts.add_block.Goals as goal

pub invariant_of-self : goal.invariant_of-self
invariant_of-self g c = block-kept _ c.args.region _ _ _ _ _ c.requires c.self.invariant (search rules) (search rules)
