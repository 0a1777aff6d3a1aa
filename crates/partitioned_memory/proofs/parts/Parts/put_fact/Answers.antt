use Rattle.std.proofs.Common.{rules}
use Rattle.partitioned_memory.proofs.Kept.{put-kept}
use Rattle.partitioned_memory.proofs.parts.Parts.put_fact.Goals as goal

pub invariant_of-self : goal.invariant_of-self
invariant_of-self g c = put-kept _ c.args.area c.args.low c.args.w c.args.v _ _ _ _ (search rules) c.self.invariant (search rules)
