use Rattle.std.proofs.Common.{refl, rules}
use Rattle.partitioned_memory.proofs.Kept.{bounded-of, exact-kept}
use Rattle.partitioned_memory.proofs.parts.Parts.write_exact.Goals as goal

pub dirty_after-requires-clause-ranges : goal.dirty_after-requires-clause-ranges
dirty_after-requires-clause-ranges g c = bounded-of _ _ _ _ _ c.self.invariant refl

pub invariant_of-self : goal.invariant_of-self
invariant_of-self g c =
    exact-kept _ (record { area = c.args.area; low = c.args.low; w = c.args.w; value = c.args.v }) _ _ _ _ _ (record { inside = c.requires.inside; counted = search rules; holds = search rules }) c.self.invariant (search rules) (search rules)
