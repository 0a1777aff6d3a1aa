use Rattle.std.proofs.Common.{arith, refl, rules}
use Rattle.std.proofs.lemmas.Int.{ints}
use Rattle.partitioned_memory.proofs.Kept.{bounded-of, inside-kept}
use Rattle.partitioned_memory.proofs.parts.Parts.write_over.Goals as goal

pub facts_off-requires-clause-ordered : goal.facts_off-requires-clause-ordered
facts_off-requires-clause-ordered g c = let filled = c.requires.filled in omega (arith, ints, filled)

pub dirty_after-requires-clause-ranges : goal.dirty_after-requires-clause-ranges
dirty_after-requires-clause-ranges g c = bounded-of _ _ _ _ _ c.self.invariant refl

pub invariant_of-self : goal.invariant_of-self
invariant_of-self g c =
    inside-kept _ c.args.written _ _ _ _ _ c.requires.filled c.requires.inside (search rules) c.self.invariant (search rules) (search rules)
