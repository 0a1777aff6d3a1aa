use Rattle.std.proofs.Common.{◌≡◌, ◌++◌, drop, filter}
use Rattle.std.specs.Prelude.{◌&&◌, not}
use Rattle.partitioned_memory.specs.Pairs.{IsParted}
use Rattle.partitioned_memory.specs.Leaves.{flattened, pieces}
use Rattle.partitioned_memory.proofs.spots.pairs_within.Given as goal

abbrev pub invariant-loop-leaf : goal.invariant-loop-leaf
invariant-loop-leaf g l = record {
  made : l.all.items ++ filter (λ p. not (g.S.Stretch.before l.stretch p) && not (g.S.Stretch.after l.stretch p)) (flattened (pieces (drop l.leaf-index l.leaves))) ≡ filter (λ p. not (g.S.Stretch.before l.stretch p) && not (g.S.Stretch.after l.stretch p)) (flattened (pieces l.leaves));
  parted : IsParted (g.S.Stretch.before l.stretch) (g.S.Stretch.after l.stretch) (flattened (pieces (drop l.leaf-index l.leaves)));
}
