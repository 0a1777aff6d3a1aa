use Rattle.std.proofs.Common.{◌≡◌, true, false, rules}
use Rattle.std.proofs.lemmas.List.Sorted.{IsPartitionPoint-from_clause}
use Rattle.partitioned_memory.specs.Leaves.{before_edge}
use Rattle.partitioned_memory.proofs.Cuts.{parted-by, point-back, point-front}
use Rattle.partitioned_memory.proofs.leaf.place_of_pair.Goals as goal

pub returns-clause-front : goal.returns-clause-front
returns-clause-front g c =
    let t = before_edge c.args.edge (g.S.Stretch.before c.args.stretch.now) (g.S.Stretch.after c.args.stretch.now) in
    let point = IsPartitionPoint-from_clause t _ _ c.partition_point.ensures.partitioned (parted-by t _ c.requires) (λ a r q k. search rules) in
    point-front (λ p. t p ≡ true) _ _ c.partition_point.ensures.bound point.0

pub returns-clause-back : goal.returns-clause-back
returns-clause-back g c =
    let t = before_edge c.args.edge (g.S.Stretch.before c.args.stretch.now) (g.S.Stretch.after c.args.stretch.now) in
    let point = IsPartitionPoint-from_clause t _ _ c.partition_point.ensures.partitioned (parted-by t _ c.requires) (λ a r q k. search rules) in
    point-back (λ p. t p ≡ false) _ _ point.1
