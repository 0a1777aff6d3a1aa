use Rattle.std.proofs.Common.{◌≡◌, true, false, rules}
use Rattle.std.proofs.lemmas.List.Sorted.{IsPartitionPoint-from_clause}
use Rattle.partitioned_memory.specs.Held.{count_before}
use Rattle.partitioned_memory.proofs.Cuts.{parted-by, point-back, point-front}
use Rattle.partitioned_memory.specs.declared.fact.Counted.{Counted}
use Rattle.partitioned_memory.proofs.counts.counts_before.Goals as goal

pub returns-clause-front : goal.returns-clause-front
returns-clause-front c =
    let t = λ (e : Counted). count_before e c.args.other in
    let point = IsPartitionPoint-from_clause t _ _ c.partition_point.ensures.partitioned (parted-by t _ c.requires) (λ a r q k. search rules) in
    point-front (λ e. t e ≡ true) _ _ c.partition_point.ensures.bound point.0

pub returns-clause-back : goal.returns-clause-back
returns-clause-back c =
    let t = λ (e : Counted). count_before e c.args.other in
    let point = IsPartitionPoint-from_clause t _ _ c.partition_point.ensures.partitioned (parted-by t _ c.requires) (λ a r q k. search rules) in
    point-back (λ e. t e ≡ false) _ _ point.1
