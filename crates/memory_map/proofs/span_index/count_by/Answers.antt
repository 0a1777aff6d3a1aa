use Rattle.std.proofs.Common.{rules}
use Rattle.std.specs.Prelude.{nat_le}
use Rattle.std.proofs.lemmas.List.Sorted.{IsPartitionPoint-from_clause, IsPartitionedBy-leb}
use Rattle.memory_map.specs.declared.span.Span.{Span}
use Rattle.memory_map.proofs.span_index.count_by.Goals as goal

pub returns-clause-parted : goal.returns-clause-parted
returns-clause-parted c = IsPartitionPoint-from_clause (λ (s : Span). nat_le s.low c.args.a) _ _ c.partition_point.ensures.partitioned (IsPartitionedBy-leb (λ (s : Span). s.low) c.args.sorted.now c.args.a c.requires) (λ a r q k. search rules)
