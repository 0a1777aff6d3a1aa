use Rattle.std.proofs.Common.{rules}
use Rattle.std.proofs.lemmas.List.Sorted.{IsNonDecreasingBy-from_sort_by_key}
use Rattle.memory_map.specs.declared.span.Span.{Span}
use Rattle.memory_map.proofs.span.sort_by_low.Goals as goal

pub returns-clause-sorted : goal.returns-clause-sorted
returns-clause-sorted c = IsNonDecreasingBy-from_sort_by_key (λ (s : Span). s.low) _ c.in_ok-sort_by_key.ensures.sorted (λ a r q k. search rules)
