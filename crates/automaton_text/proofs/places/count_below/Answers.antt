use Rattle.std.proofs.Common.{rules, nat_lt}
use Rattle.std.proofs.lemmas.List.Sorted.{IsPartitionPoint-from_clause}
use Rattle.automaton_text.proofs.Ascending.{parted}
use Rattle.automaton_text.proofs.places.count_below.Goals as goal

pub returns : goal.returns
returns c = IsPartitionPoint-from_clause (λ l. nat_lt l.at c.args.at) _ _ c.partition_point.ensures.partitioned (parted c.args.locations.now c.args.at c.requires) (λ a r q k. search rules)
