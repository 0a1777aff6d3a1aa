-- The sorted list without repeats is the ordered set, since the order is total and tells all values apart.
use Rattle.std.proofs.Common.{◌∙◌}
use Rattle.std.proofs.lemmas.List.Filters.{dedup_is}
use Rattle.flow_log.proofs.Ordering.{sorted_without_repeats}
use Rattle.flow_log.proofs.sets.sorted_set.Goals as goal

pub returns : goal.returns
returns g c =
    dedup_is g.T.PartialEq.eq c.sort_unstable.new.self.items c.dedup.new.self.items c.dedup.ensures.filtered
    ∙ sorted_without_repeats g.T.Ord.cmp g.met.T.Ord.total (record { same = c.requires }) g.T.PartialEq.eq g.met.T.Ord.matches_eq
    c.args.items.items c.sort_unstable.new.self.items g.met.T.Eq.laws c.sort_unstable.ensures.permutation c.sort_unstable.ensures.sorted
