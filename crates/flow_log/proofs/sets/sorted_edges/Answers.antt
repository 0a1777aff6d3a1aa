-- The derived order of edges is the defined one.
use Rattle.std.proofs.Common.{◌∙◌}
use Rattle.flow_log.proofs.Orders.{derived_exact, edge_sets}
use Rattle.flow_log.proofs.sets.sorted_edges.Goals as goal

pub sorted_set-requires : goal.sorted_set-requires
sorted_set-requires c = derived_exact

pub returns : goal.returns
returns c = c.sorted_set.ensures ∙ edge_sets c.args.edges.items
