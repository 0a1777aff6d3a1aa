use Rattle.std.proofs.Common.{◌≡◌, take}
use Rattle.flow_log.specs.Ordered.{ordered_set}
use Rattle.flow_log.specs.Orders.{edge_cmp}
use Rattle.flow_worklist.proofs.automaton.copies.Given as goal

abbrev pub invariant-loop-e : goal.invariant-loop-e
invariant-loop-e l = ordered_set edge_cmp l.made.items ≡ ordered_set edge_cmp (take l.e-index l.edges)
