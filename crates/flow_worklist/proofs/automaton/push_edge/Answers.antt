-- An edge that is the newest leaves the set.
use Rattle.std.proofs.Common.{◌≡◌, List, ap, sym, ◌∙◌, subst, Contains}
use Rattle.flow_log.specs.declared.edge.Edge.{Edge}
use Rattle.flow_log.specs.Ordered.{ordered_set}
use Rattle.flow_log.specs.Orders.{edge_cmp}
use Rattle.flow_worklist.proofs.EdgeSets.{known_edge}
use Rattle.flow_worklist.proofs.automaton.push_edge.Goals as goal

pub returns-then-is_newest : goal.returns-then-is_newest
returns-then-is_newest c = known_edge c.args.made.now.items c.args.e.now (subst (λ (l : List Edge). Contains l c.args.e.now) c.deref.ensures.value (c.is_newest.ensures c.if-is_newest.true))
