-- By the order of edges the newest is this one.
use Rattle.std.proofs.Common.{◌≡◌, ◌-◌, length, get_or, sym, ◌∙◌, ap, subst, arith, Contains}
use Rattle.std.proofs.lemmas.Bool.{ltb-true}
use Rattle.flow_log.specs.declared.edge.Edge.{Edge}
use Rattle.flow_log.proofs.Orders.{derived_exact}
use Rattle.flow_worklist.proofs.automaton.is_newest.Goals as goal

pub returns-in-Equal : goal.returns-in-Equal
returns-in-Equal c =
    let edges = c.args.edges.now in
    let last = c.in-Some.last.now in
    let some = ltb-true 0 (length edges) (sym c.in-Some.ensures.item.0) in
    let same : last ≡ c.args.e.now = derived_exact last c.args.e.now (sym c.cmp.ensures ∙ c.in-Equal.is) in
    λ t. subst (λ (e : Edge). Contains edges e) same (length edges - 1, omega (arith, some), sym c.in-Some.ensures.item.1)
