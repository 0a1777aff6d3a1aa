-- One edge more is put into the set.
use Rattle.std.proofs.Common.{◌≡◌, ◌+◌, ◌++◌, ◌∷◌, [], List, take, ap, sym, ◌∙◌, arith}
use Rattle.std.proofs.lemmas.List.{take_more}
use Rattle.flow_log.specs.declared.edge.Edge.{Edge}
use Rattle.flow_log.specs.Ordered.{insert_once, ordered_set}
use Rattle.flow_log.specs.Orders.{edge_cmp}
use Rattle.flow_worklist.proofs.EdgeSets.{edge_more}
use Rattle.flow_worklist.proofs.automaton.copies.Goals as goal

pub loop-e-preserved : goal.loop-e-preserved
loop-e-preserved c =
    let edges = c.args.edges.now in
    let i = c.loop-e.e-index in
    let e = c.e-item.result in
    let before : List Edge = take i edges in
    let more : take (i + 1) edges ≡ before ++ e ∷ [] = take_more edges i e (omega arith) ∙ ap (λ (x : Edge). before ++ x ∷ []) (sym c.e-item.is) in
    c.in_ok-push_edge.ensures ∙ edge_more c.loop-e.made.items e ∙ ap (insert_once edge_cmp e) c.loop-e.invariant ∙ sym (edge_more before e) ∙ ap (λ (l : List Edge). ordered_set edge_cmp l) (sym more)
