-- One edge more.
use Rattle.std.proofs.Common.{◌<◌, ◌∙◌, ◌++◌, ◌∷◌, [], ℕ, ap, arith, length, map, sym}
use Rattle.std.proofs.lemmas.List.{take_all}
use Rattle.flow_log.specs.declared.edge.Edge.{Edge}
use Rattle.flow_log.specs.declared.edge.Label.{Label}
use Rattle.abstract_state.specs.State.{Known}
use Rattle.flow_worklist.specs.Analysis.{edge_by}
use Rattle.table_check.proofs.Posting.{map-more}
use Rattle.table_check.proofs.checking.edges_of.Goals as goal

pub loop-pair-preserved : goal.loop-pair-preserved
loop-pair-preserved g c =
    let from = c.args.from in
    let label = c.args.label.now in
    let next = c.args.next.now in
    let i = c.loop-pair.pair-index in
    let pair = c.pair-item.result in
    let within : i < length next = omega (arith, c.loop-pair-test.true) in
    let f : ℕ × Known g.row.D.Denot → Edge = λ p. edge_by from label p.0 in
    c.in_ok-push.ensures.items
    ∙ ap (λ (l : Label). c.loop-pair.edges.items ++ edge_by from l pair.0 ∷ []) c.in_ok-copy.ensures
    ∙ ap (λ es. es ++ f pair ∷ []) c.loop-pair.invariant
    ∙ sym (map-more f next i pair within c.pair-item.is)

pub returns : goal.returns
returns g c =
    let f : ℕ × Known g.row.D.Denot → Edge = λ p. edge_by c.args.from c.args.label.now p.0 in
    c.loop-pair.invariant ∙ ap (map f) (take_all c.loop-pair.pair-index c.args.next.now c.loop-pair-test.false)
