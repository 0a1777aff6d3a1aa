-- The mark of one more row.
use Rattle.std.proofs.Common.{◌++◌, ◌<◌, length, take, map, ap, sym, ◌∙◌, append_assoc, arith}
use Rattle.std.specs.Prelude.{option_to_list}
use Rattle.flow_log.specs.declared.cause.Cause.TheVariants.{Budget}
use Rattle.flow_log.specs.Log.{unexpanded_marks}
use Rattle.flow_worklist.specs.Analysis.{open_at, open_mark}
use Rattle.flow_worklist.specs.Exploring.{cause_unexpanded}
use Rattle.flow_worklist.proofs.Marking.{unexpanded_more}
use Rattle.flow_worklist.proofs.automaton.push_unexpanded_marks.Goals as goal

pub loop-number-preserved : goal.loop-number-preserved
loop-number-preserved g c =
    let row = c.index-rows-number.result in
    let rows = c.args.rows.now in
    let i = c.loop-number.number in
    let within : i < length rows = omega (arith, c.loop-number-test.true) in
    let last = map (λ cause. open_at row.location cause i) (option_to_list (cause_unexpanded row)) in
    c.in_ok-push_unexpanded_mark.ensures
    ∙ ap (λ l. l ++ last) c.loop-number.invariant
    ∙ append_assoc c.args.out.now.items (map open_mark (unexpanded_marks Budget (take i rows))) last
    ∙ ap (λ l. c.args.out.now.items ++ l) (sym (unexpanded_more rows i row within c.index-rows-number.is))
