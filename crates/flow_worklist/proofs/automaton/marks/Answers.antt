-- The two parts of the marks, one after another.
use Rattle.std.specs.Prelude.{filter_map}
use Rattle.flow_log.specs.declared.cause.Cause.TheVariants.{Budget}
use Rattle.flow_log.specs.Log.{expansion_mark, marks_by, unexpanded_marks}
use Rattle.flow_worklist.specs.Analysis.{open_mark}
use Rattle.flow_worklist.proofs.Marking.{pushed_two}
use Rattle.flow_worklist.proofs.automaton.marks.Goals as goal

pub returns : goal.returns
unfolding marks_by
returns g c =
    let log = c.args.log.now in
    pushed_two open_mark
    (filter_map (expansion_mark log.rows) log.causes)
    (unexpanded_marks Budget log.rows)
    c.new-found.result.items c.push_expansion_marks.new.out.items c.push_unexpanded_marks.new.out.items
    c.new-found.ensures.items
    (rw (c.rows.ensures, c.causes.ensures) at c.in_ok-push_expansion_marks.ensures)
    (rw c.rows-2.ensures at c.in_ok-push_unexpanded_marks.ensures)
