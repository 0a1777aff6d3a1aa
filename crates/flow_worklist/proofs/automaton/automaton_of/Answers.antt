-- Each field is the definition's.
use Rattle.std.proofs.Common.{List, map, ◌∙◌, ap}
use Rattle.std.specs.Ordering.{nat_cmp}
use Rattle.flow_log.specs.Log.{Row}
use Rattle.flow_log.specs.Ordered.{ordered_set}
use Rattle.flow_log.specs.Orders.{edge_cmp}
use Rattle.automaton_text.specs.Orders.{first_marks}
use Rattle.abstract_state.specs.State.{Known}
use Rattle.flow_worklist.specs.Analysis.{automaton_of, entry_of, location_of}
use Rattle.flow_worklist.proofs.Marking.{entry_at, same_automaton}
use Rattle.flow_worklist.proofs.automaton.automaton_of.Goals as goal

pub returns : goal.returns
unfolding automaton_of
returns g c =
    let image = c.args.image.now in
    let log = c.args.log.now in
    same_automaton _ _ _ _ _ _ _ _
    (c.location-entry.ensures ∙ entry_at c.rows.result.now c.index-rows-0.result (rw c.rows.ensures c.requires.some) c.index-rows-0.is ∙ ap entry_of c.rows.ensures)
    (c.from_vec.ensures ∙ c.in_ok-locations.ensures ∙ ap (λ (rows : List (Row (Known g.row.D.Denot))). map (location_of image) (ordered_set nat_cmp (map (λ (row : Row (Known g.row.D.Denot)). row.location) rows))) c.rows-2.ensures)
    (c.from_vec-2.ensures ∙ c.sorted_edges-edges.ensures ∙ c.in_ok-copies.ensures ∙ ap (ordered_set edge_cmp) c.edges.ensures)
    (c.from_vec-3.ensures ∙ c.first_marks-marks.ensures ∙ ap first_marks c.in_ok-marks.ensures)
