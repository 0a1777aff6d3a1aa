-- The index finds a row that covers a state where there is one.
use Rattle.std.proofs.Common.{Option, map, option_map, sym, ◌∙◌, ap, subst}
use Rattle.std.specs.List.{list_any}
use Rattle.domain_laws.specs.Made.{values_of}
use Rattle.flow_log.specs.Log.{Row, rows_at}
use Rattle.partitioned_memory.specs.Held.{fact_before, pair_of_fact}
use Rattle.partitioned_memory.specs.Lists.{Ascends}
use Rattle.partitioned_memory.specs.Pairs.{pair_before}
use Rattle.partitioned_memory.proofs.FactSpots.{Ascends-facts}
use Rattle.abstract_state.specs.State.{Known}
use Rattle.flow_worklist.specs.declared.row_index.RowIndex.{RowIndex}
use Rattle.flow_worklist.specs.Exploring.{index_in}
use Rattle.flow_worklist.specs.Grouping.{IsIndexOf, covers_in}
use Rattle.flow_worklist.proofs.Grouping.{index-covers}
use Rattle.flow_worklist.proofs.Indexing.{states_are}
use Rattle.flow_worklist.proofs.Telling.{facts-back}
use Rattle.flow_worklist.proofs.visits.Visits.covers.Goals as goal

pub returns-in-Some : goal.returns-in-Some
returns-in-Some g c =
    let d = values_of g.D.Domain g.D.PartialEq.eq in
    let met = g.met.D.Domain g.world.𝓛 g.world.𝓜 g.world.𝓡 ((λ s x. x), (λ x. x), (λ x. x), λ x. x) in
    let rows = c.args.rows.now in
    let s = c.args.s.now in
    let at = c.args.at in
    let h = c.requires.kept in
    let pairs = map pair_of_fact s.parts.facts in
    let ascend : Ascends pair_before pairs = Ascends-facts pairs (subst (Ascends fact_before) (sym (facts-back s.parts.facts)) c.requires.well.parts.facts_ascend) in
    let Q : Option RowIndex → Type 0 = λ o. IsIndexOf d o (map (λ (row : Row (Known g.row.D.Denot)). row.state) (rows_at at rows)) in
    let indexed = subst (IsIndexOf d (index_in c.args.self.now)) (states_are at rows) h.indexed in
    let box = c.in-Some.index in
    c.covers.ensures
    ∙ ap (λ (x : RowIndex). list_any (covers_in d x rows c.deref-in-Some.result.now s) x.groups.items) c.deref.ensures
    ∙ ap (λ ns. list_any (covers_in d box.value rows ns s) box.value.groups.items) c.deref-in-Some.ensures.value
    ∙ index-covers d met.lawful s ascend box.value rows c.args.self.now.numbers.items (rows_at at rows) h.numbers (subst Q (ap (option_map (λ b. b.value)) c.in-Some.is) indexed)
