-- What is kept, or made, is what the states of the rows hold.
use Rattle.std.proofs.Common.{Box, Global, List, Option, option_map, sym, ◌∙◌, ap, subst}
use Rattle.domain_laws.specs.Made.{values_of}
use Rattle.flow_log.specs.Log.{rows_at, states_at}
use Rattle.abstract_state.specs.declared.seen.Holder.{Holder}
use Rattle.abstract_state.specs.Widening.{seen_of}
use Rattle.flow_worklist.specs.Covering.{states_of}
use Rattle.flow_worklist.specs.Exploring.{IsSeenOf}
use Rattle.flow_worklist.proofs.Indexing.{states_are, states_found}
use Rattle.flow_worklist.proofs.visits.Visits.take_seen.Goals as goal

pub returns-in-Some-clause-seen : goal.returns-in-Some-clause-seen
returns-in-Some-clause-seen g c =
    let d = values_of g.D.Domain g.D.PartialEq.eq in
    let P : Option (Box (List (Holder × g.row.D.Denot)) Global) → Type 0 = λ o. IsSeenOf d (option_map (λ b. b.value) o) (states_at c.args.at c.args.rows.now) in
    subst P (sym c.take.ensures.value ∙ c.in-Some.is) c.requires.seen

pub returns-in_ok-new-in-None-clause-seen : goal.returns-in_ok-new-in-None-clause-seen
returns-in_ok-new-in-None-clause-seen g c =
    let d = values_of g.D.Domain g.D.PartialEq.eq in
    let at = c.args.at in
    let rows = c.args.rows.now in
    let numbers = c.args.self.now.numbers.items in
    c.in_ok-new-in-None.ensures.ok ∙ c.in_ok-seen-in-None.ensures ∙ ap (λ ns. seen_of d (states_of rows ns)) c.deref.ensures.value
    ∙ ap (seen_of d) (states_found rows numbers (rows_at at rows) c.requires.numbers ∙ sym (states_are at rows))
