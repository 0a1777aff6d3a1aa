-- The index is one of the states still.
use Rattle.std.proofs.Common.{Box, Global, List, Option, map, option_map, sym, ◌∙◌, ap, subst}
use Rattle.std.specs.Prelude.{slice_get}
use Rattle.domain_laws.specs.Made.{values_of}
use Rattle.flow_log.specs.Log.{states_at}
use Rattle.abstract_state.specs.declared.seen.Holder.{Holder}
use Rattle.flow_worklist.specs.Exploring.{IsSeenOf}
use Rattle.flow_worklist.proofs.visits.Visits.index_many.Goals as goal

pub returns : goal.returns
returns g c =
    let d = values_of g.D.Domain g.D.PartialEq.eq in
    let rows = c.args.rows.now in
    let states = states_at c.args.at rows in
    let P : Option (Box (List (Holder × g.row.D.Denot)) Global) → Type 0 = λ o. IsSeenOf d (option_map (λ b. b.value) o) states in
    record {
      numbers = ap (λ v. map (slice_get rows) v.items) c.in_ok-index.ensures.numbers ∙ c.requires.numbers;
      well = c.requires.well;
      seen = subst P (sym c.in_ok-index.ensures.seen) c.requires.seen;
      indexed = c.in_ok-index.ensures.index;
    }
