use Rattle.std.proofs.Common.{◌≡◌, Box, Global, List, Option, option_map, sym, ◌∙◌, ap, subst}
use Rattle.domain_laws.specs.Made.{values_of}
use Rattle.abstract_state.specs.declared.seen.Holder.{Holder}
use Rattle.abstract_state.specs.Widening.{seen_of, seen_with}
use Rattle.flow_worklist.specs.Exploring.{IsSeenOf}
use Rattle.flow_worklist.proofs.Indexing.{seen_of-more}
use Rattle.flow_worklist.proofs.visits.see.Goals as goal

pub returns-in_ok-add-in-Some : goal.returns-in_ok-add-in-Some
returns-in_ok-add-in-Some g c =
    let d = values_of g.D.Domain g.D.PartialEq.eq in
    λ states h.
    let P : Option (Box (List (Holder × g.row.D.Denot)) Global) → Type 0 = λ o. IsSeenOf d (option_map (λ b. b.value) o) states in
    let before : c.in-Some.seen.value ≡ seen_of d states = subst P c.in-Some.is h in
    c.in_ok-add-in-Some.ensures.ok ∙ ap (seen_with d c.args.s.now) (c.deref_mut.ensures.value ∙ before) ∙ sym (seen_of-more d states c.args.s.now)
