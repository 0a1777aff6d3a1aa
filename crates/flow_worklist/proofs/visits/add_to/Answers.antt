use Rattle.std.proofs.Common.{Box, Global, Option, ℕ, Some, option_map, sym, subst}
use Rattle.domain_laws.specs.Made.{values_of}
use Rattle.flow_worklist.specs.declared.row_index.RowIndex.{RowIndex}
use Rattle.flow_worklist.specs.Grouping.{HasPlace, IsIndexOf}
use Rattle.flow_worklist.proofs.Grouping.{index-more}
use Rattle.flow_worklist.proofs.visits.add_to.Goals as goal

pub returns-in_ok-add-in-Some : goal.returns-in_ok-add-in-Some
returns-in_ok-add-in-Some g c =
    let d = values_of g.D.Domain g.D.PartialEq.eq in
    λ states count h.
    let P : Option (Box RowIndex Global) → Type 0 = λ o. IsIndexOf d (option_map (λ b. b.value) o) states in
    let before : IsIndexOf d (Some c.in-Some.index.value) states = subst P c.in-Some.is h in
    index-more d c.deref_mut.result.now c.add.new.self states c.args.s.now
    (subst (λ (p : ℕ). HasPlace d c.add.new.self p c.args.s.now) (sym count) c.in_ok-add-in-Some.ensures.has) c.in_ok-add-in-Some.ensures.kept
    (subst (λ (x : RowIndex). IsIndexOf d (Some x) states) (sym c.deref_mut.ensures.value) before)
