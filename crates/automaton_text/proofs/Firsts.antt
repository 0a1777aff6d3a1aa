-- The first marks have each location and cause, and are marks of the list.
use Rattle.std.proofs.Common.{◌≡◌, ℕ, List, true, ◌==◌, ◌&&◌, refl, sym, ◌∙◌, ap, subst}
use Rattle.std.specs.Prelude.{Contains}
use Rattle.std.specs.Cmp.{IsEquivalence, nat_eq_equiv}
use Rattle.std.specs.List.{dedup}
use Rattle.std.proofs.lemmas.Bool.{and_parts, eqb-true}
use Rattle.std.proofs.lemmas.List.Kept.{Any-dedup, Contains-from_dedup}
use Rattle.flow_log.specs.Ordered.{ordered_set}
use Rattle.flow_log.specs.Orders.{cause_rank}
use Rattle.flow_log.proofs.Ordering.{ordered_set-is, IsSetOf}
use Rattle.automaton_text.specs.declared.automaton.OpenMark.{OpenMark}
use Rattle.automaton_text.specs.contracts.automaton.OpenMarkOrd.TheImpl as marks
use Rattle.automaton_text.specs.Orders.{first_marks, is_same_opening, mark_cmp}
use Rattle.automaton_text.proofs.Orders.{Contains-mark_set, derived_exact, mark_sets}

opening-equivalence : IsEquivalence is_same_opening
opening-equivalence = record {
  refl = λ x. ap (λ b. b && (cause_rank x.cause == cause_rank x.cause)) (nat_eq_equiv.refl x.at) ∙ nat_eq_equiv.refl (cause_rank x.cause);
  symm = λ x y.
      ap (λ b. b && (cause_rank x.cause == cause_rank y.cause)) (nat_eq_equiv.symm x.at y.at)
      ∙ ap (λ b. (y.at == x.at) && b) (nat_eq_equiv.symm (cause_rank x.cause) (cause_rank y.cause));
  congr = λ x y z same.
      let parts = and_parts (x.at == y.at) (cause_rank x.cause == cause_rank y.cause) same in
      ap (λ n. (n == z.at) && (cause_rank x.cause == cause_rank z.cause)) (eqb-true x.at y.at parts.0)
      ∙ ap (λ n. (y.at == z.at) && (n == cause_rank z.cause)) (eqb-true (cause_rank x.cause) (cause_rank y.cause) parts.1);
}

-- a first mark opens the location of a mark
pub record IsOpenedFirst (xs : List OpenMark) (m : OpenMark) : Type 0 where
  pub first : OpenMark
  pub held : Contains (first_marks xs) first
  pub at : first.at ≡ m.at

pub opened_first : (xs : List OpenMark) (m : OpenMark) → Contains xs m → IsOpenedFirst xs m
unfolding first_marks
opened_first xs m held =
    let there = Any-dedup opening-equivalence (ordered_set mark_cmp xs) m (Contains-mark_set xs m held) in
    record {
      first = there.1;
      held = (there.0, there.2, there.3);
      at = sym (eqb-true m.at there.1.at (and_parts (m.at == there.1.at) (cause_rank m.cause == cause_rank there.1.cause) there.4).0);
    }

-- each is a mark of the list
pub Contains-from_first_marks : (xs : List OpenMark) (m : OpenMark) → Contains (first_marks xs) m → Contains xs m
unfolding first_marks
Contains-from_first_marks xs m held =
    let in_set : Contains (ordered_set mark_cmp xs) m = Contains-from_dedup is_same_opening (ordered_set mark_cmp xs) m held in
    let is : IsSetOf marks.ghosts.cmp marks.Laws.total-law (record { same = derived_exact }) xs (ordered_set marks.ghosts.cmp xs) =
    ordered_set-is marks.ghosts.cmp marks.Laws.total-law (record { same = derived_exact }) xs in
    let P : List OpenMark → Type 0 = λ l. Contains l m in
    is.only m (subst P (sym (mark_sets xs)) in_set)
