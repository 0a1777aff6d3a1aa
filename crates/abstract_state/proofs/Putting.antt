-- Facts that are put again one after another are those that are widened.
use Rattle.std.proofs.Common.{◌≡◌, ℕ, zero, suc, ◌<◌, Bool, true, false, cond, List, [], ◌∷◌, ◌++◌, map, filter, fold, length, get_or, refl, sym, ◌∙◌, ap, subst, arith, ℤ, pos, ◌+ℤ◌}
use Rattle.std.specs.Prelude.{not, ◌==◌, ◌&&◌, int_le}
use Rattle.std.specs.Ordering.{int_eq}
use Rattle.std.proofs.lemmas.Bool.{and_parts, false_from_ne_true}
use Rattle.std.proofs.lemmas.Int.{ints}
use Rattle.std.proofs.lemmas.List.{append_assoc, map-append}
use Rattle.std.proofs.lemmas.List.Elements.{filter-append}
use Rattle.bit_words.specs.declared.width.Width.{Width}
use Rattle.bit_words.specs.declared.width.Width.TheVariants.{B8, B16, B32}
use Rattle.bit_words.specs.Width.{bytes_of}
use Rattle.domain_laws.specs.Laws.{Values, IsLawful}
use Rattle.partitioned_memory.specs.declared.area.Area.{Area}
use Rattle.partitioned_memory.specs.declared.fact.Fact.{Fact}
use Rattle.partitioned_memory.specs.Areas.{by_area, is_before, same_area}
use Rattle.partitioned_memory.specs.Lists.{Ascends, Every}
use Rattle.partitioned_memory.specs.Held.{PartsHeld, fact_before, fact_given, facts_put, interval_of_fact, is_at}
use Rattle.partitioned_memory.specs.Well.{IsWell, IsWellFact}
use Rattle.partitioned_memory.proofs.Kept.{same_width}
use Rattle.partitioned_memory.proofs.ListLaws.{Every-weaker}
use Rattle.partitioned_memory.proofs.Orders.{area_cmp-refl, int_le-true, same_area-is, same_area-refl}
use Rattle.abstract_state.specs.declared.seen.Holder.{Holder}
use Rattle.abstract_state.specs.Widening.{holder_of, widened_fact, widened_facts, widened_value, with_widened_fact}
use Rattle.abstract_state.proofs.Covering.{int-same}
use Rattle.abstract_state.proofs.Raising.{int-refl, nat-refl}

-- ---- spots

width-some : (w : Width) (low : ℤ) → int_le (low +ℤ pos (bytes_of w)) low ≡ true → ⊥
width-some B8 low e = let h = int_le-true _ low e in omega (arith, ints)
width-some B16 low e = let h = int_le-true _ low e in omega (arith, ints)
width-some B32 low e = let h = int_le-true _ low e in omega (arith, ints)

-- no fact comes before itself
pub not-before : {D : Type 0} (f : Fact D) → fact_before f f ≡ true → ⊥
unfolding is_before
not-before f e =
    width-some f.w f.low (sym (ap (λ o. by_area o (int_le (interval_of_fact f).end (interval_of_fact f).low)) (area_cmp-refl f.area)) ∙ e)

spot : {D : Type 0} (f g : Fact D) → is_at g.area g.low g.w f ≡ true → interval_of_fact f ≡ interval_of_fact g
spot f g e =
    let rest = and_parts (same_area f.area g.area) (int_eq f.low g.low && (bytes_of f.w == bytes_of g.w)) e in
    let more = and_parts (int_eq f.low g.low) (bytes_of f.w == bytes_of g.w) rest.1 in
    ap (λ (a : Area). record { area = a; low = f.low; end = f.low +ℤ pos (bytes_of f.w) }) (same_area-is f.area g.area rest.0)
    ∙ ap (λ (z : ℤ). record { area = g.area; low = z; end = z +ℤ pos (bytes_of f.w) }) (int-same f.low g.low more.0)
    ∙ ap (λ (w : Width). record { area = g.area; low = g.low; end = g.low +ℤ pos (bytes_of w) }) (same_width f.w g.w more.1)

-- facts in order are not at one spot
before-not_at : {D : Type 0} (f g : Fact D) → fact_before f g ≡ true → is_at g.area g.low g.w f ≡ false
before-not_at f g e = false_from_ne_true (is_at g.area g.low g.w f) (λ h. not-before f (ap (λ i. is_before (interval_of_fact f) i) (spot f g h) ∙ e))

before-not_of : {D : Type 0} (f g : Fact D) → fact_before f g ≡ true → is_at f.area f.low f.w g ≡ false
before-not_of f g e = false_from_ne_true (is_at f.area f.low f.w g) (λ h. not-before f (ap (λ i. is_before (interval_of_fact f) i) (sym (spot g f h)) ∙ e))

own-spot : {D : Type 0} (f : Fact D) → is_at f.area f.low f.w f ≡ true
own-spot f = three (same_area f.area f.area) (int_eq f.low f.low) (bytes_of f.w == bytes_of f.w) (same_area-refl f.area) (int-refl f.low) (nat-refl (bytes_of f.w))
  where
    three : (a b c : Bool) → a ≡ true → b ≡ true → c ≡ true → (a && (b && c)) ≡ true
    three a b c e f g = ap (λ x. x && (b && c)) e ∙ ap (λ x. x && c) f ∙ g

-- ---- a fact put among others

kept-others : {D : Type 0} (a : Area) (low : ℤ) (w : Width) (fs : List (Fact D)) → Every (λ f. is_at a low w f ≡ false) fs → filter (λ f. not (is_at a low w f)) fs ≡ fs
kept-others a low w [] h = refl
kept-others a low w (f ∷ fs) h =
    ap (λ b. cond (not b) (f ∷ filter (λ g. not (is_at a low w g)) fs) (filter (λ g. not (is_at a low w g)) fs)) h.0 ∙ ap (λ gs. f ∷ gs) (kept-others a low w fs h.1)

given-others : {D : Type 0} (a : Area) (low : ℤ) (w : Width) (v : D) (fs : List (Fact D)) → Every (λ f. is_at a low w f ≡ false) fs → map (fact_given a low w v) fs ≡ fs
given-others a low w v [] h = refl
given-others a low w v (f ∷ fs) h =
    ap (λ b. cond b (record { area = f.area; low = f.low; w = f.w; value = v }) f ∷ map (fact_given a low w v) fs) h.0 ∙ ap (λ gs. f ∷ gs) (given-others a low w v fs h.1)

module _ {D : Type 0} (d : Values D) (l : IsLawful d) (k : ℕ) (seen : List (Holder × D)) where
  -- the fact widened, unless it goes
  abbrev kept : Fact D → List (Fact D) → List (Fact D)
  kept f rest = cond (not (d.rank (widened_fact d k seen f).value == 0)) (widened_fact d k seen f ∷ rest) rest

  abbrev NotAt : Fact D → List (Fact D) → Type 0
  NotAt f fs = Every (λ g. is_at f.area f.low f.w g ≡ false) fs

  put-among : (f : Fact D) (pre post : List (Fact D)) → NotAt f pre → NotAt f post → facts_put d f.area f.low f.w (widened_value d k seen (holder_of f) f.value) (pre ++ f ∷ post) ≡ pre ++ kept f post
  put-among f pre post before after =
      let v = widened_value d k seen (holder_of f) f.value in
      let test = λ (g : Fact D). not (is_at f.area f.low f.w g) in
      let give = fact_given f.area f.low f.w v in
      elim (d.rank v == 0) as (λ b. cond b (filter test (pre ++ f ∷ post)) (map give (pre ++ f ∷ post)) ≡ pre ++ cond (not b) (widened_fact d k seen f ∷ post) post) [
        | true ↦
            filter-append test pre (f ∷ post)
            ∙ ap (λ xs. xs ++ filter test (f ∷ post)) (kept-others f.area f.low f.w pre before)
            ∙ ap (λ b. pre ++ cond (not b) (f ∷ filter test post) (filter test post)) (own-spot f)
            ∙ ap (λ xs. pre ++ xs) (kept-others f.area f.low f.w post after)
        | false ↦
            map-append give pre (f ∷ post)
            ∙ ap (λ xs. xs ++ map give (f ∷ post)) (given-others f.area f.low f.w v pre before)
            ∙ ap (λ b. pre ++ cond b (record { area = f.area; low = f.low; w = f.w; value = v }) f ∷ map give post) (own-spot f)
            ∙ ap (λ xs. pre ++ widened_fact d k seen f ∷ xs) (given-others f.area f.low f.w v post after)
      ]

  abbrev with_facts : PartsHeld D → List (Fact D) → PartsHeld D
  with_facts h fs = record h { facts = fs }

  -- one step: nothing is put where the value stays
  step : (h : PartsHeld D) (f : Fact D) (pre post : List (Fact D)) → (d.rank f.value == 0) ≡ false → NotAt f pre → NotAt f post → with_widened_fact d k seen (with_facts h (pre ++ f ∷ post)) f ≡ with_facts h (pre ++ kept f post)
  step h f pre post rank before after =
      let v = widened_value d k seen (holder_of f) f.value in
      let old = with_facts h (pre ++ f ∷ post) in
      let put = with_facts h (facts_put d f.area f.low f.w v (pre ++ f ∷ post)) in
      elim (d.eq v f.value) as (λ b. d.eq v f.value ≡ b → (let r : PartsHeld D = cond b old put in r) ≡ with_facts h (pre ++ kept f post)) [
        | true ↦ λ e.
            let same : v ≡ f.value = l.eq_is v f.value e in
            let own : f ≡ widened_fact d k seen f = ap (λ (x : D). record { area = f.area; low = f.low; w = f.w; value = x }) (sym same) in
            let stays : (d.rank (widened_fact d k seen f).value == 0) ≡ false = ap (λ x. d.rank x == 0) same ∙ rank in
            ap (with_facts h) (ap (λ g. pre ++ g ∷ post) own ∙ sym (ap (λ b. pre ++ cond (not b) (widened_fact d k seen f ∷ post) post) stays))
        | false ↦ λ e. ap (with_facts h) (put-among f pre post before after)
      ] refl

  -- all steps
  abbrev Separate : List (Fact D) → List (Fact D) → Type 0
  Separate pre fs = Every (λ f. NotAt f pre) fs

  separate-more : (f : Fact D) (pre fs : List (Fact D)) → Separate pre fs → Every (λ g. fact_before f g ≡ true) fs → Separate (pre ++ kept f []) fs
  separate-more f pre [] h k' = tt
  separate-more f pre (g ∷ gs) h k' = (not-more g pre f h.0 (before-not_at f g k'.0), separate-more f pre gs h.1 k'.1)
    where
      not-more : (g : Fact D) (pre : List (Fact D)) (f : Fact D) → NotAt g pre → is_at g.area g.low g.w f ≡ false → NotAt g (pre ++ kept f [])
      not-more g [] f h e = elim (not (d.rank (widened_fact d k seen f).value == 0)) as (λ b. NotAt g (cond b (widened_fact d k seen f ∷ []) [])) [ true ↦ (e, tt) | false ↦ tt ]
      not-more g (x ∷ xs) f h e = (h.0, not-more g xs f h.1 e)

  kept-append : (f : Fact D) (rest : List (Fact D)) → kept f [] ++ rest ≡ kept f rest
  kept-append f rest = elim (not (d.rank (widened_fact d k seen f).value == 0)) as (λ b. cond b (widened_fact d k seen f ∷ []) [] ++ rest ≡ cond b (widened_fact d k seen f ∷ rest) rest) [ true ↦ refl | false ↦ refl ]

  pub steps : (h : PartsHeld D) (pre fs : List (Fact D)) → Ascends fact_before fs → Every (λ f. (d.rank f.value == 0) ≡ false) fs → Separate pre fs → fold (with_widened_fact d k seen) (with_facts h (pre ++ fs)) fs ≡ with_facts h (pre ++ widened_facts d k seen fs)
  steps h pre [] order ranks off = refl
  steps h pre (f ∷ fs) order ranks off =
      let after = Every-weaker (λ g. fact_before f g ≡ true) (λ g. is_at f.area f.low f.w g ≡ false) fs (λ g e. before-not_of f g e) order.0 in
      ap (λ x. fold (with_widened_fact d k seen) x fs) (step h f pre fs ranks.0 off.0 after ∙ ap (with_facts h) (sym (append_assoc pre (kept f []) fs ∙ ap (λ xs. pre ++ xs) (kept-append f fs))))
      ∙ steps h (pre ++ kept f []) fs order.1 ranks.1 (separate-more f pre fs off.1 order.0)
      ∙ ap (with_facts h) (append_assoc pre (kept f []) (widened_facts d k seen fs) ∙ ap (λ xs. pre ++ xs) (kept-append f (widened_facts d k seen fs)))

  -- from the parts themselves
  separate-none : (fs : List (Fact D)) → Separate [] fs
  separate-none [] = tt
  separate-none (f ∷ fs) = (tt, separate-none fs)

  pub all-steps : (h : PartsHeld D) → IsWell d h → fold (with_widened_fact d k seen) h h.facts ≡ record h { facts = widened_facts d k seen h.facts }
  all-steps h w =
      steps h [] h.facts w.facts_ascend (Every-weaker (IsWellFact d h.blocks) (λ f. (d.rank f.value == 0) ≡ false) h.facts (λ f q. q.ranked) w.facts) (separate-none h.facts)

pub every-at : {X : Type 0} (P : X → Type 0) (xs : List X) (i : ℕ) (x : X) → Every P xs → i < length xs → x ≡ get_or xs i x → P x
every-at P [] i x h less e = absurd (omega arith)
every-at P (y ∷ ys) zero x h less e = subst P (sym e) h.0
every-at P (y ∷ ys) (suc i) x h less e = every-at P ys i x h.1 (omega arith) e
