-- Where fewer than k states were seen, widening raises nothing.
use Rattle.std.proofs.Common.{◌≡◌, ℕ, zero, suc, ◌+◌, ◌<◌, ◌≤◌, Bool, true, false, cond, List, [], ◌∷◌, ◌++◌, map, filter, fold, length, Some, refl, sym, ◌∙◌, ap, subst, arith, ℤ, pos, ◌+ℤ◌}
use Rattle.std.specs.Prelude.{◌&&◌, ◌||◌, ◌==◌, not, nat_lt, count_by, find, unwrap_or}
use Rattle.std.specs.List.{list_any}
use Rattle.std.proofs.lemmas.Bool.{eqb-true}
use Rattle.std.proofs.lemmas.Grind.{common_steps}
use Rattle.std.proofs.lemmas.List.Sums.{sum_by-append}
use Rattle.bit_words.specs.Width.{bytes_of}
use Rattle.memory_map.specs.Registers.{register, with_register}
use Rattle.domain_laws.specs.Laws.{Values}
use Rattle.partitioned_memory.specs.declared.fact.Counted.{Counted}
use Rattle.partitioned_memory.specs.declared.fact.Fact.{Fact}
use Rattle.partitioned_memory.specs.Areas.{interval_at, is_before}
use Rattle.partitioned_memory.specs.Held.{fact_before, interval_of_fact}
use Rattle.partitioned_memory.specs.Lists.{Ascends, Every}
use Rattle.partitioned_memory.specs.Well.{IsWellFact}
use Rattle.abstract_state.specs.declared.seen.Holder.{Holder}
use Rattle.abstract_state.specs.declared.seen.Holder.TheVariants.{Register, Bytes}
use Rattle.abstract_state.specs.State.{IsWellState, Known}
use Rattle.abstract_state.specs.Widening.{held, held_registers, holder_of, is_pair, is_rival, raises, register_numbers, same_holder, seen_of, seen_with, stays, widened_facts, widened_state, widened_value, with_pair, with_pairs}
use Rattle.abstract_state.proofs.Putting.{not-before}
use Rattle.abstract_state.proofs.Seeing.{same_holder-is}

pub none-seen : {X : Type 0} (xs : List X) → (length xs == 0) ≡ true → xs ≡ []
none-seen [] e = refl
none-seen (x ∷ xs) e = (let none : length (x ∷ xs) ≡ 0 = eqb-true (length (x ∷ xs)) 0 e in absurd (omega arith))

-- ---- a state holds one value at most at each place

counted-cons : {X : Type 0} (p : X → Bool) (x : X) (xs : List X) → count_by p (x ∷ xs) ≡ cond (p x) 1 0 + count_by p xs
counted-cons p x xs = omega (arith, sum_by-append (λ y. cond (p y) 1 0) (x ∷ []) xs)

counted-less : {X : Type 0} (p q : X → Bool) (xs : List X) → count_by (λ x. p x && q x) xs ≤ count_by p xs
counted-less p q [] = omega arith
counted-less p q (x ∷ xs) =
    let both = counted-cons (λ y. p y && q y) x xs in
    let one = counted-cons p x xs in
    let less : cond (p x && q x) 1 0 ≤ cond (p x) 1 0 = by (p x) (q x) in
    let rest : count_by (λ y. p y && q y) xs ≤ count_by p xs = counted-less p q xs in
    omega (arith, both, one)
  where
    by : (a b : Bool) → cond (a && b) 1 0 ≤ cond a 1 0
    by true true = omega arith
    by true false = omega arith
    by false b = omega arith

far : (n i : ℕ) → i < n → ◌≡◌ {A = ℕ} (cond (n == i) 1 0) 0
far n i above = by (n == i) refl
  where
    by : (b : Bool) → (n == i) ≡ b → ◌≡◌ {A = ℕ} (cond b 1 0) 0
    by true e = (let same : n ≡ i = eqb-true n i e in absurd (omega arith))
    by false e = refl

register-once : (a : ℕ) → 0 + cond (a == 0) 1 0 + cond (a == 1) 1 0 + cond (a == 2) 1 0 + cond (a == 3) 1 0 + cond (a == 4) 1 0 + cond (a == 5) 1 0 + cond (a == 6) 1 0 + cond (a == 7) 1 0 ≤ 1
register-once zero = omega arith
register-once (suc zero) = omega arith
register-once (suc (suc zero)) = omega arith
register-once (suc (suc (suc zero))) = omega arith
register-once (suc (suc (suc (suc zero)))) = omega arith
register-once (suc (suc (suc (suc (suc zero))))) = omega arith
register-once (suc (suc (suc (suc (suc (suc zero)))))) = omega arith
register-once (suc (suc (suc (suc (suc (suc (suc zero))))))) = omega arith
register-once (suc (suc (suc (suc (suc (suc (suc (suc a)))))))) =
    let n : ℕ = suc (suc (suc (suc (suc (suc (suc (suc a))))))) in
    omega (arith, far n 0 (omega arith), far n 1 (omega arith), far n 2 (omega arith), far n 3 (omega arith), far n 4 (omega arith), far n 5 (omega arith), far n 6 (omega arith), far n 7 (omega arith))

-- a fact comes before what is held there
before_holder : {D : Type 0} → Fact D → Holder → Bool
before_holder f (Register r) = false
before_holder f (Bytes spot w) = is_before (interval_of_fact f) (interval_at spot.area spot.low (pos (bytes_of w)))

-- facts in order are at different places
apart : {D : Type 0} (h : Holder) (f g : Fact D) → fact_before f g ≡ true → same_holder h (holder_of f) ≡ true → same_holder h (holder_of g) ≡ false
unfolding before_holder
apart h f g before is = by (same_holder h (holder_of g)) refl
  where
    by : (b : Bool) → same_holder h (holder_of g) ≡ b → b ≡ false
    by false e = refl
    by true e =
        absurd (not-before f (ap (before_holder f) (sym (same_holder-is h (holder_of f) is) ∙ same_holder-is h (holder_of g) e) ∙ before))

module _ {D : Type 0} where
  abbrev at_holder : Holder → Holder × D → Bool
  at_holder h pair = same_holder h pair.0

  abbrev fact_pair : Fact D → Holder × D
  fact_pair f = (holder_of f, f.value)

  none-later : (h : Holder) (f : Fact D) (facts : List (Fact D)) → same_holder h (holder_of f) ≡ true → Every (λ g. fact_before f g ≡ true) facts → count_by (at_holder h) (map fact_pair facts) ≡ 0
  none-later h f [] is later = refl
  none-later h f (g ∷ facts) is later =
      let all = counted-cons (at_holder h) (fact_pair g) (map fact_pair facts) in
      let this : ◌≡◌ {A = ℕ} (cond (at_holder h (fact_pair g)) 1 0) 0 = ap (λ b. cond b 1 0) (apart h f g later.0 is) in
      let rest : count_by (at_holder h) (map fact_pair facts) ≡ 0 = none-later h f facts is later.1 in
      omega (arith, all)

  facts-once : (h : Holder) (facts : List (Fact D)) → Ascends fact_before facts → count_by (at_holder h) (map fact_pair facts) ≤ 1
  facts-once h [] ascend = omega arith
  facts-once h (f ∷ facts) ascend =
      let all = counted-cons (at_holder h) (fact_pair f) (map fact_pair facts) in
      let rest : cond (same_holder h (holder_of f)) 1 0 + count_by (at_holder h) (map fact_pair facts) ≤ 1 = by (same_holder h (holder_of f)) refl (facts-once h facts ascend.1) in
      omega (arith, all)
    where
      by : (b : Bool) → same_holder h (holder_of f) ≡ b → count_by (at_holder h) (map fact_pair facts) ≤ 1 → cond b 1 0 + count_by (at_holder h) (map fact_pair facts) ≤ 1
      by true e once = (let none : count_by (at_holder h) (map fact_pair facts) ≡ 0 = none-later h f facts e ascend.0 in omega arith)
      by false e once = omega arith

  no-facts : (a : ℕ) (facts : List (Fact D)) → count_by (at_holder (Register a)) (map fact_pair facts) ≡ 0
  no-facts a [] = refl
  no-facts a (f ∷ facts) = no-facts a facts

  held-once : (h : Holder) (s : Known D) → Ascends fact_before s.parts.facts → count_by (at_holder h) (held s) ≤ 1
  held-once (Register a) s ascend =
      let regs : count_by (at_holder (Register a)) (held_registers s) ≤ 1 = register-once a in
      let facts : count_by (at_holder (Register a)) (map fact_pair s.parts.facts) ≡ 0 = no-facts a s.parts.facts in
      let all : count_by (at_holder (Register a)) (held s) ≡ count_by (at_holder (Register a)) (held_registers s) + count_by (at_holder (Register a)) (map fact_pair s.parts.facts) =
      sum_by-append (λ pair. cond (at_holder (Register a) pair) 1 0) (held_registers s) (map fact_pair s.parts.facts) in
      omega arith
  held-once (Bytes spot w) s ascend =
      let facts : count_by (at_holder (Bytes spot w)) (map fact_pair s.parts.facts) ≤ 1 = facts-once (Bytes spot w) s.parts.facts ascend in
      let all : count_by (at_holder (Bytes spot w)) (held s) ≡ count_by (at_holder (Bytes spot w)) (held_registers s) + count_by (at_holder (Bytes spot w)) (map fact_pair s.parts.facts) =
      sum_by-append (λ pair. cond (at_holder (Bytes spot w) pair) 1 0) (held_registers s) (map fact_pair s.parts.facts) in
      let regs : count_by (at_holder (Bytes spot w)) (held_registers s) ≡ 0 = refl in
      omega arith

module _ {D : Type 0} (d : Values D) where
  -- ---- so many states hold no more values of a rank at a place

  pair-counted : (p : Holder × D → Bool) (seen : List (Holder × D)) (pair : Holder × D) → count_by p (with_pair d seen pair) ≤ count_by p seen + cond (p pair) 1 0
  pair-counted p seen pair = by (list_any (is_pair d pair.0 pair.1) seen)
    where
      by : (b : Bool) → count_by p (cond b seen (seen ++ pair ∷ [])) ≤ count_by p seen + cond (p pair) 1 0
      by true = omega arith
      by false = omega (arith, sum_by-append (λ x. cond (p x) 1 0) seen (pair ∷ []))

  pairs-counted : (p : Holder × D → Bool) (pairs seen : List (Holder × D)) → count_by p (with_pairs d pairs seen) ≤ count_by p seen + count_by p pairs
  pairs-counted p [] seen = omega arith
  pairs-counted p (pair ∷ pairs) seen =
      let here : count_by p (with_pair d seen pair) ≤ count_by p seen + cond (p pair) 1 0 = pair-counted p seen pair in
      let rest : count_by p (with_pairs d (pair ∷ pairs) seen) ≤ count_by p (with_pair d seen pair) + count_by p pairs = pairs-counted p pairs (with_pair d seen pair) in
      omega (arith, counted-cons p pair pairs)

  state-counted : (h : Holder) (rank : ℕ) (s : Known D) (seen : List (Holder × D)) → IsWellState d s → count_by (is_rival d h rank) (seen_with d s seen) ≤ count_by (is_rival d h rank) seen + 1
  unfolding seen_with
  state-counted h rank s seen well =
      let all : count_by (is_rival d h rank) (with_pairs d (held s) seen) ≤ count_by (is_rival d h rank) seen + count_by (is_rival d h rank) (held s) = pairs-counted (is_rival d h rank) (held s) seen in
      let fewer : count_by (is_rival d h rank) (held s) ≤ count_by (at_holder h) (held s) = counted-less (at_holder h) (λ pair. d.rank pair.1 == rank) (held s) in
      let once : count_by (at_holder h) (held s) ≤ 1 = held-once h s (well.parts).facts_ascend in
      omega arith

  states-counted : (h : Holder) (rank : ℕ) (states : List (Known D)) (seen : List (Holder × D)) → Every (IsWellState d) states
      → count_by (is_rival d h rank) (fold (λ seen s. seen_with d s seen) seen states) ≤ count_by (is_rival d h rank) seen + length states
  states-counted h rank [] seen well = omega arith
  states-counted h rank (s ∷ states) seen well =
      let here : count_by (is_rival d h rank) (seen_with d s seen) ≤ count_by (is_rival d h rank) seen + 1 = state-counted h rank s seen well.0 in
      let rest : count_by (is_rival d h rank) (fold (λ seen s. seen_with d s seen) seen (s ∷ states)) ≤ count_by (is_rival d h rank) (seen_with d s seen) + length states =
      states-counted h rank states (seen_with d s seen) well.1 in
      omega arith

  -- ---- what stays

  module _ (k : ℕ) where
    -- a value that stays is what it is widened to
    value-stays : (seen : List (Holder × D)) (h : Holder) (v : D) → stays d k seen h v ≡ true → widened_value d k seen h v ≡ v
    value-stays seen h v e =
        ap (λ n. unwrap_or (find (stays d k seen h) (raises d k seen n v)) d.any) (one-more (d.rank v))
        ∙ ap (λ b. unwrap_or (cond b (Some v) (find (stays d k seen h) (raises d k seen (d.rank v) (d.raise v)))) d.any) e
      where
        one-more : (n : ℕ) → n + 1 ≡ suc n
        one-more n = omega arith

    below-is : (n : ℕ) → n < k → nat_lt n k ≡ true
    below-is n h = grind (arith, common_steps)

    counted-stays : (seen : List (Holder × D)) (h : Holder) (v : D) → count_by (is_rival d h (d.rank v)) seen < k → stays d k seen h v ≡ true
    counted-stays seen h v few = either (d.rank v == 0) (list_any (is_pair d h v) seen) (nat_lt (count_by (is_rival d h (d.rank v)) seen) k) (below-is (count_by (is_rival d h (d.rank v)) seen) few)
      where
        either : (a b c : Bool) → c ≡ true → (a || (b || c)) ≡ true
        either true b c e = refl
        either false true c e = refl
        either false false c e = e

    -- where nothing was seen, no fact changes
    pub unseen-facts : (blocks : List Counted) (facts : List (Fact D)) → 0 < k → Every (IsWellFact d blocks) facts → widened_facts d k [] facts ≡ facts
    unseen-facts blocks [] some h = refl
    unseen-facts blocks (f ∷ facts) some h =
        let value : widened_value d k [] (holder_of f) f.value ≡ f.value = value-stays [] (holder_of f) f.value (counted-stays [] (holder_of f) f.value some) in
        let rest : widened_facts d k [] facts ≡ facts = unseen-facts blocks facts some h.1 in
        ap (λ v. let new : Fact D = record f { value = v } in cond (not (d.rank new.value == 0)) (new ∷ widened_facts d k [] facts) (widened_facts d k [] facts)) value
        ∙ ap (λ b. cond (not b) (f ∷ widened_facts d k [] facts) (widened_facts d k [] facts)) (h.0).ranked
        ∙ ap (λ fs. f ∷ fs) rest

    -- where fewer than k states were seen, a state is widened as where none was
    pub few-widened : (states : List (Known D)) (s : Known D) → length states < k → Every (IsWellState d) states → widened_state d k (seen_of d states) s ≡ widened_state d k [] s
    unfolding widened_state seen_of
    few-widened states s few well =
        let rivals : (h : Holder) (v : D) → count_by (is_rival d h (d.rank v)) (seen_of d states) < k =
        λ h v. (let all : count_by (is_rival d h (d.rank v)) (seen_of d states) ≤ 0 + length states = states-counted h (d.rank v) states [] well in omega arith) in
        let some : 0 < k = omega arith in
        let same : widened_value d k (seen_of d states) ≡ widened_value d k [] =
        λ i h v. (value-stays (seen_of d states) h v (counted-stays (seen_of d states) h v (rivals h v)) ∙ sym (value-stays [] h v (counted-stays [] h v some))) i in
        ap (λ (w : Holder → D → D). record s {
          regs = fold (λ g r. with_register g r (w (Register r) (register g r))) s.regs register_numbers;
          parts = record (s.parts) { facts = filter (λ f. not (d.rank f.value == 0)) (map (λ (f : Fact D). record f { value = w (holder_of f) f.value }) s.parts.facts) };
        }) same

    -- where nothing was seen, nothing changes
    pub unseen-widened : (s : Known D) → 0 < k → IsWellState d s → widened_state d k [] s ≡ s
    unfolding widened_state register with_register
    unseen-widened s some well =
        let same : widened_value d k [] ≡ (λ h v. v) = λ i h v. value-stays [] h v (counted-stays [] h v some) i in
        ap (λ (w : Holder → D → D). record s {
          regs = fold (λ g r. with_register g r (w (Register r) (register g r))) s.regs register_numbers;
          parts = record (s.parts) { facts = widened_facts d k [] s.parts.facts };
        }) same
        ∙ ap (λ (facts : List (Fact D)). record s { parts = record (s.parts) { facts = facts } }) (unseen-facts s.parts.blocks s.parts.facts some (well.parts).facts)
