-- What the index of pairs and their counts finds is what the list of pairs has.
use Rattle.std.proofs.Common.{◌≡◌, ℕ, ◌+◌, Bool, true, false, cond, List, [], ◌∷◌, ◌++◌, Some, refl, sym, ◌∙◌, ap, arith, add-zero}
use Rattle.std.specs.Prelude.{◌&&◌, ◌||◌, ◌==◌, nat_eq, count_by, unwrap_or}
use Rattle.std.specs.List.{list_any}
use Rattle.std.specs.Map.{lookup}
use Rattle.std.specs.Ordering.{int_eq}
use Rattle.std.proofs.lemmas.Bool.{and_parts, eqb-true}
use Rattle.std.proofs.lemmas.Int.{ints}
use Rattle.std.proofs.lemmas.List.Sums.{sum_by-append}
use Rattle.std.proofs.lemmas.Grind.{common_steps}
use Rattle.indexmap.specs.IndexMap.{IndexMap, get}
use Rattle.bit_words.specs.declared.width.Width.{Width}
use Rattle.bit_words.specs.declared.width.Width.TheVariants.{B8, B16, B32}
use Rattle.bit_words.specs.Width.{bytes_of}
use Rattle.domain_laws.specs.Laws.{Values, IsLawful}
use Rattle.partitioned_memory.specs.Areas.{same_area}
use Rattle.partitioned_memory.proofs.Orders.{same_area-is, same_area-refl, int_eq-true}
use Rattle.abstract_state.specs.declared.seen.Holder.{Holder}
use Rattle.abstract_state.specs.declared.seen.Holder.TheVariants.{Register, Bytes}
use Rattle.abstract_state.specs.contracts.seen.HolderPartialEq.TheImpl as equality
use Rattle.abstract_state.specs.Counts.{AreCounted, is_count_of}
use Rattle.abstract_state.specs.Widening.{is_pair, is_rival, same_holder}

-- ---- holders

-- `==` tests what the definition says
pub holder_eq-is : (a b : Holder) → equality.ghosts.eq a b ≡ same_holder a b
unfolding same_area
holder_eq-is (Register a) (Register b) = refl
holder_eq-is (Register a) (Bytes t w) = refl
holder_eq-is (Bytes s v) (Register b) = refl
holder_eq-is (Bytes s v) (Bytes t w) = grind (arith, common_steps)

pub same_holder-refl : (h : Holder) → same_holder h h ≡ true
same_holder-refl (Register a) = grind (arith, common_steps)
same_holder-refl (Bytes s w) = grind (arith, ints, common_steps, same_area-refl s.area)

same_width-is : (v w : Width) → (bytes_of v == bytes_of w) ≡ true → v ≡ w
same_width-is B8 B8 e = refl
same_width-is B16 B16 e = refl
same_width-is B32 B32 e = refl
same_width-is v w e = absurd (cc)

pub same_holder-is : (a b : Holder) → same_holder a b ≡ true → a ≡ b
same_holder-is (Register a) (Register b) e = ap Register (eqb-true a b e)
same_holder-is (Register a) (Bytes t w) e = absurd (cc)
same_holder-is (Bytes s v) (Register b) e = absurd (cc)
same_holder-is (Bytes s v) (Bytes t w) e =
    let first = and_parts (same_area s.area t.area) (int_eq s.low t.low && bytes_of v == bytes_of w) e in
    let second = and_parts (int_eq s.low t.low) (bytes_of v == bytes_of w) first.1 in
    let area = same_area-is s.area t.area first.0 in
    let low : s.low ≡ t.low = int_eq-true s.low t.low second.0 in
    let width = same_width-is v w second.1 in
    λ i. Bytes (record { area = area i; low = low i }) (width i)

-- ---- keys

abbrev pub key_eq : Holder × ℕ → Holder × ℕ → Bool
key_eq a b = equality.ghosts.eq a.0 b.0 && nat_eq a.1 b.1

key_eq-is : (h : Holder) (rank : ℕ) (key : Holder × ℕ) → key_eq (h, rank) key ≡ is_count_of h rank key
key_eq-is h rank key = ap (λ b. b && rank == key.1) (holder_eq-is h key.0)

module _ {D : Type 0} (d : Values D) (l : IsLawful d) where
  -- ---- pairs

  eq-sym : (a b : D) → d.eq a b ≡ d.eq b a
  eq-sym a b = by (d.eq a b) (d.eq b a) refl refl
    where
      by : (x y : Bool) → d.eq a b ≡ x → d.eq b a ≡ y → x ≡ y
      by true true e f = refl
      by false false e f = refl
      by true false e f = sym (l.eq_refl a) ∙ ap (λ c. d.eq c a) (l.eq_is a b e) ∙ f
      by false true e f = sym e ∙ ap (λ c. d.eq c b) (sym (l.eq_is b a f)) ∙ l.eq_refl b

  pub pair-found : (h : Holder) (v : D) (pairs : List (Holder × D)) → list_any (λ p. equality.ghosts.eq h p.0 && d.eq v p.1) pairs ≡ list_any (is_pair d h v) pairs
  pair-found h v [] = refl
  pair-found h v (p ∷ ps) =
      ap (λ b. (b && d.eq v p.1) || list_any (λ q. equality.ghosts.eq h q.0 && d.eq v q.1) ps) (holder_eq-is h p.0)
      ∙ ap (λ b. (same_holder h p.0 && b) || list_any (λ q. equality.ghosts.eq h q.0 && d.eq v q.1) ps) (eq-sym v p.1)
      ∙ ap (λ b. (same_holder h p.0 && d.eq p.1 v) || b) (pair-found h v ps)

  -- a pair that was not seen goes last
  pub pair-pushed : (h : Holder) (v : D) (seen pairs before after : List (Holder × D)) → pairs ≡ seen → before ≡ pairs → list_any (is_pair d h v) seen ≡ false
      → after ≡ cond (list_any (λ p. equality.ghosts.eq h p.0 && d.eq v p.1) before) before (before ++ (h, v) ∷ []) → after ≡ seen ++ (h, v) ∷ []
  pair-pushed h v seen pairs before after view same other put =
      let all : before ≡ seen = same ∙ view in
      put ∙ ap (λ b. cond b before (before ++ (h, v) ∷ [])) (pair-found h v before ∙ ap (list_any (is_pair d h v)) all ∙ other) ∙ ap (λ ps. ps ++ (h, v) ∷ []) all

-- ---- counts

count-found : (h : Holder) (rank : ℕ) (entries : List ((Holder × ℕ) × ℕ)) → lookup (key_eq (h, rank)) entries ≡ lookup (is_count_of h rank) entries
count-found h rank [] = refl
count-found h rank (e ∷ es) =
    ap (λ b. cond b (Some e.1) (lookup (key_eq (h, rank)) es)) (key_eq-is h rank e.0)
    ∙ ap (λ o. cond (is_count_of h rank e.0) (Some e.1) o) (count-found h rank es)

count-last : {X : Type 0} (p : X → Bool) (xs : List X) (x : X) → count_by p (xs ++ x ∷ []) ≡ count_by p xs + cond (p x) 1 0
count-last p xs x = omega (arith, sum_by-append (λ y. cond (p y) 1 0) xs (x ∷ []))

same_holder-sym : (a b : Holder) → same_holder a b ≡ same_holder b a
same_holder-sym a b = by (same_holder a b) (same_holder b a) refl refl
  where
    by : (x y : Bool) → same_holder a b ≡ x → same_holder b a ≡ y → x ≡ y
    by true true e f = refl
    by false false e f = refl
    by true false e f = sym (same_holder-refl a) ∙ ap (λ c. same_holder c a) (same_holder-is a b e) ∙ f
    by false true e f = sym e ∙ ap (λ c. same_holder c b) (sym (same_holder-is b a f)) ∙ same_holder-refl b

module _ {D S : Type 0} (d : Values D) where
  pub counted-none : (pairs : List (Holder × D)) (counts : IndexMap (Holder × ℕ) ℕ S) → pairs ≡ [] → counts.entries ≡ [] → AreCounted d pairs counts
  counted-none pairs counts no_pairs no_counts = record {
    count = λ h rank. ap (λ es. unwrap_or (lookup (is_count_of h rank) es) 0) no_counts ∙ sym (ap (count_by (is_rival d h rank)) no_pairs);
  }

  pub counted-same : (pairs pairs' : List (Holder × D)) (counts counts' : IndexMap (Holder × ℕ) ℕ S) → AreCounted d pairs counts → pairs' ≡ pairs → counts'.entries ≡ counts.entries → AreCounted d pairs' counts'
  counted-same pairs pairs' counts counts' old same_pairs same_counts = record {
    count = λ h rank. ap (λ es. unwrap_or (lookup (is_count_of h rank) es) 0) same_counts ∙ old.count h rank ∙ sym (ap (count_by (is_rival d h rank)) same_pairs);
  }

  -- what is found at a key
  pub counted-at : (pairs : List (Holder × D)) (counts : IndexMap (Holder × ℕ) ℕ S) (h : Holder) (rank : ℕ) → AreCounted d pairs counts → unwrap_or (get key_eq counts (h, rank)) 0 ≡ count_by (is_rival d h rank) pairs
  counted-at pairs counts h rank old = ap (λ o. unwrap_or o 0) (count-found h rank counts.entries) ∙ old.count h rank

  -- a pair more
  pub counted-push : (pairs pairs' : List (Holder × D)) (counts counts' : IndexMap (Holder × ℕ) ℕ S) (h : Holder) (v : D) (n : ℕ) → AreCounted d pairs counts
      → n ≡ count_by (is_rival d h (d.rank v)) pairs
      → ((q : Holder × ℕ) → get key_eq counts' q ≡ cond (key_eq (h, d.rank v) q) (Some (n + 1)) (get key_eq counts q))
      → pairs' ≡ pairs ++ (h, v) ∷ [] → AreCounted d pairs' counts'
  counted-push pairs pairs' counts counts' h v n old is now more = record {
    count = λ g rank.
        sym (ap (λ o. unwrap_or o 0) (count-found g rank counts'.entries))
        ∙ ap (λ o. unwrap_or o 0) (now (g, rank) ∙ ap (λ b. cond b (Some (n + 1)) (get key_eq counts (g, rank))) (key_eq-is h (d.rank v) (g, rank)))
        ∙ by g rank (same_holder h g) (d.rank v == rank) refl refl
        ∙ sym (ap (count_by (is_rival d g rank)) more ∙ count-last (is_rival d g rank) pairs (h, v)
        ∙ ap (λ b. count_by (is_rival d g rank) pairs + cond (b && d.rank v == rank) 1 0) (same_holder-sym g h));
  }
    where
      by : (g : Holder) (rank : ℕ) (x y : Bool) → same_holder h g ≡ x → (d.rank v == rank) ≡ y
          → unwrap_or (cond (x && y) (Some (n + 1)) (get key_eq counts (g, rank))) 0 ≡ count_by (is_rival d g rank) pairs + cond (x && y) 1 0
      by g rank true true e f =
          ap (λ c. c + 1) (is ∙ ap (λ c. count_by (is_rival d c (d.rank v)) pairs) (same_holder-is h g e) ∙ ap (λ r. count_by (is_rival d g r) pairs) (eqb-true (d.rank v) rank f))
      by g rank true false e f = counted-at pairs counts g rank old ∙ sym (add-zero (count_by (is_rival d g rank) pairs))
      by g rank false y e f = counted-at pairs counts g rank old ∙ sym (add-zero (count_by (is_rival d g rank) pairs))
