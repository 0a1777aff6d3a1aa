-- Ranges mapped one after another: whether all are apart.
use Rattle.std.proofs.Common.{◌≡◌, ℕ, ◌<◌, Bool, true, false, List, [], ◌∷◌, ◌++◌, length, refl, sym, ◌∙◌, ap, arith, inl, inr}
use Rattle.std.specs.Prelude.{◌&&◌, ◌||◌, nat_le, replicate, All}
use Rattle.std.specs.List.{list_all}
use Rattle.std.proofs.lemmas.Bool.{and_from, and_parts, cases_Bool, false≢true, and_right}
use Rattle.std.proofs.lemmas.List.{length-replicate}
use Rattle.std.proofs.lemmas.List.Elements.{All-replicate}
use Rattle.std.proofs.lemmas.List.Folds.{list_all-append}
use Rattle.memory_map.specs.Map.{all_apart, are_apart}
use Rattle.memory_map.specs.Range.{Range, end_of}
use Rattle.memory_map.proofs.Lists.{all_apart-cons, all_apart-nil}
use Rattle.statement_lang.specs.Indexed.{is_clear}
use Rattle.x86_machine.specs.Started.{zeros}

pub zeros_size : (n : ℕ) → length (zeros n) ≡ n
unfolding zeros
zeros_size n = length-replicate n 0

pub zeros_fit : (n : ℕ) → All (λ b. b < 256) (zeros n)
unfolding zeros
zeros_fit n = All-replicate (λ b. b < 256) n 0 (omega arith)

pub block_zeros : (n : ℕ) → length {A = ℕ} (replicate n 0) ≡ n
block_zeros n = length-replicate n 0

or_turned : (a b : Bool) → (a || b) ≡ (b || a)
or_turned true true = refl
or_turned true false = refl
or_turned false true = refl
or_turned false false = refl

pub clear_is_apart : (x r : Range) → are_apart x r ≡ is_clear r.low (end_of r) x
clear_is_apart x r = or_turned (nat_le (end_of x) r.low) (nat_le (end_of r) x.low)

pub apart_more : (xs : List Range) (r : Range) → all_apart xs ≡ true → list_all (is_clear r.low (end_of r)) xs ≡ true → all_apart (xs ++ r ∷ []) ≡ true
apart_more [] r apart clear = all_apart-cons r [] ∙ all_apart-nil
apart_more (x ∷ xs) r apart clear =
    let both = and_parts (list_all (are_apart x) xs) (all_apart xs) (sym (all_apart-cons x xs) ∙ apart) in
    let parts = and_parts (is_clear r.low (end_of r) x) _ clear in
    let first : list_all (are_apart x) (xs ++ r ∷ []) ≡ true =
    list_all-append (are_apart x) xs (r ∷ []) ∙ and_from (list_all (are_apart x) xs) (are_apart x r && true) both.0 (and_from (are_apart x r) true (clear_is_apart x r ∙ parts.0) refl) in
    all_apart-cons x (xs ++ r ∷ []) ∙ and_from (list_all (are_apart x) (xs ++ r ∷ [])) _ first (apart_more xs r both.1 parts.1)

-- one that shares an address with those before it
pub not_apart : (xs ys : List Range) (r : Range) → list_all (is_clear r.low (end_of r)) xs ≡ false → all_apart (xs ++ r ∷ ys) ≡ false
not_apart [] ys r off = absurd (false≢true (sym off))
not_apart (x ∷ xs) ys r off =
    elim (cases_Bool (is_clear r.low (end_of r) x)) [
      | inl here ↦
          let rest : list_all (is_clear r.low (end_of r)) xs ≡ false = sym (ap (λ b. b && list_all (is_clear r.low (end_of r)) xs) here) ∙ off in
          all_apart-cons x (xs ++ r ∷ ys) ∙ and_right (list_all (are_apart x) (xs ++ r ∷ ys)) _ (not_apart xs ys r rest)
      | inr shares ↦
          all_apart-cons x (xs ++ r ∷ ys)
          ∙ ap (λ b. b && all_apart (xs ++ r ∷ ys))
          (list_all-append (are_apart x) xs (r ∷ ys) ∙ and_right (list_all (are_apart x) xs) _ (ap (λ b. b && list_all (are_apart x) ys) (clear_is_apart x r ∙ shares)))
    ]

by_first : (a b : Bool) → (a && b) ≡ false → b ≡ true → a ≡ false
by_first true b e h = absurd (false≢true (sym e ∙ h))
by_first false b e h = refl

-- a front that is not apart
pub front_apart : (xs ys : List Range) → all_apart xs ≡ false → all_apart (xs ++ ys) ≡ false
front_apart [] ys off = absurd (false≢true (sym off ∙ all_apart-nil))
front_apart (x ∷ xs) ys off =
    elim (cases_Bool (all_apart xs)) [
      | inl apart ↦
          let own : list_all (are_apart x) xs ≡ false = by_first (list_all (are_apart x) xs) (all_apart xs) (sym (all_apart-cons x xs) ∙ off) apart in
          all_apart-cons x (xs ++ ys) ∙ ap (λ b. b && all_apart (xs ++ ys)) (list_all-append (are_apart x) xs ys ∙ ap (λ b. b && list_all (are_apart x) ys) own)
      | inr shares ↦ all_apart-cons x (xs ++ ys) ∙ and_right (list_all (are_apart x) (xs ++ ys)) _ (front_apart xs ys shares)
    ]
