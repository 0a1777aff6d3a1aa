-- What goes on to a spelling does so by bytes that are tried.
use Rattle.std.proofs.Common.{◌≡◌, ℕ, zero, suc, ◌+◌, ◌-◌, ◌<◌, ◌≤◌, Bool, true, false, ◌||◌, List, [], ◌∷◌, ◌++◌, length, take, drop, Option, Some, None, refl, sym, ◌∙◌, ap, inl, inr, ◌⊎◌, subst, arith, append_assoc, length-append, get_or, zero-add}
use Rattle.std.specs.Prelude.{All, is_some}
use Rattle.std.specs.List.{list_any, range_with_len}
use Rattle.std.proofs.lemmas.List.{take-append-drop, take_all}
use Rattle.std.proofs.lemmas.List.Folds.{list_any_at}
use Rattle.std.proofs.lemmas.List.FromFn.{length-range_with_len, get_or-range_with_len}
use Rattle.x86_syntax.specs.declared.instr.Instr.{Instr}
use Rattle.x86_syntax.specs.Spelling.{spelled}
use Rattle.x86_decoder.specs.Refusals.{goes_on, IsFront, LeavesAt, GoesOn}

-- at most n bytes more make a spelling
pub record Further (n : ℕ) (bytes : List ℕ) : Type 0 where
  pub rest : List ℕ
  pub more : 0 < length rest
  pub short : length rest ≤ n
  pub names : Instr
  pub whole : spelled (bytes ++ rest) ≡ Some names

or_left : (x y : Bool) → x ≡ true → (x || y) ≡ true
or_left true y e = refl
or_left false y e = cc

or_right : (x y : Bool) → y ≡ true → (x || y) ≡ true
or_right true y e = refl
or_right false y e = e

or_cases : (x y : Bool) → (x || y) ≡ true → (x ≡ true) ⊎ (y ≡ true)
or_cases true y e = inl refl
or_cases false y e = inr e

-- a test that one of the first n numbers passes
tried : (test : ℕ → Bool) (n b : ℕ) → b < n → test b ≡ true → list_any test (range_with_len 0 n) ≡ true
tried test n b less passes =
    let at : get_or (range_with_len 0 n) b 0 ≡ b = get_or-range_with_len 0 n b 0 less ∙ zero-add b in
    list_any_at test (range_with_len 0 n) b 0 (omega (arith, length-range_with_len 0 n)) (ap test at ∙ passes)

some_tried : (test : ℕ → Bool) (bs : List ℕ) → list_any test bs ≡ true → (b : ℕ) × (test b ≡ true)
some_tried test [] e = cc
some_tried test (b ∷ bs) e = elim (or_cases (test b) (list_any test bs) e) [ inl here ↦ (b, here) | inr there ↦ some_tried test bs there ]

joined : (bytes : List ℕ) (b : ℕ) (rest : List ℕ) → (bytes ++ b ∷ []) ++ rest ≡ bytes ++ b ∷ rest
joined bytes b rest = append_assoc bytes (b ∷ []) rest

pub goes_on_by : (n : ℕ) (bytes rest : List ℕ) (i : Instr) → 0 < length rest → length rest ≤ n → All (λ b. b < 256) rest → spelled (bytes ++ rest) ≡ Some i → goes_on n bytes ≡ true
unfolding goes_on
goes_on_by n bytes [] i more short small whole = absurd (omega arith)
goes_on_by zero bytes (b ∷ rest) i more short small whole = absurd (omega arith)
goes_on_by (suc n) bytes (b ∷ []) i more short small whole =
    tried (λ c. is_some (spelled (bytes ++ c ∷ [])) || goes_on n (bytes ++ c ∷ [])) 256 b (small 0 b (omega arith))
    (or_left (is_some (spelled (bytes ++ b ∷ []))) (goes_on n (bytes ++ b ∷ [])) (ap is_some whole))
goes_on_by (suc n) bytes (b ∷ c ∷ rest) i more short small whole =
    tried (λ x. is_some (spelled (bytes ++ x ∷ [])) || goes_on n (bytes ++ x ∷ [])) 256 b (small 0 b (omega arith))
    (or_right (is_some (spelled (bytes ++ b ∷ []))) (goes_on n (bytes ++ b ∷ []))
    (goes_on_by n (bytes ++ b ∷ []) (c ∷ rest) i (omega arith) (omega arith) (λ k d l. small (suc k) d (omega arith)) (ap spelled (joined bytes b (c ∷ rest)) ∙ whole)))

spelling_of : (o : Option Instr) → is_some o ≡ true → (i : Instr) × (o ≡ Some i)
spelling_of None e = cc
spelling_of (Some i) e = (i, refl)

-- behind a byte, one that ends a spelling or is followed by more
by_byte : (n : ℕ) (bytes : List ℕ) (b : ℕ) → (goes_on n (bytes ++ b ∷ []) ≡ true → Further n (bytes ++ b ∷ []))
    → (is_some (spelled (bytes ++ b ∷ [])) ≡ true) ⊎ (goes_on n (bytes ++ b ∷ []) ≡ true) → Further (suc n) bytes
by_byte n bytes b rest (inl here) =
    let i = spelling_of (spelled (bytes ++ b ∷ [])) here in
    record { rest = b ∷ []; more = omega arith; short = omega arith; names = i.0; whole = i.1 }
by_byte n bytes b rest (inr there) =
    let h : Further n (bytes ++ b ∷ []) = rest there in
    record { rest = b ∷ h.rest; more = omega arith; short = omega (arith, h.short); names = h.names; whole = ap spelled (sym (joined bytes b h.rest)) ∙ h.whole }

pub further_of : (n : ℕ) (bytes : List ℕ) → goes_on n bytes ≡ true → Further n bytes
unfolding goes_on
further_of zero bytes e = cc
further_of (suc n) bytes e =
    let found = some_tried (λ b. is_some (spelled (bytes ++ b ∷ [])) || goes_on n (bytes ++ b ∷ [])) (range_with_len 0 256) e in
    by_byte n bytes found.0 (further_of n (bytes ++ found.0 ∷ [])) (or_cases (is_some (spelled (bytes ++ found.0 ∷ []))) (goes_on n (bytes ++ found.0 ∷ [])) found.1)

-- a front of a front
pub front_of : (k : ℕ) (xs : List ℕ) → IsFront xs → IsFront (take k xs)
front_of k xs (rest, (i, names)) =
    let whole : take k xs ++ (drop k xs ++ rest) ≡ xs ++ rest = sym (append_assoc (take k xs) (drop k xs) rest) ∙ ap (λ ys. ys ++ rest) (take-append-drop k xs) in
    (drop k xs ++ rest, (i, ap spelled whole ∙ names))

-- what goes on is a front as a whole
pub goes_on_front : (bytes : List ℕ) → GoesOn bytes → IsFront (take 15 bytes)
goes_on_front bytes on =
    let more : Further (15 - length bytes) bytes = further_of (15 - length bytes) bytes on in
    let same : take 15 bytes ≡ bytes = take_all 15 bytes (omega (arith, more.more, more.short)) in
    subst IsFront (sym same) (more.rest, (more.names, more.whole))

-- no spelling leaves where all that counts is a front
pub not_both : (at : ℕ) (bytes : List ℕ) → LeavesAt at (take 15 bytes) → IsFront (take 15 bytes) → ⊥
not_both at bytes leaves front = leaves.there (front_of (at + 1) (take 15 bytes) front)
