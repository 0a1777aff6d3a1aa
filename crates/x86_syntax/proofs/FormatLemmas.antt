-- Laws of sets of byte strings that are read from the front.
use Rattle.std.proofs.Common.{◌≡◌, ℕ, suc, zero, ◌+◌, ◌≤◌, List, [], ◌∷◌, ◌++◌, length, take, refl, sym, arith, ◌*◌, Some, None}
use Rattle.x86_syntax.specs.Formats.{Format, Whole, Never, Byte, matched, number_then, little_endian}

-- what is left of the set once these bytes stand in front
unfoldable pub after : {A : Type 0} → Format A → List ℕ → Format A
after t [] = t
after (Byte next) (b ∷ bytes) = after (next b) bytes
after (Whole a) (b ∷ bytes) = Never
after Never (b ∷ bytes) = Never

pub never_matched : {A : Type 0} (s : List ℕ) → matched {A = A} Never s ≡ None
unfolding matched
never_matched [] = refl
never_matched (b ∷ s) = refl

pub matched-append : {A : Type 0} (t : Format A) (p s : List ℕ) → matched t (p ++ s) ≡ matched (after t p) s
unfolding matched after
matched-append t [] s = refl
matched-append (Byte next) (b ∷ p) s = matched-append (next b) p s
matched-append {A} (Whole a) (b ∷ p) s = sym (never_matched {A = A} s)
matched-append {A} Never (b ∷ p) s = sym (never_matched {A = A} s)

-- no string of the set goes on to another
pub one_form : {A : Type 0} (t : Format A) (s x : List ℕ) (a b : A) → matched t s ≡ Some a → matched t (s ++ x) ≡ Some b → x ≡ []
unfolding matched
one_form t s [] a b here there = refl
one_form (Whole c) [] (y ∷ x) a b here there = cc
one_form (Byte next) (c ∷ s) (y ∷ x) a b here there = one_form (next c) s (y ∷ x) a b here there
one_form (Byte next) [] (y ∷ x) a b here there = cc
one_form (Whole c) (d ∷ s) (y ∷ x) a b here there = cc
one_form Never [] (y ∷ x) a b here there = cc
one_form Never (d ∷ s) (y ∷ x) a b here there = cc

-- n bytes read as a number leave what follows that number
pub number_read : {A : Type 0} (n : ℕ) (go : ℕ → Format A) (bytes : List ℕ) → n ≤ length bytes → after (number_then n go) (take n bytes) ≡ go (little_endian (take n bytes))
unfolding after
number_read zero go bytes le = refl
number_read (suc n) go [] le = absurd (omega arith)
number_read (suc n) go (b ∷ bytes) le = number_read n (λ high. go (b + 256 * high)) bytes (omega arith)
