-- What stands behind a test, or behind something that was found.
use Rattle.std.proofs.Common.{◌≡◌, ℕ, ◌==◌, Bool, true, false, List, Option, None, Some, Ok, Err, refl, arith}
use Rattle.std.specs.Prelude.{Result, nat_lt, option_and_then, option_map, if◌then◌else◌}
use Rattle.std.specs.Str.{bytes_eq}
use Rattle.std.proofs.lemmas.Bool.Decides.{nat_tests}
use Rattle.std.proofs.lemmas.Slice.Eq.{bytes_eq-Decides}
use Rattle.text_fields.specs.Lines.{or_fault}

pub if_ok : {A : Type 0} (t : Bool) (kind : ℕ) (x : Result A ℕ) (a : A) → (if t then x else Err kind) ≡ Ok a → (t ≡ true) × (x ≡ Ok a)
if_ok true kind x a h = (refl, h)
if_ok false kind x a h = cc

pub found_ok : {A B : Type 0} (kind : ℕ) (o : Option A) (go : A → Result B ℕ) (b : B) → or_fault kind o go ≡ Ok b → (a : A) × (o ≡ Some a) × (go a ≡ Ok b)
found_ok kind None go b h = cc
found_ok kind (Some a) go b h = (a, refl, h)

pub same_ok : {A : Type 0} (a b : A) → ◌≡◌ {A = Result A ℕ} (Ok a) (Ok b) → a ≡ b
same_ok a b h = cc

pub if_some : {A : Type 0} (t : Bool) (x : Option A) (b : A) → (if t then x else None) ≡ Some b → (t ≡ true) × (x ≡ Some b)
if_some true x b h = (refl, h)
if_some false x b h = cc

pub mapped : {A B : Type 0} (f : A → B) (o : Option A) (b : B) → option_map f o ≡ Some b → (a : A) × (o ≡ Some a) × (f a ≡ b)
mapped f None b h = cc
mapped f (Some a) b h = (a, refl, cc)

pub chained : {A B : Type 0} (f : A → Option B) (o : Option A) (b : B) → option_and_then f o ≡ Some b → (a : A) × (o ≡ Some a) × (f a ≡ Some b)
chained f None b h = cc
chained f (Some a) b h = (a, refl, h)

-- ---- tests

pub same_word : (word own : List ℕ) → bytes_eq word own ≡ true → word ≡ own
same_word word own e = (bytes_eq-Decides word own).0 e

pub word_same : (word : List ℕ) → bytes_eq word word ≡ true
word_same word = (bytes_eq-Decides word word).1 refl

pub equal : (a b : ℕ) → (a == b) ≡ true → a ≡ b
equal a b e = grind (arith, nat_tests)

pub same_number : (n : ℕ) → (n == n) ≡ true
same_number n = grind (arith, nat_tests)
