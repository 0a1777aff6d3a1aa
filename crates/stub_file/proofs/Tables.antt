-- What each line of a table of keys says, where no line tells a fault.
use Rattle.std.proofs.Common.{◌≡◌, ◌∙◌, ap, sym, IsSomeAnd, IsTrue, bytes_eq, unwrap_or, arith, ℕ, ◌≤◌, zero, suc, Bool, true, false, not, ◌||◌, cond, List, [], ◌∷◌, Option, Some, None, is_some, slice_get, option_and_then, refl, find}
use Rattle.std.specs.List.{list_all, list_any}
use Rattle.std.specs.Option.{option_map_or}
use Rattle.std.proofs.lemmas.Bool.{and_parts, or_parts, false≢true, not-false}
use Rattle.std.proofs.lemmas.Slice.Eq.{bytes_eq-Decides}
use Rattle.toml.specs.Data.{Data}
use Rattle.stub_file.specs.Document.{natural_of}
use Rattle.stub_file.specs.Keys.{word_name}
use Rattle.stub_file.specs.Rules.{is_reply}
use Rattle.stub_file.specs.declared.keys.TheConstants.{REPLIES}
use Rattle.stub_file.specs.declared.keys.Word.{Word}

pub none_at : {X : Type 0} (p : X → Bool) (xs : List X) (i : ℕ) → list_any p xs ≡ false → option_map_or p (slice_get xs i) false ≡ false
none_at p [] i h = refl
none_at p (x ∷ xs) zero h = (or_parts (p x) (list_any p xs) h).0
none_at p (x ∷ xs) (suc i) h = none_at p xs i (or_parts (p x) (list_any p xs) h).1

pub not_found : {X : Type 0} (p : X → Bool) (xs : List X) (i : ℕ) → find p xs ≡ None → option_map_or p (slice_get xs i) false ≡ false
not_found p [] i h = refl
not_found {X} p (x ∷ xs) zero h =
    let P : Bool → Type 0 = λ b. cond b (Some x) (find p xs) ≡ None → b ≡ false in
    (elim (p x) as P [ true ↦ λ e. cc | false ↦ λ e. refl ]) h
not_found {X} p (x ∷ xs) (suc i) h =
    let P : Bool → Type 0 = λ b. cond b (Some x) (find p xs) ≡ None → find p xs ≡ None in
    not_found p xs i ((elim (p x) as P [ true ↦ λ e. cc | false ↦ λ e. e ]) h)

-- a value that is in its range, read by f
pub record IsRead {X : Type 0} (f : Data → Option X) (test : X → Bool) (o : Option Data) : Type 0 where
  pub value : X
  pub is : option_and_then f o ≡ Some value
  pub passes : test value ≡ true

read_value : {X : Type 0} (f : Data → Option X) (test : X → Bool) (d : Data) (x : Option X) → f d ≡ x → not (option_map_or test x false) ≡ false → IsRead f test (Some d)
read_value f test d None e h = absurd (false≢true (not-false false h))
read_value f test d (Some x) e h = record { value = x; is = e; passes = not-false (test x) h }

-- one that is there
pub read : {X : Type 0} (f : Data → Option X) (test : X → Bool) (o : Option Data) → is_some o ≡ true
    → option_map_or (λ d. not (option_map_or test (f d) false)) o false ≡ false → IsRead f test o
read f test None there h = absurd (false≢true there)
read f test (Some d) there h = read_value f test d (f d) refl h

pub find_holds : {X : Type 0} (p : X → Bool) (xs : List X) (x : X) → find p xs ≡ Some x → p x ≡ true
find_holds p [] x found = cc
find_holds {X} p (y ∷ xs) x found =
    let P : Bool → Type 0 = λ b. p y ≡ b → cond b (Some y) (find p xs) ≡ Some x → p x ≡ true in
    (elim (p y) as P [ true ↦ λ e f. (let same : y ≡ x = cc in rw (sym same) e) | false ↦ λ e f. find_holds p xs x f ]) refl found

pub found_any : {X : Type 0} (p : X → Bool) (xs : List X) → find p xs ≡ None → list_any p xs ≡ false
found_any p [] h = refl
found_any {X} p (x ∷ xs) h =
    let P : Bool → Type 0 = λ b. cond b (Some x) (find p xs) ≡ None → (b || list_any p xs) ≡ false in
    (elim (p x) as P [ true ↦ λ e. cc | false ↦ λ e. found_any p xs e ]) h

abbrev is_text : List ℕ → Word → Bool
is_text text word = bytes_eq (word_name word) text

pub word_is : (o : Option (List ℕ)) (w : Word) → IsSomeAnd o (λ text. IsTrue (is_reply text)) → find (is_text (unwrap_or o [])) REPLIES ≡ Some w → o ≡ Some (word_name w)
word_is None w h found = elim h [ ]
word_is (Some text) w h found =
    ap Some (sym ((bytes_eq-Decides (word_name w) text).0 (find_holds (is_text text) REPLIES w found)))

pub word_there : (o : Option (List ℕ)) → IsSomeAnd o (λ text. IsTrue (is_reply text)) → find (is_text (unwrap_or o [])) REPLIES ≡ None → ⊥
word_there None h missing = elim h [ ]
word_there (Some text) h missing = false≢true (sym (found_any (is_text text) REPLIES missing) ∙ h)

-- a value in its range, read again
in_range_of : {X : Type 0} (test : X → Bool) (o : Option X) (x : X) → not (option_map_or test o false) ≡ false → o ≡ Some x → test x ≡ true
in_range_of test None x h e = cc
in_range_of {X} test (Some y) x h e = (let same : x ≡ y = cc in rw same (not-false (test y) h))

pub in_range : {X : Type 0} (f : Data → Option X) (test : X → Bool) (o : Option Data) (x : X) → option_map_or (λ d. not (option_map_or test (f d) false)) o false ≡ false
    → option_and_then f o ≡ Some x → test x ≡ true
in_range f test None x h e = cc
in_range f test (Some d) x h e = in_range_of test (f d) x h e

pub absent : {X : Type 0} (f : Data → Option X) (o : Option Data) → is_some o ≡ false → option_and_then f o ≡ None
absent f None h = refl
absent f (Some d) h = cc

-- a number that is not there counts as 0
at_most_of : (test : ℕ → Bool) (limit : ℕ) → ((n : ℕ) → test n ≡ true → n ≤ limit) → (o : Option ℕ) → not (option_map_or test o false) ≡ false → unwrap_or o 0 ≤ limit
at_most_of test limit bound None e = omega arith
at_most_of test limit bound (Some n) e = bound n (not-false (test n) e)

pub at_most : (test : ℕ → Bool) (limit : ℕ) (o : Option Data) → ((n : ℕ) → test n ≡ true → n ≤ limit) → option_map_or (λ d. not (option_map_or test (natural_of d) false)) o false ≡ false
    → unwrap_or (option_and_then natural_of o) 0 ≤ limit
at_most test limit None bound h = omega arith
at_most test limit (Some d) bound h = at_most_of test limit bound (natural_of d) h

pub find_all : {X : Type 0} (fact p : X → Bool) (xs : List X) (x : X) → list_all fact xs ≡ true → find p xs ≡ Some x → fact x ≡ true
find_all fact p [] x all found = cc
find_all {X} fact p (y ∷ xs) x all found =
    let P : Bool → Type 0 = λ b. cond b (Some y) (find p xs) ≡ Some x → fact x ≡ true in
    let parts = and_parts (fact y) (list_all fact xs) all in
    (elim (p y) as P [ true ↦ λ f. (let same : y ≡ x = cc in rw (sym same) parts.0) | false ↦ λ f. find_all fact p xs x parts.1 f ]) found
