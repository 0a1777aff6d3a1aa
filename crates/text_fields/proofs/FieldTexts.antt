-- Fields that are read are the texts of what they give, and texts of fields are read as what they are of.
use Rattle.std.proofs.Common.{◌≡◌, ◌≢◌, ℕ, zero, suc, ◌+◌, ◌*◌, ◌^◌, ◌/◌, ◌%◌, ◌<◌, ◌≤◌, ◌==◌, Bool, true, false, List, [], ◌∷◌, ◌++◌, length, get_or, Option, Some, None, refl, sym, decimal, ◌∙◌, ap, subst, arith, append_assoc}
use Rattle.std.proofs.lemmas.Bool.Decides.{nat_tests}
use Rattle.std.specs.Prelude.{codes, option_and_then, option_map, if◌then◌else◌}
use Rattle.std.specs.Str.{bytes_eq}
use Rattle.text_fields.specs.Hex.{hex2, hex8, hex_bytes, hex_digits, hex_number, hex_text, number_after}
use Rattle.text_fields.specs.Fields.{bool_of, bool_text, byte_of, no_more, only_word, then_field, word_of}
use Rattle.text_fields.specs.Decimal.{decimal_is, decimal_number}
use Rattle.text_fields.proofs.DecimalFacts.{decimal_is_text, decimal_read}
use Rattle.text_fields.proofs.Found.{equal, mapped, same_number, same_word}
use Rattle.text_fields.proofs.HexFacts.{digits_after, number_back, length-hex_digits}

-- a field was read, and what is behind it
pub record HasField {A B : Type 0} (form : List ℕ → Option A) (fs : List (List ℕ)) (go : A → List (List ℕ) → Option B) (b : B) : Type 0 where
  pub value : A
  pub field : List ℕ
  pub others : List (List ℕ)
  pub begins : fs ≡ field ∷ others
  pub gives : form field ≡ Some value
  pub after : go value others ≡ Some b

given : {A B : Type 0} (form : List ℕ → Option A) (f : List ℕ) (fs : List (List ℕ)) (go : A → List (List ℕ) → Option B) (b : B) (o : Option A)
    → form f ≡ o → option_and_then (λ a. go a fs) o ≡ Some b → HasField form (f ∷ fs) go b
given form f fs go b None e h = cc
given form f fs go b (Some a) e h = record { value = a; field = f; others = fs; begins = refl; gives = e; after = h }

pub has_field : {A B : Type 0} (form : List ℕ → Option A) (fs : List (List ℕ)) (go : A → List (List ℕ) → Option B) (b : B) → then_field form fs go ≡ Some b → HasField form fs go b
unfolding then_field
has_field form [] go b h = cc
has_field form (f ∷ fs) go b h = given form f fs go b (form f) refl h

pub record IsDone {A : Type 0} (a b : A) (fs : List (List ℕ)) : Type 0 where
  pub none : fs ≡ []
  pub same : a ≡ b

done_by : {A : Type 0} (a b : A) (fs : List (List ℕ)) (t : Bool) → (length fs == 0) ≡ t → ◌≡◌ {A = Option A} (if t then Some a else None) (Some b) → IsDone a b fs
done_by a b [] true e h = record { none = refl; same = cc }
done_by a b (f ∷ fs) true e h = let never : length (f ∷ fs) ≡ 0 = grind (arith, nat_tests) in absurd (omega (arith, never))
done_by a b fs false e h = cc

pub is_done : {A : Type 0} (a b : A) (fs : List (List ℕ)) → no_more a fs ≡ Some b → IsDone a b fs
is_done a b fs h = done_by a b fs (length fs == 0) refl h

-- a field that is there and gives a value
pub then_given : {A B : Type 0} (form : List ℕ → Option A) (field : List ℕ) (fs : List (List ℕ)) (a : A) (go : A → List (List ℕ) → Option B) → form field ≡ Some a → then_field form (field ∷ fs) go ≡ go a fs
unfolding then_field
then_given form field fs a go h = ap (option_and_then (λ b. go b fs)) h

number_is : (k : ℕ) (text : List ℕ) (n : ℕ) (t : Bool) → (length text == k) ≡ t → ◌≡◌ {A = Option ℕ} (if t then number_after 0 text else None) (Some n) → text ≡ hex_digits k n
unfolding hex_digits
number_is k text n true e h =
    let long : length text ≡ k = grind (arith, nat_tests) in
    let all : hex_digits (0 + length text) n ≡ [] ++ text = digits_after 0 0 text n h in
    let P : ℕ → Type 0 = λ j. hex_digits j n ≡ text in
    sym (subst P (let e : 0 + length text ≡ k = omega arith in e) all)
number_is k text n false e h = cc

pub word_is : (field : List ℕ) (n : ℕ) → word_of field ≡ Some n → field ≡ hex8 n
unfolding hex8
word_is field n h = number_is 8 field n (length field == 8) refl h

pub byte_is : (field : List ℕ) (n : ℕ) → byte_of field ≡ Some n → field ≡ hex2 n
unfolding hex2
byte_is field n h = number_is 2 field n (length field == 2) refl h

number_read : (k n : ℕ) → n < 16 ^ k → hex_number k (hex_digits k n) ≡ Some n
number_read k n small =
    let t : (length (hex_digits k n) == k) ≡ true = (let e : length (hex_digits k n) ≡ k = length-hex_digits k n in grind (arith, nat_tests)) in
    rw t (number_back k n small)

pub word_read : (n : ℕ) → n < 2 ^ 32 → word_of (hex8 n) ≡ Some n
unfolding hex8
word_read n small = number_read 8 n (omega arith)

pub byte_read : (n : ℕ) → n < 2 ^ 8 → byte_of (hex2 n) ≡ Some n
unfolding hex2
byte_read n small = number_read 2 n (omega arith)

-- ---- a word and no more

pub only_word_is : (fs : List (List ℕ)) (n : ℕ) → only_word fs ≡ Some n → fs ≡ hex8 n ∷ []
unfolding only_word
only_word_is fs n h =
    let f = has_field word_of fs (λ m fs. no_more m fs) n h in
    let d = is_done f.value n f.others f.after in
    f.begins ∙ ap (λ gs. f.field ∷ gs) d.none ∙ ap (λ l. l ∷ []) (word_is f.field f.value f.gives ∙ ap hex8 d.same)

pub only_word_read : (n : ℕ) → n < 2 ^ 32 → only_word (hex8 n ∷ []) ≡ Some n
unfolding only_word
only_word_read n small = then_given word_of (hex8 n) [] n (λ m fs. no_more m fs) (word_read n small)

-- ---- truths

bool_by : (field : List ℕ) (ones noughts : Bool) (b : Bool) → bytes_eq field (codes "1") ≡ ones → bytes_eq field (codes "0") ≡ noughts
    → ◌≡◌ {A = Option Bool} (if ones then Some true else if noughts then Some false else None) (Some b) → field ≡ bool_text b
bool_by field true noughts true e f h = same_word field (codes "1") e
bool_by field true noughts false e f h = cc
bool_by field false true false e f h = same_word field (codes "0") f
bool_by field false true true e f h = cc
bool_by field false false b e f h = cc

pub bool_is : (field : List ℕ) (b : Bool) → bool_of field ≡ Some b → field ≡ bool_text b
bool_is field b h = bool_by field (bytes_eq field (codes "1")) (bytes_eq field (codes "0")) b refl refl h

pub bool_read : (b : Bool) → bool_of (bool_text b) ≡ Some b
bool_read true = refl
bool_read false = refl

-- ---- the decimal text of a number that is known

pub number_told : (field : List ℕ) (n : ℕ) → n < 2 ^ 64 → decimal_is n field ≡ Some true → field ≡ decimal n
number_told field n small h =
    let m : (k : ℕ) × (decimal_number field ≡ Some k) × ((k == n) ≡ true) = mapped (λ k. k == n) (decimal_number field) true h in
    let same : m.0 ≡ n = equal m.0 n m.2 in
    decimal_is_text field m.0 (omega arith) m.1 ∙ ap decimal same

pub number_written : (n : ℕ) → n < 2 ^ 64 → decimal_is n (decimal n) ≡ Some true
number_written n small = ap (option_map (λ m. m == n)) (decimal_read n small) ∙ ap Some (same_number n)

-- ---- bytes

pair_by : (high low : ℕ) (others bytes : List ℕ) (first : Option ℕ) (more : Option (List ℕ)) → number_after 0 (high ∷ low ∷ []) ≡ first → hex_bytes others ≡ more
    → ((rest : List ℕ) → hex_bytes others ≡ Some rest → others ≡ hex_text rest)
    → option_and_then (λ b. option_map (λ bs. b ∷ bs) more) first ≡ Some bytes → high ∷ low ∷ others ≡ hex_text bytes
unfolding hex_text hex2 hex_digits
pair_by high low others bytes None more e f later h = cc
pair_by high low others bytes (Some b) None e f later h = cc
pair_by high low others bytes (Some b) (Some rest) e f later h =
    let is : b ∷ rest ≡ bytes = cc in
    let pair : hex_digits (0 + 2) b ≡ [] ++ (high ∷ low ∷ []) = digits_after 0 0 (high ∷ low ∷ []) b e in
    ap (λ l. high ∷ low ∷ l) (later rest f) ∙ ap (λ l. l ++ hex_text rest) (sym pair) ∙ ap hex_text is

pub bytes_back : (text bytes : List ℕ) → hex_bytes text ≡ Some bytes → text ≡ hex_text bytes
unfolding hex_text
bytes_back [] bytes h = (let e : [] ≡ bytes = cc in ap hex_text e)
bytes_back (high ∷ []) bytes h = cc
bytes_back (high ∷ low ∷ others) bytes h = pair_by high low others bytes (number_after 0 (high ∷ low ∷ [])) (hex_bytes others) refl refl (λ rest e. bytes_back others rest e) h

pair_read : (b : ℕ) (others : List ℕ) → b < 2 ^ 8 → hex_bytes (hex2 b ++ others) ≡ option_map (λ bytes. b ∷ bytes) (hex_bytes others)
unfolding hex2 hex_digits
pair_read b others small =
    let back : number_after 0 (hex_digits 2 b) ≡ Some b = number_back 2 b (omega arith) in
    rw back refl

-- the digits of bytes are read as these bytes
pub bytes_read : (bytes : List ℕ) → ((k d : ℕ) → k < length bytes → get_or bytes k d < 2 ^ 8) → hex_bytes (hex_text bytes) ≡ Some bytes
unfolding hex_text
bytes_read [] small = refl
bytes_read (b ∷ bytes) small = pair_read b (hex_text bytes) (small 0 0 (omega arith)) ∙ ap (option_map (λ more. b ∷ more)) (bytes_read bytes (λ k d below. small (suc k) d (omega arith)))
