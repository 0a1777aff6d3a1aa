-- Decimal texts: what reads them back.
use Rattle.std.proofs.Common.{Bool, true, false, [], ◌∷◌, ◌==◌, ◌&&◌, nat_lt, refl, cond, ◌≡◌, ◌≢◌, ℕ, zero, suc, ◌<◌, ◌≤◌, ◌^◌, List, length, get_or, Option, Some, None, arith, ◌∙◌, ap, sym, ◌↔◌, SomeIff, decimal}
use Rattle.std.specs.Prelude.{not, option_and_then, option_map}
use Rattle.std.specs.Str.{IsUtf8, all_ascii_digits}
use Rattle.std.specs.Char.{is_ascii_digit}
use Rattle.std.specs.List.{list_all}
use Rattle.std.proofs.lemmas.Bool.{and_parts}
use Rattle.std.proofs.lemmas.Bool.Decides.{nat_tests}
use Rattle.text_fields.specs.Decimal.{is_decimal, decimal_number, decimal_below}
use Rattle.std.specs.Str.Parse.{IsNumeral, AllDigits, digits_value}
use Rattle.std.proofs.lemmas.Str.{IsUtf8-from_ascii}
use Rattle.std.proofs.lemmas.Str.Parse.{IsNumeralModel, numerals_by_value, tells_digits, tells_all_ascii_digits}
use Rattle.std.proofs.lemmas.Fmt.{IsAscii-from_digits, decimal_is_IsNumeral, decimal-digits_value, first_decimal, decimal_digit}

pub numeral_is_text : (bs : List ℕ) → IsNumeral 10 bs → IsUtf8 bs
numeral_is_text bs numeral = IsUtf8-from_ascii bs (IsAscii-from_digits bs numeral.1)

digits_model : IsNumeralModel (AllDigits 10) (digits_value 10)
digits_model = numerals_by_value (AllDigits 10) tells_digits

-- a decimal text is a numeral of its number
decimal_value_is : (text : List ℕ) (n : ℕ) → n < 2 ^ 64 → text ≡ decimal n → IsNumeral 10 text × (digits_value 10 text ≡ n)
decimal_value_is text n small same = rw same (decimal_is_IsNumeral n small)

-- digits without a leading zero write n exactly where they are its decimal text
pub reads_decimal : (text : List ℕ) (n : ℕ) (r : Option ℕ) → n < 2 ^ 64 → (get_or text 0 0 ≡ 48 → length text ≤ 1) → SomeIff r (IsNumeral 10 text × (digits_value 10 text < 2 ^ 64)) (digits_value 10 text) → (r ≡ Some n) ↔ (text ≡ decimal n)
reads_decimal text n None small plain none = (
  (λ e. let never : ⊥ = cc in absurd never),
  (λ same. let is = decimal_value_is text n small same in
      let below : digits_value 10 text < 2 ^ 64 = omega arith in
      absurd (none (is.0, below))),
)
reads_decimal text n (Some x) small plain found = (
  (λ e. let one : digits_value 10 text ≡ n = cc in
      let some = found.0.0.0 in
      let single : get_or text 0 0 ≡ 48 → length text ≡ 1 = λ begins. let most = plain begins in omega arith in
      rw (← one) (sym (decimal-digits_value digits_model text found.0.0.1 some single found.0.1))),
  (λ same. ap Some (found.1 ∙ (decimal_value_is text n small same).1)),
)

-- no decimal text of more than one digit begins with 0
pub no_leading_zero : (text : List ℕ) (n : ℕ) → n < 2 ^ 64 → 1 < length text → get_or text 0 0 ≡ 48 → text ≢ decimal n
no_leading_zero text zero small long begins same =
    let one : length (decimal 0) ≡ 1 = ap length (decimal_digit 0 (omega arith)) in
    let long_one : length text ≡ 1 = ap length same ∙ one in
    omega arith
no_leading_zero text (suc n) small long begins same =
    let above : 48 < get_or (decimal (suc n)) 0 0 = first_decimal (suc n) (omega arith) small in
    let first : get_or (decimal (suc n)) 0 0 ≡ 48 = rw (← same) begins in
    omega arith

all_digits_are : (text : List ℕ) → list_all is_ascii_digit text ≡ all_ascii_digits text
all_digits_are [] = refl
all_digits_are (c ∷ cs) = ap (λ b. is_ascii_digit c && b) (all_digits_are cs)

-- the test of a text of more than one byte
pub is_decimal_long : (text : List ℕ) → 1 < length text → is_decimal text ≡ (not (get_or text 0 0 == 48) && list_all is_ascii_digit text)
is_decimal_long [] long = let never : ⊥ = omega arith in absurd never
is_decimal_long (c ∷ []) long = let never : ⊥ = omega arith in absurd never
is_decimal_long (c ∷ d ∷ cs) long = ap (λ b. not (c == 48) && b) (sym (all_digits_are (c ∷ d ∷ cs)))

tested_model : IsNumeralModel (λ ds. all_ascii_digits ds ≡ true) (digits_value 10)
tested_model = numerals_by_value (λ ds. all_ascii_digits ds ≡ true) tells_all_ascii_digits

pub record Plain (text : List ℕ) : Type 0 where
  pub numeral : IsNumeral 10 text
  pub short : get_or text 0 0 ≡ 48 → length text ≤ 1

-- a decimal text is a numeral that begins with no 0, or is 0
pub decimal_plain : (text : List ℕ) → is_decimal text ≡ true → Plain text
decimal_plain [] e = let never : ⊥ = cc in absurd never
decimal_plain (c ∷ []) e = record { numeral = (omega arith, tested_model.to (c ∷ []) (rw e refl)); short = λ _. omega arith }
decimal_plain (c ∷ d ∷ cs) e =
    let parts : (not (c == 48) ≡ true) × (all_ascii_digits (c ∷ d ∷ cs) ≡ true) = and_parts (not (c == 48)) (all_ascii_digits (c ∷ d ∷ cs)) e in
    record { numeral = (omega arith, tested_model.to (c ∷ d ∷ cs) parts.1); short = λ begins. grind (arith, nat_tests) }

not_zero : (c n : ℕ) → (c ≡ 48 → suc (suc n) ≤ 1) → not (c == 48) ≡ true
not_zero c n short = grind (arith, nat_tests)

pub plain_decimal : (text : List ℕ) → Plain text → is_decimal text ≡ true
plain_decimal [] p = let some = p.numeral.0 in let never : ⊥ = omega arith in absurd never
plain_decimal (c ∷ []) p = let e = tested_model.from (c ∷ []) p.numeral.1 in (and_parts (is_ascii_digit c) true e).0
plain_decimal (c ∷ d ∷ cs) p =
    let digits : all_ascii_digits (c ∷ d ∷ cs) ≡ true = tested_model.from (c ∷ d ∷ cs) p.numeral.1 in
    let others : not (c == 48) ≡ true = not_zero c (length cs) p.short in
    rw (others, digits) refl

decimal_number_is : (text : List ℕ) → is_decimal text ≡ true → decimal_number text ≡ Some (digits_value 10 text)
unfolding decimal_number
decimal_number_is text e = rw e refl

pub no_decimal_number : (text : List ℕ) → is_decimal text ≡ false → decimal_number text ≡ None
unfolding decimal_number
no_decimal_number text e = rw e refl

below : (a b : ℕ) → a < b → nat_lt a b ≡ true
below a b less = grind (arith, nat_tests)

not_below : (a b : ℕ) → (a < b → ⊥) → nat_lt a b ≡ false
not_below a b beyond = grind (arith, nat_tests)

other : (a n b : ℕ) → n < b → (a < b → ⊥) → (a == n) ≡ false
other a n b small beyond = grind (arith, nat_tests)

-- what reads a numeral below 2^64 gives the number of a decimal text
pub value_below : (text : List ℕ) (r : Option ℕ) → is_decimal text ≡ true → SomeIff r (IsNumeral 10 text × (digits_value 10 text < 2 ^ 64)) (digits_value 10 text) → r ≡ decimal_below (2 ^ 64) text
value_below text None e none =
    let beyond : digits_value 10 text < 2 ^ 64 → ⊥ = λ below. none ((decimal_plain text e).numeral, below) in
    let test : nat_lt (digits_value 10 text) (2 ^ 64) ≡ false = not_below (digits_value 10 text) (2 ^ 64) beyond in
    rw (decimal_number_is text e, test) refl
value_below text (Some x) e found =
    let test : nat_lt (digits_value 10 text) (2 ^ 64) ≡ true = below (digits_value 10 text) (2 ^ 64) found.0.1 in
    rw (decimal_number_is text e, test) (ap Some found.1)

-- and whether it is a number below 2^64
pub value_is : (text : List ℕ) (m n : ℕ) → is_decimal text ≡ true → SomeIff (Some m) (IsNumeral 10 text × (digits_value 10 text < 2 ^ 64)) (digits_value 10 text) → Some (m == n) ≡ option_map (λ k. k == n) (decimal_number text)
value_is text m n e found = rw (decimal_number_is text e, ← found.1) refl

pub value_is_not : (text : List ℕ) (n : ℕ) → is_decimal text ≡ true → n < 2 ^ 64 → SomeIff None (IsNumeral 10 text × (digits_value 10 text < 2 ^ 64)) (digits_value 10 text) → Some false ≡ option_map (λ k. k == n) (decimal_number text)
value_is_not text n e small none =
    let beyond : digits_value 10 text < 2 ^ 64 → ⊥ = λ below. none ((decimal_plain text e).numeral, below) in
    let test : (digits_value 10 text == n) ≡ false = other (digits_value 10 text) n (2 ^ 64) small beyond in
    rw (decimal_number_is text e, test) refl

short_by : (text : List ℕ) (n : ℕ) → n < 2 ^ 64 → get_or text 0 0 ≡ 48 → text ≡ decimal n → (k : ℕ) → length text ≡ k → k ≤ 1
short_by text n small begins same zero is = omega arith
short_by text n small begins same (suc zero) is = omega arith
short_by text n small begins same (suc (suc k)) is = absurd (no_leading_zero text n small (omega arith) begins same)

-- a text that is not decimal is no number's
pub not_decimal : (text : List ℕ) (n : ℕ) → n < 2 ^ 64 → is_decimal text ≡ false → text ≢ decimal n
not_decimal text n small e same =
    let is : IsNumeral 10 text × (digits_value 10 text ≡ n) = decimal_value_is text n small same in
    let short : get_or text 0 0 ≡ 48 → length text ≤ 1 = λ begins. short_by text n small begins same (length text) refl in
    let test : is_decimal text ≡ true = plain_decimal text (record { numeral = is.0; short = short }) in
    let never : ⊥ = cc in
    never

number_by : (text : List ℕ) (n : ℕ) (t : Bool) → is_decimal text ≡ t → ◌≡◌ {A = Option ℕ} (cond t (Some (digits_value 10 text)) None) (Some n) → (is_decimal text ≡ true) × (digits_value 10 text ≡ n)
number_by text n true e h = (e, cc)
number_by text n false e h = cc

-- a text is that of the number that it writes
pub decimal_is_text : (text : List ℕ) (n : ℕ) → n < 2 ^ 64 → decimal_number text ≡ Some n → text ≡ decimal n
unfolding decimal_number
decimal_is_text text n small h =
    let is : (is_decimal text ≡ true) × (digits_value 10 text ≡ n) = number_by text n (is_decimal text) refl h in
    let plain = decimal_plain text is.0 in
    let least : digits_value 10 text < 2 ^ 64 = omega (arith, is.1) in
    (reads_decimal text n (Some n) small plain.short ((plain.numeral, least), sym is.1)).0 refl

-- the text of a number is read as that number
pub decimal_read : (n : ℕ) → n < 2 ^ 64 → decimal_number (decimal n) ≡ Some n
decimal_read n small =
    let is : IsNumeral 10 (decimal n) × (digits_value 10 (decimal n) ≡ n) = decimal_value_is (decimal n) n small refl in
    let short : get_or (decimal n) 0 0 ≡ 48 → length (decimal n) ≤ 1 = λ begins. short_by (decimal n) n small begins refl (length (decimal n)) refl in
    decimal_number_is (decimal n) (plain_decimal (decimal n) (record { numeral = is.0; short = short })) ∙ ap Some is.1
