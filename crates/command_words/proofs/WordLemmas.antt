-- What the words of the command line write.
use Rattle.std.proofs.Common.{◌≡◌, ℕ, suc, ◌+◌, ◌*◌, ◌^◌, ◌<◌, ◌≤◌, ◌&&◌, Bool, true, false, cond, List, [], ◌∷◌, length, Option, Some, None, refl, sym, ◌∙◌, ap, subst, ◌↔◌, SomeIff, IfSome, arith}
use Rattle.std.specs.Prelude.{nat_le, ◌==◌}
use Rattle.std.specs.Option.{option_and_then}
use Rattle.std.specs.List.{list_all}
use Rattle.std.specs.Char.{digit_value}
use Rattle.std.specs.Str.{str_to_ascii_uppercase}
use Rattle.std.specs.Str.Parse.{AllDigits, IsNumeral, digits_value}
use Rattle.std.specs.Char.{to_ascii_uppercase}
use Rattle.std.proofs.lemmas.List.{length-map}
use Rattle.std.proofs.lemmas.Bool.{leb-true, eqb-true, and_parts}
use Rattle.std.proofs.lemmas.Str.{digit_value_digit}
use Rattle.std.proofs.Math.Nat.{mul-le-mul_left, pow-succ'}
use Rattle.text_fields.specs.Hex.{digit_number, number_after, hex8}
use Rattle.text_fields.proofs.HexFacts.{digit_is, reads_hex8, length-hex8}
use Rattle.command_words.specs.Words.{is_digit, is_number, is_within, number_within, address_of}

-- a decimal digit's value is below 10
digit_below : (c : ℕ) → is_digit c ≡ true → digit_value c < 10
digit_below c is =
    let low : 48 ≤ c = leb-true 48 c ((and_parts (nat_le 48 c) (nat_le c 57) is).0) in
    let high : c ≤ 57 = leb-true c 57 ((and_parts (nat_le 48 c) (nat_le c 57) is).1) in
    omega (arith, digit_value_digit c (low, high))

all_digits : (cs : List ℕ) → list_all is_digit cs ≡ true → AllDigits 10 cs
all_digits [] all = tt
all_digits (c ∷ cs) all = (digit_below c ((and_parts (is_digit c) (list_all is_digit cs) all).0), all_digits cs ((and_parts (is_digit c) (list_all is_digit cs) all).1))

pub record IsShortNumeral (word : List ℕ) : Type 0 where
  pub numeral : IsNumeral 10 word
  pub short : length word ≤ 10

number_is : (word : List ℕ) → is_number word ≡ true → IsShortNumeral word
number_is word is =
    let front : (nat_le 1 (length word) && nat_le (length word) 10) ≡ true = (and_parts (nat_le 1 (length word) && nat_le (length word) 10) (list_all is_digit word) is).0 in
    let some : 1 ≤ length word = leb-true 1 (length word) ((and_parts (nat_le 1 (length word)) (nat_le (length word) 10) front).0) in
    record {
      numeral = (omega arith, all_digits word ((and_parts (nat_le 1 (length word) && nat_le (length word) 10) (list_all is_digit word) is).1));
      short = leb-true (length word) 10 ((and_parts (nat_le 1 (length word)) (nat_le (length word) 10) front).1);
    }

-- a number that is not read is too great for a limit below 2^32
pub number_none : (least most : ℕ) (word : List ℕ) → most < 2 ^ 32 → is_number word ≡ true → SomeIff {T = ℕ} None (IsNumeral 10 word × (length word ≤ 10) × (digits_value 10 word < 2 ^ 32)) (digits_value 10 word) → number_within least most word ≡ None
number_none least most word small is unread =
    let P : Bool → Type 0 = λ b. is_within least most (digits_value 10 word) ≡ b → cond (is_number word && b) (Some (digits_value 10 word)) None ≡ None in
    (elim (is_within least most (digits_value 10 word)) as P [
      | true ↦ λ within.
          let few : digits_value 10 word ≤ most = leb-true (digits_value 10 word) most ((and_parts (nat_le least (digits_value 10 word)) (nat_le (digits_value 10 word) most) within).1) in
          let number : IsShortNumeral word = number_is word is in
          absurd (unread (number.numeral, number.short, omega arith))
      | false ↦ λ without. rw is refl
    ]) refl

-- what hexadecimal digits write is no greater than so many digits allow
number_after_below : (n : ℕ) (cs : List ℕ) (m : ℕ) → number_after n cs ≡ Some m → m < (n + 1) * 16 ^ length cs
number_after_below n [] m whole = let is : n ≡ m = cc in omega arith
number_after_below n (c ∷ cs) m whole =
    let P : Option ℕ → Type 0 = λ o. digit_number c ≡ o → option_and_then (λ d. number_after (n * 16 + d) cs) o ≡ Some m → m < (n + 1) * 16 ^ suc (length cs) in
    (elim (digit_number c) as P [
      | None ↦ λ e w. cc
      | (Some d) ↦ λ e w.
          let small : d < 16 = (digit_is c d e).0 in
          let below : m < (n * 16 + d + 1) * 16 ^ length cs = number_after_below (n * 16 + d) cs m w in
          let front : n * 16 + d + 1 ≤ (n + 1) * 16 = omega arith in
          let grown : 16 ^ length cs * (n * 16 + d + 1) ≤ 16 ^ length cs * ((n + 1) * 16) = mul-le-mul_left (16 ^ length cs) front in
          let power : 16 ^ suc (length cs) ≡ 16 * 16 ^ length cs = pow-succ' 16 (length cs) in
          rw power (omega arith)
    ]) refl whole

-- what is read of a word is the address that it writes
pub address_is : (word : List ℕ) (r : Option ℕ) → IfSome r (λ n. n < 2 ^ 32) → ((n : ℕ) → n < 2 ^ 32 → (r ≡ Some n) ↔ (str_to_ascii_uppercase word ≡ hex8 n)) → r ≡ address_of word
address_is word r within reads =
    let P : Bool → Type 0 = λ b. (length word == 8) ≡ b → r ≡ cond b (number_after 0 (str_to_ascii_uppercase word)) None in
    (elim (length word == 8) as P [
      | true ↦ λ e. eight word r within reads (eqb-true (length word) 8 e) (number_after 0 (str_to_ascii_uppercase word)) refl
      | false ↦ λ e. other word r within reads e
    ]) refl
  where
    upper_length : (word : List ℕ) → length (str_to_ascii_uppercase word) ≡ length word
    upper_length word = length-map word to_ascii_uppercase

    eight : (word : List ℕ) (r : Option ℕ) → IfSome r (λ n. n < 2 ^ 32) → ((n : ℕ) → n < 2 ^ 32 → (r ≡ Some n) ↔ (str_to_ascii_uppercase word ≡ hex8 n)) → length word ≡ 8
        → (o : Option ℕ) → number_after 0 (str_to_ascii_uppercase word) ≡ o → r ≡ o
    eight word None within reads long None e = refl
    eight word (Some n) within reads long None e =
        let same : number_after 0 (str_to_ascii_uppercase word) ≡ Some n = (reads_hex8 n (str_to_ascii_uppercase word) (upper_length word ∙ long) within).1 ((reads n within).0 refl) in
        cc
    eight word r within reads long (Some m) e =
        let below : m < (0 + 1) * 16 ^ length (str_to_ascii_uppercase word) = number_after_below 0 (str_to_ascii_uppercase word) m e in
        let size : length (str_to_ascii_uppercase word) ≡ 8 = upper_length word ∙ long in
        let P : ℕ → Type 0 = λ k. m < (0 + 1) * 16 ^ k in
        let small : m < 2 ^ 32 = subst P size below in
        (reads m small).1 ((reads_hex8 m (str_to_ascii_uppercase word) size small).0 e)

    other : (word : List ℕ) (r : Option ℕ) → IfSome r (λ n. n < 2 ^ 32) → ((n : ℕ) → n < 2 ^ 32 → (r ≡ Some n) ↔ (str_to_ascii_uppercase word ≡ hex8 n)) → (length word == 8) ≡ false → r ≡ None
    other word None within reads e = refl
    other word (Some n) within reads e =
        let text : str_to_ascii_uppercase word ≡ hex8 n = (reads n within).0 refl in
        let size : length word ≡ 8 = sym (upper_length word) ∙ ap length text ∙ length-hex8 n in
        let Q : ℕ → Type 0 = λ k. (k == 8) ≡ false in
        let never : (8 == 8) ≡ false = subst Q size e in
        cc
