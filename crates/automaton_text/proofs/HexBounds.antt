-- What hexadecimal digits write is no greater than so many digits allow.
use Rattle.std.proofs.Common.{◌≡◌, ℕ, suc, ◌+◌, ◌*◌, ◌^◌, ◌<◌, ◌≤◌, ◌==◌, Bool, true, false, List, [], ◌∷◌, length, Option, Some, None, refl, sym, subst, arith}
use Rattle.std.proofs.Math.Nat.{mul-le-mul_left, pow-succ'}
use Rattle.std.proofs.lemmas.Bool.Decides.{nat_tests}
use Rattle.std.specs.Prelude.{option_and_then, if◌then◌else◌}
use Rattle.text_fields.specs.Fields.{byte_of, word_of}
use Rattle.text_fields.specs.Hex.{digit_number, number_after}
use Rattle.text_fields.proofs.HexFacts.{digit_is}

-- so many digits behind others make a number below this
product_below : (n m d p q : ℕ) → d < 16 → n < (m * 16 + d + 1) * p → q ≡ 16 * p → n < (m + 1) * q
product_below n m d p q small below is =
    let most : d + 1 ≤ 16 = omega arith in
    let wide : p * (d + 1) ≤ p * 16 = mul-le-mul_left p most in
    let P : ℕ → Type 0 = λ r. n < (m + 1) * r in
    subst P (sym is) (omega arith)

digit_below : (m c : ℕ) (cs : List ℕ) (n : ℕ) (digit : Option ℕ) → digit_number c ≡ digit → option_and_then (λ d. number_after (m * 16 + d) cs) digit ≡ Some n
    → ((k : ℕ) → number_after k cs ≡ Some n → n < (k + 1) * 16 ^ length cs) → n < (m + 1) * 16 ^ suc (length cs)
digit_below m c cs n None e h later = cc
digit_below m c cs n (Some d) e h later =
    let small : d < 16 = (digit_is c d e).0 in
    let below : n < (m * 16 + d + 1) * 16 ^ length cs = later (m * 16 + d) h in
    product_below n m d (16 ^ length cs) (16 ^ suc (length cs)) small below (pow-succ' 16 (length cs))

pub number_below : (m : ℕ) (cs : List ℕ) (n : ℕ) → number_after m cs ≡ Some n → n < (m + 1) * 16 ^ length cs
number_below m [] n h = let same : m ≡ n = cc in omega (arith, same)
number_below m (c ∷ cs) n h = digit_below m c cs n (digit_number c) refl h (λ k e. number_below k cs n e)

number_within : (k : ℕ) (field : List ℕ) (n : ℕ) (t : Bool) → (length field == k) ≡ t → ◌≡◌ {A = Option ℕ} (if t then number_after 0 field else None) (Some n) → n < 16 ^ k
number_within k field n true e h =
    let long : length field ≡ k = grind (arith, nat_tests) in
    let below : n < (0 + 1) * 16 ^ length field = number_below 0 field n h in
    let P : ℕ → Type 0 = λ j. n < (0 + 1) * 16 ^ j in
    let all : n < (0 + 1) * 16 ^ k = subst P long below in
    omega (arith, all)
number_within k field n false e h = cc

pub word_below : (field : List ℕ) (n : ℕ) → word_of field ≡ Some n → n < 2 ^ 32
word_below field n h = number_within 8 field n (length field == 8) refl h

pub byte_below : (field : List ℕ) (n : ℕ) → byte_of field ≡ Some n → n < 2 ^ 8
byte_below field n h = number_within 2 field n (length field == 2) refl h
