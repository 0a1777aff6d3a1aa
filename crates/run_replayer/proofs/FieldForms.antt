-- Fields of start files and records that are read are the texts of what they give.
use Rattle.std.proofs.Common.{◌≡◌, ℕ, zero, suc, ◌+◌, ◌*◌, ◌/◌, ◌%◌, ◌<◌, ◌==◌, Bool, true, false, List, [], ◌∷◌, length, Option, Some, None, refl, sym, ◌∙◌, ap, arith}
use Rattle.std.proofs.lemmas.Bool.Decides.{nat_tests}
use Rattle.std.specs.Prelude.{option_and_then, option_map, if◌then◌else◌}
use Rattle.text_fields.specs.Hex.{hex_bytes, hex_text}
use Rattle.text_fields.proofs.FieldTexts.{bytes_back}
use Rattle.run_replayer.specs.Fields.{bit_of, bits_of, fill_bytes_of, fits_fill, flags_of}
use Rattle.run_replayer.specs.Texts.{flag_digits}

-- ---- six flags

bit_is : (c b : ℕ) (zeros ones : Bool) → (c == 48) ≡ zeros → (c == 49) ≡ ones → ◌≡◌ {A = Option ℕ} (if zeros then Some 0 else if ones then Some 1 else None) (Some b) → (b < 2) × (c ≡ 48 + b)
bit_is c b true ones z o h = (let e : 0 ≡ b = cc in let is : c ≡ 48 = grind (arith, nat_tests) in (omega arith, omega arith))
bit_is c b false true z o h = (let e : 1 ≡ b = cc in let is : c ≡ 49 = grind (arith, nat_tests) in (omega arith, omega arith))
bit_is c b false false z o h = cc

-- the lowest bits, so many, as digits
low_digits : ℕ → ℕ → List ℕ
low_digits zero n = []
low_digits (suc k) n = (48 + n % 2) ∷ low_digits k (n / 2)

digits_by : (c : ℕ) (cs : List ℕ) (n : ℕ) (bit others : Option ℕ) → bit_of c ≡ bit → bits_of cs ≡ others → ((m : ℕ) → bits_of cs ≡ Some m → cs ≡ low_digits (length cs) m)
    → option_and_then (λ b. option_map (λ m. b + 2 * m) others) bit ≡ Some n → c ∷ cs ≡ low_digits (suc (length cs)) n
unfolding low_digits
digits_by c cs n None others e f later h = cc
digits_by c cs n (Some b) None e f later h = cc
digits_by c cs n (Some b) (Some m) e f later h =
    let is : b + 2 * m ≡ n = cc in
    let bit : (b < 2) × (c ≡ 48 + b) = bit_is c b (c == 48) (c == 49) refl refl e in
    let low : n % 2 ≡ b = omega (arith, bit.0) in
    let high : n / 2 ≡ m = omega (arith, bit.0) in
    let here : c ≡ 48 + n % 2 = omega (arith, bit.1) in
    ap (λ d. d ∷ cs) here ∙ ap (λ l. (48 + n % 2) ∷ l) (later m f ∙ ap (low_digits (length cs)) (sym high))

bits_back : (cs : List ℕ) (n : ℕ) → bits_of cs ≡ Some n → cs ≡ low_digits (length cs) n
unfolding low_digits
bits_back [] n h = refl
bits_back (c ∷ cs) n h = digits_by c cs n (bit_of c) (bits_of cs) refl refl (λ m e. bits_back cs m e) h

flag_digits-low : (n : ℕ) → low_digits 6 n ≡ flag_digits n
unfolding low_digits flag_digits
flag_digits-low n =
    let q : n / 2 / 2 ≡ n / 4 = omega arith in
    let e : n / 4 / 2 ≡ n / 8 = omega arith in
    let s : n / 8 / 2 ≡ n / 16 = omega arith in
    let t : n / 16 / 2 ≡ n / 32 = omega arith in
    rw (q, e, s, t) refl

flags_by : (field : List ℕ) (n : ℕ) (six : Bool) → (length field == 6) ≡ six → ◌≡◌ {A = Option ℕ} (if six then bits_of field else None) (Some n) → field ≡ flag_digits n
flags_by field n true e h =
    let long : length field ≡ 6 = grind (arith, nat_tests) in
    bits_back field n h ∙ ap (λ k. low_digits k n) long ∙ flag_digits-low n
flags_by field n false e h = cc

pub flags_is : (field : List ℕ) (n : ℕ) → flags_of field ≡ Some n → field ≡ flag_digits n
flags_is field n h = flags_by field n (length field == 6) refl h

-- ---- bytes of fills

pub fits_by : (made : Option (List ℕ)) (bytes : List ℕ) → option_and_then (λ bs. if fits_fill bs then Some bs else None) made ≡ Some bytes → (made ≡ Some bytes) × (fits_fill bytes ≡ true)
fits_by None bytes h = cc
fits_by (Some bs) bytes h = kept (fits_fill bs) refl h
  where
    kept : (t : Bool) → fits_fill bs ≡ t → ◌≡◌ {A = Option (List ℕ)} (if t then Some bs else None) (Some bytes) → (Some bs ≡ Some bytes) × (fits_fill bytes ≡ true)
    kept true is e = (let same : bs ≡ bytes = cc in (e, ap fits_fill (sym same) ∙ is))
    kept false is e = cc

pub fill_bytes_is : (field bytes : List ℕ) → fill_bytes_of field ≡ Some bytes → field ≡ hex_text bytes
fill_bytes_is field bytes h = bytes_back field bytes (fits_by (hex_bytes field) bytes h).0
