-- Plain texts: neither a space nor the end of a line is in them.
use Rattle.std.proofs.Common.{◌≡◌, ℕ, zero, suc, ◌<◌, ◌≤◌, ◌^◌, ◌/◌, ◌%◌, Bool, true, List, [], ◌∷◌, ◌++◌, get_or, decimal, nat_lt, refl, ◌∙◌, arith}
use Rattle.std.specs.Prelude.{flat_map, ◌&&◌}
use Rattle.std.specs.List.{list_all}
use Rattle.std.specs.Str.Parse.{AllDigits}
use Rattle.std.proofs.lemmas.Bool.{and_from}
use Rattle.std.proofs.lemmas.Bool.Decides.{nat_tests}
use Rattle.std.proofs.lemmas.Fmt.{decimal_is_IsNumeral}
use Rattle.std.proofs.lemmas.List.Folds.{list_all-append}
use Rattle.std.proofs.lemmas.List.Sums.{AllPass-from_list_all}
use Rattle.std.proofs.lemmas.Str.Parse.{digit_from_value}
use Rattle.text_fields.specs.Hex.{hex_digit, hex_digits, hex2, hex8, hex_text}
use Rattle.text_fields.proofs.Splitting.{IsPlain}

abbrev pub is_plain : List ℕ → Bool
is_plain field = list_all (nat_lt 32) field

less : (a b : ℕ) → nat_lt a b ≡ true → a < b
less a b e = grind (arith, nat_tests)

above_space : (b : ℕ) → 32 < b → nat_lt 32 b ≡ true
above_space b h = grind (arith, nat_tests)

pub plain_is : (field : List ℕ) → is_plain field ≡ true → IsPlain field
plain_is field e k d below = less 32 (get_or field k d) (AllPass-from_list_all (nat_lt 32) field e k d below)

pub plain_both : (a b : List ℕ) → is_plain a ≡ true → is_plain b ≡ true → is_plain (a ++ b) ≡ true
plain_both a b e f = list_all-append (nat_lt 32) a b ∙ and_from (is_plain a) (is_plain b) e f

pub digit_above : (d : ℕ) → nat_lt 32 (hex_digit d) ≡ true
unfolding hex_digit
digit_above d = grind (arith, nat_tests)

pub plain_digits : (k n : ℕ) → is_plain (hex_digits k n) ≡ true
unfolding hex_digits
plain_digits zero n = refl
plain_digits (suc k) n = plain_both (hex_digits k (n / 16)) (hex_digit (n % 16) ∷ []) (plain_digits k (n / 16)) (and_from (nat_lt 32 (hex_digit (n % 16))) true (digit_above (n % 16)) refl)

pub plain_word : (n : ℕ) → is_plain (hex8 n) ≡ true
unfolding hex8
plain_word n = plain_digits 8 n

pub plain_byte : (n : ℕ) → is_plain (hex2 n) ≡ true
unfolding hex2
plain_byte n = plain_digits 2 n

pub plain_bytes : (bytes : List ℕ) → is_plain (hex_text bytes) ≡ true
unfolding hex_text
plain_bytes [] = refl
plain_bytes (b ∷ bytes) = plain_both (hex2 b) (flat_map hex2 bytes) (plain_byte b) (plain_bytes bytes)

plain_numeral : (ds : List ℕ) → AllDigits 10 ds → is_plain ds ≡ true
plain_numeral [] all = refl
plain_numeral (c ∷ cs) all =
    let range = digit_from_value c all.0 in
    and_from (nat_lt 32 c) (is_plain cs) (above_space c (omega (arith, range))) (plain_numeral cs all.1)

pub plain_decimal : (n : ℕ) → n < 2 ^ 64 → is_plain (decimal n) ≡ true
plain_decimal n small = plain_numeral (decimal n) (decimal_is_IsNumeral n small).0.1

-- ---- the same, byte by byte

pub word_plain : (n : ℕ) → IsPlain (hex8 n)
word_plain n = plain_is (hex8 n) (plain_word n)

pub byte_plain : (n : ℕ) → IsPlain (hex2 n)
byte_plain n = plain_is (hex2 n) (plain_byte n)

pub bytes_plain : (bytes : List ℕ) → IsPlain (hex_text bytes)
bytes_plain bytes = plain_is (hex_text bytes) (plain_bytes bytes)
