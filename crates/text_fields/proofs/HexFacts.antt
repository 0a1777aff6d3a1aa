-- Hexadecimal texts: their lengths, and the number that is read back.
use Rattle.std.proofs.Common.{◌≡◌, ◌≢◌, take, drop, All, flat_map, ℕ, zero, suc, ◌+◌, ◌*◌, ◌/◌, ◌%◌, ◌^◌, ◌<◌, ◌≤◌, List, [], ◌∷◌, ◌++◌, length, Option, Some, None, arith, ◌∙◌, ap, sym, refl, ◌↔◌}
use Rattle.std.proofs.lemmas.List.{append_assoc, append-nil, length-append}
use Rattle.std.specs.Option.{option_and_then, option_map}
use Rattle.std.proofs.Math.Nat.{div-div-eq-div-mul, pow-succ', add-zero}
use Rattle.text_fields.specs.Hex.{hex_digit, hex_digits, hex2, hex8, hex_text, IsHexText, digit_number, hex_bytes, hex_number, number_after}

-- the digits of a word by their places
pub hex8_places : (n : ℕ) → hex8 n ≡
    hex_digit (n / 268435456 % 16) ∷ hex_digit (n / 16777216 % 16) ∷ hex_digit (n / 1048576 % 16) ∷ hex_digit (n / 65536 % 16)
    ∷ hex_digit (n / 4096 % 16) ∷ hex_digit (n / 256 % 16) ∷ hex_digit (n / 16 % 16) ∷ hex_digit (n % 16) ∷ []
unfolding hex8 hex_digits
hex8_places n = simp div-div-eq-div-mul refl

pub hex2_places : (n : ℕ) → hex2 n ≡ hex_digit (n / 16 % 16) ∷ hex_digit (n % 16) ∷ []
unfolding hex2 hex_digits
hex2_places n = refl

pub length-hex_digits : (k n : ℕ) → length (hex_digits k n) ≡ k
unfolding hex_digits
length-hex_digits zero n = refl
length-hex_digits (suc k) n = rw (length-append (hex_digits k (n / 16)) (hex_digit (n % 16) ∷ []), length-hex_digits k (n / 16)) (omega arith)

pub length-hex8 : (n : ℕ) → length (hex8 n) ≡ 8
unfolding hex8
length-hex8 n = length-hex_digits 8 n

pub length-hex2 : (n : ℕ) → length (hex2 n) ≡ 2
unfolding hex2
length-hex2 n = length-hex_digits 2 n

pub digit_back : (d : ℕ) → d < 16 → digit_number (hex_digit d) ≡ Some d
unfolding hex_digit digit_number
digit_back d small = grind arith

pub digit_is : (c d : ℕ) → digit_number c ≡ Some d → (d < 16) × (hex_digit d ≡ c)
unfolding hex_digit digit_number
digit_is c d read = grind arith

pub number_after-append : (n : ℕ) (cs : List ℕ) (c : ℕ) → number_after n (cs ++ c ∷ []) ≡ option_and_then (λ m. option_and_then (λ d. Some (m * 16 + d)) (digit_number c)) (number_after n cs)
number_after-append n [] c = refl
number_after-append n (b ∷ cs) c =
    elim (digit_number b) as (λ first.
    option_and_then (λ d. number_after (n * 16 + d) (cs ++ c ∷ [])) first
    ≡ option_and_then (λ m. option_and_then (λ d. Some (m * 16 + d)) (digit_number c)) (option_and_then (λ d. number_after (n * 16 + d) cs) first))
    [ None ↦ refl | Some d ↦ number_after-append (n * 16 + d) cs c ]

-- the digits of a number are read back
pub number_back : (k n : ℕ) → n < 16 ^ k → number_after 0 (hex_digits k n) ≡ Some n
unfolding hex_digits
number_back zero n small = let same : n ≡ 0 = omega arith in ap Some (sym same)
number_back (suc k) n small =
    let grown : 16 ^ suc k ≡ 16 * 16 ^ k = pow-succ' 16 k in
    let front : n / 16 < 16 ^ k = omega arith in
    let last : n % 16 < 16 = omega arith in
    let whole : n / 16 * 16 + n % 16 ≡ n = omega arith in
    rw (number_after-append 0 (hex_digits k (n / 16)) (hex_digit (n % 16)), number_back k (n / 16) front, digit_back (n % 16) last)
    (ap Some whole)

-- a number's digits and one more are the digits of the number with it
hex_digits-more : (k n d : ℕ) → d < 16 → hex_digits (suc k) (n * 16 + d) ≡ hex_digits k n ++ hex_digit d ∷ []
unfolding hex_digits
hex_digits-more k n d small =
    let front : (n * 16 + d) / 16 ≡ n = omega arith in
    let last : (n * 16 + d) % 16 ≡ d = omega arith in
    rw (front, last) refl

-- the same of the digits after the first, by what holds of the others
digits_after_first : (k n c : ℕ) (cs : List ℕ) (m : ℕ) (first : Option ℕ) → digit_number c ≡ first → option_and_then (λ d. number_after (n * 16 + d) cs) first ≡ Some m → ((d : ℕ) → number_after (n * 16 + d) cs ≡ Some m → hex_digits (suc k + length cs) m ≡ hex_digits (suc k) (n * 16 + d) ++ cs) → hex_digits (k + suc (length cs)) m ≡ hex_digits k n ++ c ∷ cs
digits_after_first k n c cs m None e whole others = let never : ⊥ = cc in absurd never
digits_after_first k n c cs m (Some d) e whole others =
    let digit = digit_is c d e in
    let sum : k + suc (length cs) ≡ suc k + length cs = omega arith in
    rw (sum, others d whole, hex_digits-more k n d digit.0, digit.1) (append_assoc (hex_digits k n) (c ∷ []) cs)

-- what digits write has these digits, after k digits of the number before them
pub digits_after : (k n : ℕ) (cs : List ℕ) (m : ℕ) → number_after n cs ≡ Some m → hex_digits (k + length cs) m ≡ hex_digits k n ++ cs
digits_after k n [] m same =
    let is : n ≡ m = cc in rw (add-zero k, append-nil (hex_digits k n), is) refl
digits_after k n (c ∷ cs) m whole =
    digits_after_first k n c cs m (digit_number c) refl whole (λ d. digits_after (suc k) (n * 16 + d) cs m)

-- a text of k characters writes n exactly where it is the digits of n
pub reads_digits : (k n : ℕ) (text : List ℕ) → length text ≡ k → n < 16 ^ k → (number_after 0 text ≡ Some n) ↔ (text ≡ hex_digits k n)
unfolding hex_digits
reads_digits k n text long small =
    let size : k ≡ 0 + length text = omega arith in
    ((λ whole. sym (rw size (digits_after 0 0 text n whole))), (λ same. rw same (number_back k n small)))

pub other_length : (k n : ℕ) (text : List ℕ) → length text ≢ k → (◌≡◌ {A = Option ℕ} None (Some n)) ↔ (text ≡ hex_digits k n)
other_length k n text other =
    ((λ e. let never : ⊥ = cc in absurd never), (λ same. absurd (other (ap length same ∙ length-hex_digits k n))))

pub reads_hex8 : (n : ℕ) (text : List ℕ) → length text ≡ 8 → n < 2 ^ 32 → (number_after 0 text ≡ Some n) ↔ (text ≡ hex8 n)
unfolding hex8
reads_hex8 n text long small = reads_digits 8 n text long small

pub reads_hex2 : (b : ℕ) (text : List ℕ) → length text ≡ 2 → b < 2 ^ 8 → (number_after 0 text ≡ Some b) ↔ (text ≡ hex2 b)
unfolding hex2
reads_hex2 b text long small = reads_digits 2 b text long small

pub no_hex8 : (n : ℕ) (text : List ℕ) → length text ≢ 8 → (◌≡◌ {A = Option ℕ} None (Some n)) ↔ (text ≡ hex8 n)
unfolding hex8
no_hex8 n text other = other_length 8 n text other

pub no_hex2 : (b : ℕ) (text : List ℕ) → length text ≢ 2 → (◌≡◌ {A = Option ℕ} None (Some b)) ↔ (text ≡ hex2 b)
unfolding hex2
no_hex2 b text other = other_length 2 b text other

-- a text of bytes that is not empty: its first byte, and the text of the others
pub record Parts (text : List ℕ) : Type 0 where
  pub byte : ℕ
  pub small : byte < 2 ^ 8
  pub long : 2 ≤ length text
  pub first : take 2 text ≡ hex2 byte
  pub others : IsHexText (drop 2 text)

hex_text_parts_of : (text bytes : List ℕ) → All (λ b. b < 2 ^ 8) bytes → text ≡ hex_text bytes → 0 < length text → Parts text
unfolding hex_text hex2 hex_digits
hex_text_parts_of text [] all same some = let none : length text ≡ 0 = ap length same in let never : ⊥ = omega arith in absurd never
hex_text_parts_of text (b ∷ bytes) all same some =
    let long : length text ≡ suc (suc (length (flat_map hex2 bytes))) = ap length same in
    record {
      byte = b;
      small = all 0 0 (omega arith);
      long = omega arith;
      first = ap (take 2) same;
      others = record { bytes = bytes; small = λ k d below. all (suc k) d (omega arith); same = ap (drop 2) same };
    }

pub hex_text_parts : (text : List ℕ) → IsHexText text → 0 < length text → Parts text
hex_text_parts text is some = hex_text_parts_of text is.bytes is.small is.same some

pub hex_text-push : (bytes : List ℕ) (b : ℕ) → hex_text (bytes ++ b ∷ []) ≡ hex_text bytes ++ hex2 b
unfolding hex_text
hex_text-push [] b = append-nil (hex2 b)
hex_text-push (c ∷ bytes) b = rw (hex_text-push bytes b) (sym (append_assoc (hex2 c) (hex_text bytes) (hex2 b)))

-- bytes read before others
abbrev pub with_bytes : List ℕ → Option (List ℕ) → Option (List ℕ)
with_bytes bytes others = option_map (λ more. bytes ++ more) others

pub with_none : (others : Option (List ℕ)) → others ≡ with_bytes [] others
with_none None = refl
with_none (Some more) = refl

with_more : (bytes : List ℕ) (b : ℕ) (others : Option (List ℕ)) → with_bytes bytes (option_map (λ more. b ∷ more) others) ≡ with_bytes (bytes ++ b ∷ []) others
with_more bytes b None = refl
with_more bytes b (Some more) = ap Some (sym (append_assoc bytes (b ∷ []) more))

-- a pair of digits is read before the others
pub pair_read : (text : List ℕ) → 2 ≤ length text → hex_bytes text ≡ option_and_then (λ b. option_map (λ bytes. b ∷ bytes) (hex_bytes (drop 2 text))) (hex_number 2 (take 2 text))
pair_read [] long = let never : ⊥ = omega arith in absurd never
pair_read (high ∷ []) long = let never : ⊥ = omega arith in absurd never
pair_read (high ∷ low ∷ others) long = refl

pub with_one_more : (bytes text : List ℕ) (b : ℕ) → 2 ≤ length text → Some b ≡ hex_number 2 (take 2 text) → with_bytes bytes (hex_bytes text) ≡ with_bytes (bytes ++ b ∷ []) (hex_bytes (drop 2 text))
with_one_more bytes text b long pair = rw (pair_read text long, ← pair) (with_more bytes b (hex_bytes (drop 2 text)))

pub no_pair : (text : List ℕ) → 2 ≤ length text → ◌≡◌ {A = Option ℕ} None (hex_number 2 (take 2 text)) → hex_bytes text ≡ None
no_pair text long none = rw (pair_read text long, ← none) refl

pub odd_left : (text : List ℕ) → 0 < length text → length text < 2 → hex_bytes text ≡ None
odd_left [] some short = let never : ⊥ = omega arith in absurd never
odd_left (high ∷ []) some short = refl
odd_left (high ∷ low ∷ others) some short = let never : ⊥ = omega arith in absurd never

pub nothing_left : (text : List ℕ) → length text ≡ 0 → hex_bytes text ≡ Some []
nothing_left [] none = refl
nothing_left (c ∷ cs) none = let never : ⊥ = omega arith in absurd never
