-- Laws of words that every operator shares.
use Rattle.std.proofs.Common.{◌≡◌, ℕ, ◌+◌, ◌-◌, ◌*◌, ◌/◌, ◌%◌, ◌^◌, ◌<◌, ◌≤◌, refl, sym, ap, ◌∙◌, arith, subst, lit≤, lit<}
use Rattle.std.proofs.lemmas.Nat.{pow_pos, pow-add, mul-add-lt, one_shl, div-add-mod'}
use Rattle.std.proofs.Math.Nat.{div-lt_iff_lt-mul, mod-lt, mod-eq_of_lt, mul-add-mod_self_right, mul-add-div_right, add-zero}
use Rattle.bit_words.specs.declared.width.Width.{Width}
use Rattle.bit_words.specs.declared.width.Width.TheVariants.{B8, B16, B32}
use Rattle.bit_words.specs.Width.{bits_of}
use Rattle.bit_words.specs.Operators.{rotated}

-- a power of two split at a place
pub pow-split : (n c : ℕ) → c ≤ n → 2 ^ c * 2 ^ (n - c) ≡ 2 ^ n
pow-split n c h = let e : c + (n - c) ≡ n = omega arith in sym (pow-add 2 c (n - c)) ∙ ap (λ k. 2 ^ k) e

-- a rotated word fits the width
pub rotated-lt : (n x c : ℕ) → x < 2 ^ n → c ≤ n → rotated n x c < 2 ^ n
rotated-lt n x c fits within =
    let e = pow-split n c within in
    let fits' : x < 2 ^ c * 2 ^ (n - c) = subst (λ k. x < k) (sym e) fits in
    let high : x / 2 ^ (n - c) < 2 ^ c = (div-lt_iff_lt-mul {k = 2 ^ (n - c)} {x = x} {y = 2 ^ c} (pow_pos (n - c))).1 fits' in
    let low : x % 2 ^ (n - c) < 2 ^ (n - c) = mod-lt x (pow_pos (n - c)) in
    subst (λ k. rotated n x c < k) e (mul-add-lt (x % 2 ^ (n - c)) (2 ^ c) (x / 2 ^ (n - c)) (2 ^ (n - c)) low high)

pub bits_of_le : (w : Width) → bits_of w ≤ 32
bits_of_le B8 = lit≤ tt
bits_of_le B16 = lit≤ tt
bits_of_le B32 = lit≤ tt

pub bits_of-pos : (w : Width) → 0 < bits_of w
bits_of-pos B8 = lit< tt
bits_of-pos B16 = lit< tt
bits_of-pos B32 = lit< tt

-- a word is below 2 ^ 32
pub word-lt : (w : Width) (n : ℕ) → n < 2 ^ bits_of w → n < 2 ^ 32
word-lt B8 n h = omega arith
word-lt B16 n h = omega arith
word-lt B32 n h = h

-- a rotated word, as the code computes it in 64 bits
pub code-rotated : (w : Width) (x c n a b : ℕ) → n ≡ bits_of w → a ≡ x → b ≡ x → x < 2 ^ bits_of w → c ≤ bits_of w → a % (1 * 2 ^ (n - c) % 2 ^ 64) * 2 ^ c % 2 ^ 64 + b / 2 ^ (n - c) ≡ rotated (bits_of w) x c
code-rotated w x c n a b e f g fits within =
    let le = bits_of_le w in
    let one : 1 * 2 ^ (bits_of w - c) % 2 ^ 64 ≡ 2 ^ (bits_of w - c) = one_shl (bits_of w - c) 64 (omega arith) in
    let below : rotated (bits_of w) x c < 2 ^ 32 = word-lt w _ (rotated-lt (bits_of w) x c fits within) in
    let small : x % 2 ^ (bits_of w - c) * 2 ^ c % 2 ^ 64 ≡ x % 2 ^ (bits_of w - c) * 2 ^ c = mod-eq_of_lt (omega arith) in
    rw (e, f, g, one, small)

div_small : (x m : ℕ) → x < m → x / m ≡ 0
div_small x m h =
    let q : x / m < 1 = (div-lt_iff_lt-mul {k = m} {x = x} {y = 1} (omega arith)).1 (omega arith) in
    omega arith

-- a rotation left by c and one by the rest of the width undo each other
pub rotated-rotated : (n x c : ℕ) → x < 2 ^ n → c ≤ n → rotated n (rotated n x c) (n - c) ≡ x
rotated-rotated n x c fits within =
    let d : n - (n - c) ≡ c = omega arith in
    let e = pow-split n c within in
    let fits' : x < 2 ^ c * 2 ^ (n - c) = subst (λ k. x < k) (sym e) fits in
    let high : x / 2 ^ (n - c) < 2 ^ c = (div-lt_iff_lt-mul {k = 2 ^ (n - c)} {x = x} {y = 2 ^ c} (pow_pos (n - c))).1 fits' in
    let low : x / 2 ^ (n - c) / 2 ^ c ≡ 0 = div_small (x / 2 ^ (n - c)) (2 ^ c) high in
    let last : rotated n x c % 2 ^ c ≡ x / 2 ^ (n - c) = mul-add-mod_self_right (x % 2 ^ (n - c)) (2 ^ c) (x / 2 ^ (n - c)) ∙ mod-eq_of_lt high in
    let first : rotated n x c / 2 ^ c ≡ x % 2 ^ (n - c) = mul-add-div_right (pow_pos c) (x % 2 ^ (n - c)) (x / 2 ^ (n - c)) ∙ rw (low, add-zero) refl in
    rw (d, last, first) (div-add-mod' x (2 ^ (n - c)))
