-- Words and the integers that they stand for; the operators that the manual states over signed numbers.
use Rattle.std.proofs.Common.{◌≡◌, ℕ, suc, ◌+◌, ◌-◌, ◌*◌, ◌/◌, ◌%◌, ◌^◌, ◌<◌, ◌≤◌, min, Bool, true, false, refl, sym, ap, ◌∙◌, subst, arith, ltb, if◌then◌else◌, ℤ, pos, negsuc, ◌*ℤ◌, lit<, lit≤}
use Rattle.std.proofs.lemmas.Nat.{pow_pos, div-add-mod', shr_le}
use Rattle.std.proofs.lemmas.Bool.{ltb-true, ltb-false, lt-ltb, le-ltb}
use Rattle.std.proofs.lemmas.Int.{wrapping_mul-bits, of_z-to_z}
use Rattle.std.proofs.Math.Pow.{mod-mod-pow}
use Rattle.std.specs.Int.{Width as Machine, w8, w16, w32, cast_signed, cast_unsigned, int_rem_euclid, int_wrap}
use Rattle.std.specs.Prelude.{unsigned_abs}
use Rattle.std.proofs.Math.Nat.{mod-lt, mod-eq_of_lt, div-lt_iff_lt-mul, pow-le-pow_right, zero-mod}
use Rattle.bit_words.specs.declared.width.Width.{Width}
use Rattle.bit_words.specs.declared.width.Width.TheVariants.{B8, B16, B32}
use Rattle.bit_words.specs.declared.op.Op.TheVariants.{Mul, HighS, Sar, Sign8, Sign16}
use Rattle.bit_words.specs.Width.{bits_of, cut, signed_of, modulo, word_of, is_signed}
use Rattle.bit_words.specs.Operators.{apply_op, formula, shifted_down}
use mir.Val.{bits}
use Rattle.bit_words.proofs.Laws.{cut-lt, cut-cut, modulo-lt}

-- two's complement of a word x of m values, where the test t says that its top bit is clear
abbrev pub complement : Bool → ℕ → ℕ → ℤ
complement t m x = if t then pos x else negsuc (m - 1 - x)

word_back : (t : Bool) (m x : ℕ) → x < m → modulo (complement t m x) m ≡ x
word_back true m x h = mod-eq_of_lt h
word_back false m x h =
    let e : (m - 1 - x) % m ≡ m - 1 - x = mod-eq_of_lt (omega arith) in
    rw e (omega arith)

-- a word is the word of the integer that it stands for
pub word_of-signed_of : (w : Width) (n : ℕ) → word_of w (signed_of w n) ≡ cut w n
word_of-signed_of w n = word_back (ltb (cut w n) (2 ^ (bits_of w - 1))) (2 ^ bits_of w) (cut w n) (cut-lt w n)

signed_back-pos : (m h n : ℕ) → m ≡ h + h → ltb n h ≡ true → complement (ltb (n % m % m) h) m (n % m % m) ≡ pos n
signed_back-pos m h n e t =
    let lt = ltb-true n h t in
    let a : n % m ≡ n = mod-eq_of_lt (omega arith) in
    rw (a, a, t)

signed_back-neg : (m h k : ℕ) → m ≡ h + h → ltb k h ≡ true → complement (ltb ((m - 1 - k % m) % m) h) m ((m - 1 - k % m) % m) ≡ negsuc k
signed_back-neg m h k e t =
    let lt = ltb-true k h t in
    let a : k % m ≡ k = mod-eq_of_lt (omega arith) in
    let b : (m - 1 - k) % m ≡ m - 1 - k = mod-eq_of_lt (omega arith) in
    let f : ltb (m - 1 - k) h ≡ false = le-ltb (m - 1 - k) h (omega arith) in
    let g : m - 1 - (m - 1 - k) ≡ k = omega arith in
    rw (a, b, f) (ap negsuc g)

-- a signed number of the width is the integer that its word stands for
pub signed_of-word_of : (w : Width) (z : ℤ) → is_signed w z ≡ true → signed_of w (word_of w z) ≡ z
signed_of-word_of B8 (pos n) t = signed_back-pos (2 ^ 8) (2 ^ 7) n refl t
signed_of-word_of B8 (negsuc n) t = signed_back-neg (2 ^ 8) (2 ^ 7) n refl t
signed_of-word_of B16 (pos n) t = signed_back-pos (2 ^ 16) (2 ^ 15) n refl t
signed_of-word_of B16 (negsuc n) t = signed_back-neg (2 ^ 16) (2 ^ 15) n refl t
signed_of-word_of B32 (pos n) t = signed_back-pos (2 ^ 32) (2 ^ 31) n refl t
signed_of-word_of B32 (negsuc n) t = signed_back-neg (2 ^ 32) (2 ^ 31) n refl t

double : (w : Width) → 2 ^ bits_of w ≡ 2 ^ (bits_of w - 1) + 2 ^ (bits_of w - 1)
double B8 = refl
double B16 = refl
double B32 = refl

is_signed-complement : (w : Width) (x : ℕ) (t : Bool) → ltb x (2 ^ (bits_of w - 1)) ≡ t → x < 2 ^ bits_of w → is_signed w (complement t (2 ^ bits_of w) x) ≡ true
is_signed-complement w x true e h = e
is_signed-complement w x false e h =
    let d = double w in
    let le = ltb-false x (2 ^ (bits_of w - 1)) e in
    lt-ltb (2 ^ bits_of w - 1 - x) (2 ^ (bits_of w - 1)) (omega arith)

-- what a word stands for is a signed number of the width
pub is_signed-signed_of : (w : Width) (n : ℕ) → is_signed w (signed_of w n) ≡ true
is_signed-signed_of w n = is_signed-complement w (cut w n) (ltb (cut w n) (2 ^ (bits_of w - 1))) refl (cut-lt w n)

test_more : (n h k : ℕ) → h ≤ k → ltb n h ≡ true → ltb n k ≡ true
test_more n h k le t = let lt = ltb-true n h t in lt-ltb n k (omega arith)

-- a signed number of a width is one of each greater width
pub is_signed-wider : (v w : Width) (z : ℤ) → bits_of v ≤ bits_of w → is_signed v z ≡ true → is_signed w z ≡ true
is_signed-wider v w (pos n) le t = test_more n (2 ^ (bits_of v - 1)) (2 ^ (bits_of w - 1)) (pow-le-pow_right (lit< tt) (omega arith)) t
is_signed-wider v w (negsuc n) le t = test_more n (2 ^ (bits_of v - 1)) (2 ^ (bits_of w - 1)) (pow-le-pow_right (lit< tt) (omega arith)) t

cut-cut_wider : (v w : Width) (n : ℕ) → bits_of v ≤ bits_of w → cut v (cut w n) ≡ cut v n
cut-cut_wider v w n le =
    let j : (bits_of w - bits_of v) + bits_of v ≡ bits_of w = omega arith in
    ap (λ k. n % 2 ^ k % 2 ^ bits_of v) (sym j) ∙ mod-mod-pow n (bits_of w - bits_of v) (bits_of v)

signed_of-cut : (v w : Width) (n : ℕ) → bits_of v ≤ bits_of w → signed_of v (cut w n) ≡ signed_of v n
signed_of-cut v w n le = ap (λ x. complement (ltb x (2 ^ (bits_of v - 1))) (2 ^ bits_of v) x) (cut-cut_wider v w n le)

extended : (v w : Width) (n : ℕ) → bits_of v ≤ bits_of w → signed_of w (word_of w (signed_of v (cut w n))) ≡ signed_of v n
extended v w n le =
    rw (signed_of-cut v w n le) (signed_of-word_of w (signed_of v n) (is_signed-wider v w (signed_of v n) le (is_signed-signed_of v n)))

-- ---- sign extension keeps the signed number

pub sign8-signed : (w : Width) (a b : ℕ) → signed_of w (apply_op Sign8 w a b) ≡ signed_of B8 a
unfolding apply_op formula
sign8-signed B8 a b = extended B8 B8 a (lit≤ tt)
sign8-signed B16 a b = extended B8 B16 a (lit≤ tt)
sign8-signed B32 a b = extended B8 B32 a (lit≤ tt)

pub sign16-signed : (w : Width) (a b : ℕ) → 16 ≤ bits_of w → signed_of w (apply_op Sign16 w a b) ≡ signed_of B16 a
unfolding apply_op formula
sign16-signed w a b le = extended B16 w a le

-- ---- an arithmetic shift divides the signed number by 2 ^ c, rounded down

is_signed-shifted_down : (w : Width) (z : ℤ) (c : ℕ) → is_signed w z ≡ true → is_signed w (shifted_down z c) ≡ true
is_signed-shifted_down w (pos n) c t =
    let lt = ltb-true n (2 ^ (bits_of w - 1)) t in
    let le = shr_le n c in
    lt-ltb (n / 2 ^ c) (2 ^ (bits_of w - 1)) (omega arith)
is_signed-shifted_down w (negsuc n) c t =
    let lt = ltb-true n (2 ^ (bits_of w - 1)) t in
    let le = shr_le n c in
    lt-ltb (n / 2 ^ c) (2 ^ (bits_of w - 1)) (omega arith)

pub sar-signed : (w : Width) (a c : ℕ) → signed_of w (apply_op Sar w a c) ≡ shifted_down (signed_of w a) (min c (bits_of w))
unfolding apply_op formula
sar-signed w a c =
    let le : bits_of w ≤ bits_of w = omega arith in
    let k = min c (bits_of w) in
    rw (signed_of-cut w w a le) (signed_of-word_of w (shifted_down (signed_of w a) k) (is_signed-shifted_down w (signed_of w a) k (is_signed-signed_of w a)))

-- by the width or more the sign is everywhere
sign_everywhere : (t : Bool) (n x : ℕ) → x < 2 ^ n → modulo (shifted_down (complement t (2 ^ n) x) n) (2 ^ n) ≡ (if t then 0 else 2 ^ n - 1)
sign_everywhere true n x h =
    let q : x / 2 ^ n < 1 = (div-lt_iff_lt-mul {k = 2 ^ n} {x = x} {y = 1} (pow_pos n)).1 (omega arith) in
    let e : x / 2 ^ n ≡ 0 = omega arith in
    rw e (zero-mod (2 ^ n))
sign_everywhere false n x h =
    let q : (2 ^ n - 1 - x) / 2 ^ n < 1 = (div-lt_iff_lt-mul {k = 2 ^ n} {x = 2 ^ n - 1 - x} {y = 1} (pow_pos n)).1 (omega arith) in
    let e : (2 ^ n - 1 - x) / 2 ^ n ≡ 0 = omega arith in
    rw (e, zero-mod) (omega arith)

pub sar-past : (w : Width) (a c : ℕ) → bits_of w ≤ c → apply_op Sar w a c ≡ (if ltb (cut w a) (2 ^ (bits_of w - 1)) then 0 else 2 ^ bits_of w - 1)
unfolding apply_op formula
sar-past w a c h =
    let e : min c (bits_of w) ≡ bits_of w = omega arith in
    rw (e, cut-cut) (sign_everywhere (ltb (cut w a) (2 ^ (bits_of w - 1))) (bits_of w) (cut w a) (cut-lt w a))

-- ---- products of signed numbers

machine : Width → Machine
machine B8 = w8
machine B16 = w16
machine B32 = w32

signed_of-cast : (w : Width) (n : ℕ) → signed_of w n ≡ cast_signed (machine w) (cut w n)
unfolding machine
signed_of-cast B8 n = let e : 2 ^ 8 - 1 - cut B8 n ≡ 2 ^ 8 - suc (cut B8 n) = omega arith in ap (λ k. if ltb (cut B8 n) (2 ^ 7) then pos (cut B8 n) else negsuc k) e
signed_of-cast B16 n = let e : 2 ^ 16 - 1 - cut B16 n ≡ 2 ^ 16 - suc (cut B16 n) = omega arith in ap (λ k. if ltb (cut B16 n) (2 ^ 15) then pos (cut B16 n) else negsuc k) e
signed_of-cast B32 n = let e : 2 ^ 32 - 1 - cut B32 n ≡ 2 ^ 32 - suc (cut B32 n) = omega arith in ap (λ k. if ltb (cut B32 n) (2 ^ 31) then pos (cut B32 n) else negsuc k) e

modulo-is : (z : ℤ) (m : ℕ) → unsigned_abs (int_rem_euclid z (pos m)) ≡ modulo z m
modulo-is (pos n) m = refl
modulo-is (negsuc n) m = refl

modulo_double : (w : Width) (z : ℤ) → modulo z (2 ^ (2 * bits_of w)) % 2 ^ bits_of w ≡ word_of w z
modulo_double B8 (pos n) = omega arith
modulo_double B8 (negsuc n) = omega arith
modulo_double B16 (pos n) = omega arith
modulo_double B16 (negsuc n) = omega arith
modulo_double B32 (pos n) = omega arith
modulo_double B32 (negsuc n) = omega arith

product_bits : (v : Machine) (m n : ℕ) → m < 2 ^ bits v → n < 2 ^ bits v → m * n % 2 ^ bits v ≡ modulo (cast_signed v m *ℤ cast_signed v n) (2 ^ bits v)
unfolding int_wrap
product_bits v m n p q =
    let z = cast_signed v m *ℤ cast_signed v n in
    let below : unsigned_abs (int_rem_euclid z (pos (2 ^ bits v))) < 2 ^ bits v = subst (λ k. k < 2 ^ bits v) (sym (modulo-is z (2 ^ bits v))) (modulo-lt z (bits v)) in
    sym (of_z-to_z v (m * n % 2 ^ bits v) (mod-lt (m * n) (pow_pos (bits v))))
    ∙ ap (cast_unsigned v) (wrapping_mul-bits v m n p q)
    ∙ of_z-to_z v (unsigned_abs (int_rem_euclid z (pos (2 ^ bits v)))) below
    ∙ modulo-is z (2 ^ bits v)

-- the low half of a signed product is that of the unsigned one
pub word_of-product : (w : Width) (a b : ℕ) → word_of w (signed_of w a *ℤ signed_of w b) ≡ cut w (cut w a * cut w b)
unfolding machine
word_of-product B8 a b = rw (signed_of-cast B8 a, signed_of-cast B8 b) (sym (product_bits w8 (cut B8 a) (cut B8 b) (cut-lt B8 a) (cut-lt B8 b)))
word_of-product B16 a b = rw (signed_of-cast B16 a, signed_of-cast B16 b) (sym (product_bits w16 (cut B16 a) (cut B16 b) (cut-lt B16 a) (cut-lt B16 b)))
word_of-product B32 a b = rw (signed_of-cast B32 a, signed_of-cast B32 b) (sym (product_bits w32 (cut B32 a) (cut B32 b) (cut-lt B32 a) (cut-lt B32 b)))

-- the two halves are the product of the signed numbers, in two's complement of twice the width
pub high_s-mul : (w : Width) (a b : ℕ) → apply_op HighS w a b * 2 ^ bits_of w + apply_op Mul w a b ≡ modulo (signed_of w a *ℤ signed_of w b) (2 ^ (2 * bits_of w))
unfolding apply_op formula
high_s-mul w a b =
    let le : bits_of w ≤ bits_of w = omega arith in
    let z = signed_of w a *ℤ signed_of w b in
    let low : cut w (cut w a * cut w b) ≡ modulo z (2 ^ (2 * bits_of w)) % 2 ^ bits_of w = sym (word_of-product w a b) ∙ sym (modulo_double w z) in
    rw (signed_of-cut w w a le, signed_of-cut w w b le, low) (div-add-mod' (modulo z (2 ^ (2 * bits_of w))) (2 ^ bits_of w))
