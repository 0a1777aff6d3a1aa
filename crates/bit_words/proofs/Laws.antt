-- Laws of words and of the operators, each once over the width.
use Rattle.std.proofs.Common.{◌≡◌, ℕ, ◌+◌, ◌-◌, ◌*◌, ◌/◌, ◌%◌, ◌^◌, ◌<◌, ◌≤◌, min, Bool, true, false, cond, refl, sym, ap, ◌∙◌, arith, ltb, eqb, ◌==◌, ℤ, pos, negsuc, ◌*ℤ◌, lit<}
use Rattle.std.proofs.lemmas.Nat.{pow_pos, or_lt, xor_lt, and_le_l, shr_le, trailing_le, mul-le, and_mask, div-add-mod'}
use Rattle.std.proofs.Math.Nat.{mod-lt, mod-eq_of_lt, div-lt_iff_lt-mul, zero-mod, pow-le-pow_right, mul-mod_left, mod-mod}
use Rattle.std.proofs.lemmas.Nat.Bits.{and_high_mask}
use Rattle.std.specs.Int.{leading_zeros, trailing_zeros, w32}
use Rattle.std.specs.Int.Bits.{and_self, and_zero_r, xor_self}
use Rattle.std.proofs.Math.Pow.{mod-mod-pow}
use Rattle.bit_words.specs.declared.width.Width.{Width}
use Rattle.bit_words.specs.declared.width.Width.TheVariants.{B8, B16, B32}
use Rattle.bit_words.specs.declared.op.Op.{Op}
use Rattle.bit_words.specs.declared.op.Op.TheVariants.{Add, Sub, And, Or, Xor, Not, Neg, Mul, HighU, HighS, Shl, Shr, Sar, Rol, Ror, Eq, Ult, Low8, High8, Low16, PutLow8, PutHigh8, PutLow16, Sign8, Sign16, Swap, LowBit, HighBit}
use Rattle.bit_words.specs.Width.{bits_of, cut, signed_of, modulo}
use Rattle.bit_words.specs.Operators.{apply_op, formula, one_if, takes_count, operand, rotated, shifted_down}
use Rattle.bit_words.proofs.Words.{rotated-lt, rotated-rotated, bits_of-pos}

-- ---- cutting

pub cut-lt : (w : Width) (n : ℕ) → cut w n < 2 ^ bits_of w
cut-lt w n = mod-lt n (pow_pos (bits_of w))

pub cut_fit : (w : Width) (n : ℕ) → n < 2 ^ bits_of w → cut w n ≡ n
cut_fit w n h = mod-eq_of_lt h

pub cut-cut : (w : Width) (n : ℕ) → cut w (cut w n) ≡ cut w n
cut-cut w n = cut_fit w (cut w n) (cut-lt w n)

pub modulo-lt : (z : ℤ) (k : ℕ) → modulo z (2 ^ k) < 2 ^ k
modulo-lt (pos n) k = mod-lt n (pow_pos k)
modulo-lt (negsuc n) k = let p = pow_pos k in omega arith

one_if-lt : (t : Bool) (w : Width) → one_if t < 2 ^ bits_of w
one_if-lt true B8 = lit< tt
one_if-lt true B16 = lit< tt
one_if-lt true B32 = lit< tt
one_if-lt false w = pow_pos (bits_of w)

high_unsigned-lt : (w : Width) (x y : ℕ) → x < 2 ^ bits_of w → y < 2 ^ bits_of w → x * y / 2 ^ bits_of w < 2 ^ bits_of w
high_unsigned-lt w x y p q = (div-lt_iff_lt-mul {k = 2 ^ bits_of w} {x = x * y} {y = 2 ^ bits_of w} (pow_pos (bits_of w))).1 (grind (arith, mul-le))

high_signed-lt : (w : Width) (z : ℤ) → modulo z (2 ^ (2 * bits_of w)) / 2 ^ bits_of w < 2 ^ bits_of w
high_signed-lt B8 z = let h = modulo-lt z 16 in omega arith
high_signed-lt B16 z = let h = modulo-lt z 32 in omega arith
high_signed-lt B32 z = let h = modulo-lt z 64 in omega arith

-- the place of a bit, or 0
bit_place-lt : (w : Width) (none : Bool) (place : ℕ) → place ≤ 32 → cond none 0 place < 2 ^ bits_of w
bit_place-lt w true place small = pow_pos (bits_of w)
bit_place-lt B8 false place small = omega arith
bit_place-lt B16 false place small = omega arith
bit_place-lt B32 false place small = omega arith

-- a formula's value fits the width, where its first operand does, and its second where it is no count
pub formula-lt : (op : Op) (w : Width) (x y : ℕ) → x < 2 ^ bits_of w → (takes_count op ≡ false → y < 2 ^ bits_of w) → formula op w x y < 2 ^ bits_of w
unfolding formula
formula-lt Add w x y p q = cut-lt w (x + y)
formula-lt Sub w x y p q = cut-lt w (x + (2 ^ bits_of w - y))
formula-lt And w x y p q = let h = and_le_l x y in omega arith
formula-lt Or w x y p q = or_lt (bits_of w) x y p (q refl)
formula-lt Xor w x y p q = xor_lt (bits_of w) x y p (q refl)
formula-lt Not w x y p q = omega arith
formula-lt Neg w x y p q = cut-lt w (2 ^ bits_of w - x)
formula-lt Mul w x y p q = cut-lt w (x * y)
formula-lt HighU w x y p q = high_unsigned-lt w x y p (q refl)
formula-lt HighS w x y p q = high_signed-lt w (signed_of w x *ℤ signed_of w y)
formula-lt Shl w x y p q = cut-lt w (x * 2 ^ min y (bits_of w))
formula-lt Shr w x y p q = let h = shr_le x (min y (bits_of w)) in omega arith
formula-lt Sar w x y p q = modulo-lt (shifted_down (signed_of w x) (min y (bits_of w))) (bits_of w)
formula-lt Rol w x y p q = let h = mod-lt y {m = bits_of w} (bits_of-pos w) in rotated-lt (bits_of w) x (y % bits_of w) p (omega arith)
formula-lt Ror w x y p q = rotated-lt (bits_of w) x (bits_of w - y % bits_of w) p (omega arith)
formula-lt Eq w x y p q = one_if-lt (eqb x y) w
formula-lt Ult w x y p q = one_if-lt (ltb x y) w
formula-lt Low8 w x y p q = omega arith
formula-lt High8 w x y p q = omega arith
formula-lt Low16 w x y p q = omega arith
formula-lt PutLow8 w x y p q = cut-lt w _
formula-lt PutHigh8 w x y p q = cut-lt w _
formula-lt PutLow16 w x y p q = cut-lt w _
formula-lt Sign8 w x y p q = modulo-lt (signed_of B8 x) (bits_of w)
formula-lt Sign16 w x y p q = modulo-lt (signed_of B16 x) (bits_of w)
formula-lt Swap w x y p q = cut-lt w _
formula-lt LowBit w x y p q = bit_place-lt w (x == 0) (trailing_zeros w32 x) (trailing_le 32 x)
formula-lt HighBit w x y p q = bit_place-lt w (x == 0) (31 - leading_zeros w32 x) (omega arith)

operand-lt : (op : Op) (w : Width) (b : ℕ) → takes_count op ≡ false → operand op w b < 2 ^ bits_of w
operand-lt op w b e = rw e (cut-lt w b)

-- an operator's value fits the width
pub apply-lt : (op : Op) (w : Width) (a b : ℕ) → apply_op op w a b < 2 ^ bits_of w
unfolding apply_op
apply-lt op w a b = formula-lt op w (cut w a) (operand op w b) (cut-lt w a) (operand-lt op w b)

-- ---- an operand counts by its low bits alone

pub apply-cut_left : (op : Op) (w : Width) (a b : ℕ) → apply_op op w (cut w a) b ≡ apply_op op w a b
unfolding apply_op
apply-cut_left op w a b = ap (λ x. formula op w x (operand op w b)) (cut-cut w a)

pub apply-cut_right : (op : Op) (w : Width) (a b : ℕ) → takes_count op ≡ false → apply_op op w a (cut w b) ≡ apply_op op w a b
unfolding apply_op
apply-cut_right op w a b e = ap (formula op w (cut w a)) (rw e (cut-cut w b))

-- ---- sums and differences modulo 2 ^ bits

pub add-add : (w : Width) (a b c : ℕ) → apply_op Add w (apply_op Add w a b) c ≡ cut w (a + b + c)
unfolding apply_op formula
add-add B8 a b c = omega arith
add-add B16 a b c = omega arith
add-add B32 a b c = omega arith

pub add-sub : (w : Width) (a b : ℕ) → apply_op Add w (apply_op Sub w a b) b ≡ cut w a
unfolding apply_op formula
add-sub B8 a b = omega arith
add-sub B16 a b = omega arith
add-sub B32 a b = omega arith

pub sub-add : (w : Width) (a b : ℕ) → apply_op Sub w (apply_op Add w a b) b ≡ cut w a
unfolding apply_op formula
sub-add B8 a b = omega arith
sub-add B16 a b = omega arith
sub-add B32 a b = omega arith

pub neg-sub : (w : Width) (a b : ℕ) → apply_op Neg w a b ≡ apply_op Sub w 0 a
unfolding apply_op formula
neg-sub B8 a b = omega arith
neg-sub B16 a b = omega arith
neg-sub B32 a b = omega arith

-- ---- comparisons and logic, with no cut left

pub apply-Eq : (w : Width) (a b : ℕ) → apply_op Eq w a b ≡ one_if (eqb (cut w a) (cut w b))
unfolding apply_op formula
apply-Eq w a b = refl

pub apply-Ult : (w : Width) (a b : ℕ) → apply_op Ult w a b ≡ one_if (ltb (cut w a) (cut w b))
unfolding apply_op formula
apply-Ult w a b = refl

pub xor-same : (w : Width) (a : ℕ) → apply_op Xor w a a ≡ 0
unfolding apply_op formula
xor-same w a = xor_self (cut w a)

pub sub-same : (w : Width) (a : ℕ) → apply_op Sub w a a ≡ 0
unfolding apply_op formula
sub-same B8 a = omega arith
sub-same B16 a = omega arith
sub-same B32 a = omega arith

pub and-same : (w : Width) (a : ℕ) → apply_op And w a a ≡ cut w a
unfolding apply_op formula
and-same w a = and_self (cut w a)

-- ---- masks by a power of two

pub and-zero : (w : Width) (a : ℕ) → apply_op And w a 0 ≡ 0
unfolding apply_op formula
and-zero w a = rw (zero-mod (2 ^ bits_of w)) (and_zero_r (cut w a))

pub and-low_mask : (w : Width) (a k : ℕ) → k ≤ bits_of w → apply_op And w a (2 ^ k - 1) ≡ a % 2 ^ k
unfolding apply_op formula
and-low_mask w a k h =
    let le : 2 ^ k ≤ 2 ^ bits_of w = pow-le-pow_right (lit< tt) h in
    let p = pow_pos k in
    let e : cut w (2 ^ k - 1) ≡ 2 ^ k - 1 = cut_fit w (2 ^ k - 1) (omega arith) in
    let j : (bits_of w - k) + k ≡ bits_of w = omega arith in
    rw (e, and_mask) (ap (λ n. a % 2 ^ n % 2 ^ k) (sym j) ∙ mod-mod-pow a (bits_of w - k) k)

pub and-high_mask : (w : Width) (a k : ℕ) → k ≤ bits_of w → apply_op And w a (2 ^ bits_of w - 2 ^ k) ≡ cut w a / 2 ^ k * 2 ^ k
unfolding apply_op formula
and-high_mask w a k h =
    let p = pow_pos k in
    let q = pow_pos (bits_of w) in
    let e : cut w (2 ^ bits_of w - 2 ^ k) ≡ 2 ^ bits_of w - 2 ^ k = cut_fit w _ (omega arith) in
    rw e (and_high_mask (bits_of w) k h (cut w a) (cut-lt w a))

pub and-ones : (w : Width) (a : ℕ) → apply_op And w a (2 ^ bits_of w - 1) ≡ cut w a
and-ones w a = and-low_mask w a (bits_of w) (omega arith)

-- ---- parts, at 32 bits

pub low8-put_low8 : (a b : ℕ) → apply_op Low8 B32 (apply_op PutLow8 B32 a b) 0 ≡ b % 2 ^ 8
unfolding apply_op formula
low8-put_low8 a b = omega arith

pub high8-put_low8 : (a b : ℕ) → apply_op High8 B32 (apply_op PutLow8 B32 a b) 0 ≡ apply_op High8 B32 a 0
unfolding apply_op formula
high8-put_low8 a b = omega arith

pub high8-put_high8 : (a b : ℕ) → apply_op High8 B32 (apply_op PutHigh8 B32 a b) 0 ≡ b % 2 ^ 8
unfolding apply_op formula
high8-put_high8 a b = omega arith

pub low8-put_high8 : (a b : ℕ) → apply_op Low8 B32 (apply_op PutHigh8 B32 a b) 0 ≡ apply_op Low8 B32 a 0
unfolding apply_op formula
low8-put_high8 a b = omega arith

pub low16-put_low16 : (a b : ℕ) → apply_op Low16 B32 (apply_op PutLow16 B32 a b) 0 ≡ b % 2 ^ 16
unfolding apply_op formula
low16-put_low16 a b = omega arith

-- what a put leaves, and what it wrote, make the word again
pub put_low8-low8 : (a : ℕ) → apply_op PutLow8 B32 a (apply_op Low8 B32 a 0) ≡ cut B32 a
unfolding apply_op formula
put_low8-low8 a = omega arith

pub put_high8-high8 : (a : ℕ) → apply_op PutHigh8 B32 a (apply_op High8 B32 a 0) ≡ cut B32 a
unfolding apply_op formula
put_high8-high8 a = omega arith

pub put_low16-low16 : (a : ℕ) → apply_op PutLow16 B32 a (apply_op Low16 B32 a 0) ≡ cut B32 a
unfolding apply_op formula
put_low16-low16 a = omega arith

pub swap-swap : (a : ℕ) → apply_op Swap B32 (apply_op Swap B32 a 0) 0 ≡ cut B32 a
unfolding apply_op formula
swap-swap a = omega arith

-- ---- shifts by the width or more, and rotations by any count

pub shl-past : (w : Width) (a c : ℕ) → bits_of w ≤ c → apply_op Shl w a c ≡ 0
unfolding apply_op formula
shl-past w a c h =
    let e : min c (bits_of w) ≡ bits_of w = omega arith in
    rw e (mul-mod_left (cut w a) (2 ^ bits_of w))

pub shr-past : (w : Width) (a c : ℕ) → bits_of w ≤ c → apply_op Shr w a c ≡ 0
unfolding apply_op formula
shr-past B8 a c h = let e : min c 8 ≡ 8 = omega arith in rw e (omega arith)
shr-past B16 a c h = let e : min c 16 ≡ 16 = omega arith in rw e (omega arith)
shr-past B32 a c h = let e : min c 32 ≡ 32 = omega arith in rw e (omega arith)

pub rol-mod : (w : Width) (a c : ℕ) → apply_op Rol w a (c % bits_of w) ≡ apply_op Rol w a c
unfolding apply_op formula
rol-mod w a c = ap (rotated (bits_of w) (cut w a)) (mod-mod c (bits_of w))

pub ror-mod : (w : Width) (a c : ℕ) → apply_op Ror w a (c % bits_of w) ≡ apply_op Ror w a c
unfolding apply_op formula
ror-mod w a c = ap (λ k. rotated (bits_of w) (cut w a) (bits_of w - k)) (mod-mod c (bits_of w))

pub ror-rol : (w : Width) (a c : ℕ) → apply_op Ror w (apply_op Rol w a c) c ≡ cut w a
unfolding apply_op formula
ror-rol w a c =
    let k = c % bits_of w in
    let h : k ≤ bits_of w = let m = mod-lt c {m = bits_of w} (bits_of-pos w) in omega arith in
    let e : cut w (rotated (bits_of w) (cut w a) k) ≡ rotated (bits_of w) (cut w a) k = cut_fit w _ (rotated-lt (bits_of w) (cut w a) k (cut-lt w a) h) in
    rw e (rotated-rotated (bits_of w) (cut w a) k (cut-lt w a) h)

-- ---- products

pub high_u-mul : (w : Width) (a b : ℕ) → apply_op HighU w a b * 2 ^ bits_of w + apply_op Mul w a b ≡ cut w a * cut w b
unfolding apply_op formula
high_u-mul w a b = div-add-mod' (cut w a * cut w b) (2 ^ bits_of w)
