-- Facts on words of a width: what flags follow from operators.
use Rattle.std.proofs.Common.{◌≡◌, ℕ, ◌+◌, ◌-◌, ◌<◌, ◌≤◌, ◌%◌, ◌^◌, Bool, true, false, not, ◌==◌, refl, sym, ◌∙◌, ap, arith}
use Rattle.std.specs.Prelude.{nat_lt, if◌then◌else◌, ℤ, pos, ◌-ℤ◌}
use Rattle.std.specs.Int.Bits.{or_self}
use Rattle.std.proofs.lemmas.Bool.Decides.{nat_tests}
use Rattle.std.proofs.lemmas.Int.{ints}
use Rattle.bit_words.specs.declared.width.Width.{Width}
use Rattle.bit_words.specs.declared.width.Width.TheVariants.{B8, B16, B32}
use Rattle.bit_words.specs.declared.op.Op.TheVariants.{Sub, And, Or, Xor, Neg, Eq, Ult, Low8, High8, Low16}
use Rattle.bit_words.specs.Width.{bits_of, cut, signed_of, is_signed}
use Rattle.bit_words.specs.Operators.{apply_op, formula, one_if}
use Rattle.bit_words.specs.Flags.{difference_of, difference_flags, flags_by}
use Rattle.bit_words.proofs.Laws.{apply-Eq, apply-Ult, cut_fit, cut-lt, neg-sub, sub-same, and-same, xor-same}
use Rattle.x86_semantics.specs.Registers.{byte_part}
use Rattle.bit_words.proofs.FlagLaws.{apply-Sub, difference-equal, difference-below}

pub zero_fits : (w : Width) → 0 < 2 ^ bits_of w
zero_fits B8 = omega arith
zero_fits B16 = omega arith
zero_fits B32 = omega arith

pub one_fits : (w : Width) → 1 < 2 ^ bits_of w
one_fits B8 = omega arith
one_fits B16 = omega arith
one_fits B32 = omega arith

-- a word of a width is one of 32 bits
pub word_fits : (w : Width) (x : ℕ) → x < 2 ^ bits_of w → x < 2 ^ 32
word_fits B8 x less = omega arith
word_fits B16 x less = omega arith
word_fits B32 x less = less

one_if_not_zero : (b : Bool) → not (one_if b == 0) ≡ b
one_if_not_zero true = refl
one_if_not_zero false = refl

-- ---- the tests by operators

pub eq_is : (w : Width) (x y : ℕ) → not (apply_op Eq w x y == 0) ≡ (cut w x == cut w y)
eq_is w x y = ap (λ n. not (n == 0)) (apply-Eq w x y) ∙ one_if_not_zero (cut w x == cut w y)

pub ult_is : (w : Width) (x y : ℕ) → not (apply_op Ult w x y == 0) ≡ nat_lt (cut w x) (cut w y)
ult_is w x y = ap (λ n. not (n == 0)) (apply-Ult w x y) ∙ one_if_not_zero (nat_lt (cut w x) (cut w y))

-- a word is 0 where it equals 0
pub eq_zero : (w : Width) (r : ℕ) → r < 2 ^ bits_of w → not (apply_op Eq w r 0 == 0) ≡ (r == 0)
eq_zero w r less = eq_is w r 0 ∙ ap (λ n. n == cut w 0) (cut_fit w r less) ∙ ap (λ n. r == n) (cut_fit w 0 (zero_fits w))

-- ---- a difference

-- ZF and CF of a comparison, by the operators
pub difference_equal : (w : Width) (x y : ℕ) → (difference_flags w x y false).zero ≡ not (apply_op Eq w x y == 0)
difference_equal w x y = difference-equal w x y ∙ sym (eq_is w x y)

pub difference_carry : (w : Width) (x y : ℕ) → (difference_flags w x y false).carry ≡ not (apply_op Ult w x y == 0)
difference_carry w x y = difference-below w x y ∙ sym (ult_is w x y)

above_zero : (n : ℕ) → nat_lt 0 n ≡ not (n == 0)
above_zero n = grind (arith, nat_tests)

-- CF of NEG: whether the operand is not 0
pub negation_carry : (w : Width) (x : ℕ) → (difference_flags w 0 x false).carry ≡ not (not (apply_op Eq w x 0 == 0))
negation_carry w x =
    let zero = cut_fit w 0 (zero_fits w) in
    difference-below w 0 x ∙ ap (λ n. nat_lt n (cut w x)) zero ∙ above_zero (cut w x) ∙ ap (λ n. not (cut w x == n)) (sym zero) ∙ ap not (sym (eq_is w x 0))

-- the negation of a word is 0 less it
pub negation_is : (w : Width) (x y : ℕ) → apply_op Neg w x y ≡ difference_of w 0 x false
negation_is w x y = neg-sub w x y ∙ apply-Sub w 0 x

-- ---- a word with itself is as 0 with 0

pub sub_itself : (w : Width) (x : ℕ) → apply_op Sub w x x ≡ apply_op Sub w 0 0
sub_itself w x = sub-same w x ∙ sym (sub-same w 0)

pub xor_itself : (w : Width) (x : ℕ) → apply_op Xor w x x ≡ apply_op Xor w 0 0
xor_itself w x = xor-same w x ∙ sym (xor-same w 0)

not_below : (a k : ℕ) → nat_lt a (a + k) ≡ nat_lt 0 (0 + k)
not_below a k = grind (arith, nat_tests)

less_itself : (n a k : ℕ) → a < n → k ≤ 1 → (a + (n - (a + k))) % n ≡ (0 + (n - (0 + k))) % n
less_itself n a k less small = let e : a + (n - (a + k)) ≡ 0 + (n - (0 + k)) = omega arith in ap (λ m. m % n) e

one_if_small : (c : Bool) → one_if c ≤ 1
one_if_small true = omega arith
one_if_small false = omega arith

pub difference_itself : (w : Width) (x : ℕ) (c : Bool) → difference_of w x x c ≡ difference_of w 0 0 c
difference_itself w x c =
    let zero = cut_fit w 0 (zero_fits w) in
    less_itself (2 ^ bits_of w) (cut w x) (one_if c) (cut-lt w x) (one_if_small c)
    ∙ ap (λ n. (n + (2 ^ bits_of w - (n + one_if c))) % 2 ^ bits_of w) (sym zero)

none_left : (x z : ℤ) → x -ℤ x -ℤ z ≡ pos 0 -ℤ pos 0 -ℤ z
none_left x z = omega (arith, ints)

pub flags_itself : (w : Width) (x : ℕ) (c : Bool) → difference_flags w x x c ≡ difference_flags w 0 0 c
unfolding difference_flags
flags_itself w x c =
    let zero = cut_fit w 0 (zero_fits w) in
    let carry = not_below (cut w x) (one_if c) ∙ ap (λ n. nat_lt n (n + one_if c)) (sym zero) in
    let adjust = not_below (x % 16) (one_if c) in
    let signed = none_left (signed_of w x) (pos (one_if c)) ∙ sym (none_left (signed_of w 0) (pos (one_if c))) in
    ap (λ r. flags_by w r (nat_lt (cut w x) (cut w x + one_if c)) (nat_lt (x % 16) (x % 16 + one_if c)) (not (is_signed w (signed_of w x -ℤ signed_of w x -ℤ pos (one_if c))))) (difference_itself w x c)
    ∙ ap (λ b. flags_by w (difference_of w 0 0 c) b (nat_lt (x % 16) (x % 16 + one_if c)) (not (is_signed w (signed_of w x -ℤ signed_of w x -ℤ pos (one_if c))))) carry
    ∙ ap (λ b. flags_by w (difference_of w 0 0 c) (nat_lt (cut w 0) (cut w 0 + one_if c)) b (not (is_signed w (signed_of w x -ℤ signed_of w x -ℤ pos (one_if c))))) adjust
    ∙ ap (λ z. flags_by w (difference_of w 0 0 c) (nat_lt (cut w 0) (cut w 0 + one_if c)) (nat_lt 0 (0 + one_if c)) (not (is_signed w z))) signed

-- AND and OR of a word with itself give the word
pub and_itself : (w : Width) (x : ℕ) → x < 2 ^ bits_of w → apply_op And w x x ≡ x
and_itself w x less = and-same w x ∙ cut_fit w x less

pub or_itself : (w : Width) (x : ℕ) → x < 2 ^ bits_of w → apply_op Or w x x ≡ x
unfolding apply_op formula
or_itself w x less = or_self (cut w x) ∙ cut_fit w x less

-- ---- parts of a word of 32 bits

pub low_byte_fits : (x y : ℕ) → apply_op Low8 B32 x y < 2 ^ 8
unfolding apply_op formula
low_byte_fits x y = omega arith

pub high_byte_fits : (x y : ℕ) → apply_op High8 B32 x y < 2 ^ 8
unfolding apply_op formula
high_byte_fits x y = omega arith

pub byte_fits : (r x y : ℕ) → apply_op (byte_part r) B32 x y < 2 ^ 8
byte_fits r x y = elim (nat_lt r 4) as (λ b. apply_op (if b then Low8 else High8) B32 x y < 2 ^ 8) [ true ↦ low_byte_fits x y | false ↦ high_byte_fits x y ]

pub low_word_fits : (x y : ℕ) → apply_op Low16 B32 x y < 2 ^ 16
unfolding apply_op formula
low_word_fits x y = omega arith

-- a count of places that is taken modulo 32 is a word of any width
pub count_fits : (w : Width) (n : ℕ) → n % 32 < 2 ^ bits_of w
count_fits B8 n = omega arith
count_fits B16 n = omega arith
count_fits B32 n = omega arith

-- a carry is one
pub carry_fits : (w : Width) (c : Bool) → one_if c < 2 ^ bits_of w
carry_fits w true = one_fits w
carry_fits w false = zero_fits w
