-- Laws of the flags: a flag reads back as it was packed, and the flags of a difference compare its operands.
use Rattle.std.proofs.Common.{◌≡◌, ℕ, ◌+◌, ◌-◌, ◌%◌, ◌^◌, ◌<◌, Bool, true, false, not, ◌&&◌, eqb, ltb, refl, ap, arith, add-zero}
use Rattle.std.proofs.lemmas.Bool.{and_parts}
use Rattle.std.proofs.lemmas.Bool.Decides.{nat_tests}
use Rattle.bit_words.specs.declared.width.Width.{Width}
use Rattle.bit_words.specs.declared.width.Width.TheVariants.{B8, B16, B32}
use Rattle.bit_words.specs.declared.op.Op.TheVariants.{Add, Sub}
use Rattle.bit_words.specs.Width.{bits_of, cut}
use Rattle.bit_words.specs.Operators.{apply_op, formula, one_if}
use Rattle.bit_words.specs.Flags.{FlagBits, packed, unpacked, sum_of, difference_of, difference_flags}
use Rattle.bit_words.proofs.Laws.{cut-lt}

-- ---- seven flags packed and read back: one computation over all their values

same : Bool → Bool → Bool
same true b = b
same false b = not b

same-eq : (a b : Bool) → same a b ≡ true → a ≡ b
unfolding same
same-eq true true h = refl
same-eq true false h = cc
same-eq false true h = cc
same-eq false false h = refl

both : (Bool → Bool) → Bool
both p = p true && p false

both-at : (p : Bool → Bool) → both p ≡ true → (b : Bool) → p b ≡ true
unfolding both
both-at p h true = (and_parts (p true) (p false) h).0
both-at p h false = (and_parts (p true) (p false) h).1

-- the record of seven flags
of_bools : Bool → Bool → Bool → Bool → Bool → Bool → Bool → FlagBits
of_bools c p a z s o d = record { carry = c; parity = p; adjust = a; zero = z; sign = s; overflow = o; direction = d }

same_flags : FlagBits → FlagBits → Bool
same_flags f g =
    same f.carry g.carry && (same f.parity g.parity && (same f.adjust g.adjust && (same f.zero g.zero && (same f.sign g.sign && (same f.overflow g.overflow && same f.direction g.direction)))))

of_bools-same : (c c' p p' a a' z z' s s' o o' d d' : Bool) → c ≡ c' → p ≡ p' → a ≡ a' → z ≡ z' → s ≡ s' → o ≡ o' → d ≡ d' → of_bools c p a z s o d ≡ of_bools c' p' a' z' s' o' d'
of_bools-same c c' p p' a a' z z' s s' o o' d d' e1 e2 e3 e4 e5 e6 e7 = cc

-- two records of flags are equal where each flag is
pub flags-same : (f g : FlagBits) → f.carry ≡ g.carry → f.parity ≡ g.parity → f.adjust ≡ g.adjust → f.zero ≡ g.zero → f.sign ≡ g.sign → f.overflow ≡ g.overflow → f.direction ≡ g.direction → f ≡ g
unfolding of_bools
flags-same f g c p a z s o d = of_bools-same _ _ _ _ _ _ _ _ _ _ _ _ _ _ c p a z s o d

same_flags-eq : (f g : FlagBits) → same_flags f g ≡ true → f ≡ g
unfolding same_flags
same_flags-eq f g h =
    let h1 = and_parts _ _ h in
    let h2 = and_parts _ _ h1.1 in
    let h3 = and_parts _ _ h2.1 in
    let h4 = and_parts _ _ h3.1 in
    let h5 = and_parts _ _ h4.1 in
    let h6 = and_parts _ _ h5.1 in
    flags-same f g (same-eq f.carry g.carry h1.0) (same-eq f.parity g.parity h2.0) (same-eq f.adjust g.adjust h3.0) (same-eq f.zero g.zero h4.0) (same-eq f.sign g.sign h5.0) (same-eq f.overflow g.overflow h6.0) (same-eq f.direction g.direction h6.1)

back : Bool → Bool → Bool → Bool → Bool → Bool → Bool → Bool
back c p a z s o d = same_flags (unpacked (packed (of_bools c p a z s o d))) (of_bools c p a z s o d)

back_6 : Bool → Bool → Bool → Bool → Bool → Bool → Bool
back_6 c p a z s o = both (back c p a z s o)

back_5 : Bool → Bool → Bool → Bool → Bool → Bool
back_5 c p a z s = both (back_6 c p a z s)

back_4 : Bool → Bool → Bool → Bool → Bool
back_4 c p a z = both (back_5 c p a z)

back_3 : Bool → Bool → Bool → Bool
back_3 c p a = both (back_4 c p a)

back_2 : Bool → Bool → Bool
back_2 c p = both (back_3 c p)

back_1 : Bool → Bool
back_1 c = both (back_2 c)

back_all : both back_1 ≡ true
unfolding both back_1 back_2 back_3 back_4 back_5 back_6 back same_flags same of_bools
back_all = refl

back-at : (c p a z s o d : Bool) → back c p a z s o d ≡ true
unfolding back_1 back_2 back_3 back_4 back_5 back_6
back-at c p a z s o d =
    both-at (back c p a z s o) (both-at (back_6 c p a z s) (both-at (back_5 c p a z) (both-at (back_4 c p a) (both-at (back_3 c p) (both-at (back_2 c) (both-at back_1 back_all c) p) a) z) s) o) d

-- each flag reads back as it was packed
pub unpacked-packed : (f : FlagBits) → unpacked (packed f) ≡ f
unfolding back of_bools
unpacked-packed f = same_flags-eq (unpacked (packed f)) f (back-at f.carry f.parity f.adjust f.zero f.sign f.overflow f.direction)

-- ---- sums and differences by the operators

pub apply-Add : (w : Width) (a b : ℕ) → apply_op Add w a b ≡ sum_of w a b false
unfolding apply_op formula
apply-Add B8 a b = omega arith
apply-Add B16 a b = omega arith
apply-Add B32 a b = omega arith

pub apply-Sub : (w : Width) (a b : ℕ) → apply_op Sub w a b ≡ difference_of w a b false
unfolding apply_op formula
apply-Sub B8 a b = omega arith
apply-Sub B16 a b = omega arith
apply-Sub B32 a b = omega arith

-- ADC is two sums, and SBB two differences
pub add-add_carry : (w : Width) (a b : ℕ) (c : Bool) → apply_op Add w (apply_op Add w a b) (one_if c) ≡ sum_of w a b c
unfolding apply_op formula
add-add_carry B8 a b true = omega arith
add-add_carry B8 a b false = omega arith
add-add_carry B16 a b true = omega arith
add-add_carry B16 a b false = omega arith
add-add_carry B32 a b true = omega arith
add-add_carry B32 a b false = omega arith

pub sub-sub_borrow : (w : Width) (a b : ℕ) (c : Bool) → apply_op Sub w (apply_op Sub w a b) (one_if c) ≡ difference_of w a b c
unfolding apply_op formula
sub-sub_borrow B8 a b true = omega arith
sub-sub_borrow B8 a b false = omega arith
sub-sub_borrow B16 a b true = omega arith
sub-sub_borrow B16 a b false = omega arith
sub-sub_borrow B32 a b true = omega arith
sub-sub_borrow B32 a b false = omega arith

-- ---- the flags of a comparison

difference-zero : (w : Width) (x y : ℕ) → x < 2 ^ bits_of w → y < 2 ^ bits_of w → eqb ((x + (2 ^ bits_of w - (y + 0))) % 2 ^ bits_of w) 0 ≡ eqb x y
difference-zero B8 x y p q = grind (arith, nat_tests)
difference-zero B16 x y p q = grind (arith, nat_tests)
difference-zero B32 x y p q = grind (arith, nat_tests)

-- ZF of a comparison says that the words are equal, and CF that the first is below
pub difference-equal : (w : Width) (a b : ℕ) → (difference_flags w a b false).zero ≡ eqb (cut w a) (cut w b)
unfolding difference_flags
difference-equal w a b = difference-zero w (cut w a) (cut w b) (cut-lt w a) (cut-lt w b)

pub difference-below : (w : Width) (a b : ℕ) → (difference_flags w a b false).carry ≡ ltb (cut w a) (cut w b)
unfolding difference_flags
difference-below w a b = ap (ltb (cut w a)) (add-zero (cut w b))
