-- The three shared rules are right: their result is the operator's value.
use Rattle.std.proofs.Common.{◌≡◌, ℕ, ◌-◌, ◌^◌, ◌<◌, Bool, true, false, ◌||◌, refl, sym, ap, ◌∙◌, arith, subst, Option, Some, None, IfSome, if◌then◌else◌, ◌⊎◌, inl, inr, ⊎_elim, bit_or}
use Rattle.std.specs.Prelude.{⊤}
use Rattle.std.specs.Option.{option_or}
use Rattle.std.proofs.lemmas.Bool.Decides.{nat_tests}
use Rattle.std.proofs.lemmas.Nat.{pow_pos, and_comm, or_comm, or_lt, le_or_r}
use Rattle.bit_words.specs.declared.width.Width.{Width}
use Rattle.bit_words.specs.declared.width.Width.TheVariants.{B32}
use Rattle.bit_words.specs.declared.op.Op.{Op}
use Rattle.bit_words.specs.declared.op.Op.TheVariants.{Add, Sub, And, Or, Not, Neg, Shl, Low8, High8, Low16, Sign8, Sign16, Swap, LowBit, HighBit}
use Rattle.bit_words.specs.Width.{bits_of, cut}
use Rattle.bit_words.specs.Operators.{apply_op, formula}
use Rattle.bit_words.proofs.Laws.{and-zero, cut_fit}
use Rattle.domain_laws.specs.declared.rules.Settled.{Settled}
use Rattle.domain_laws.specs.declared.rules.Settled.TheVariants.{Number, First, Second}
use Rattle.domain_laws.specs.Laws.{IsValueOf}
use Rattle.domain_laws.specs.Rules.{has_one_operand, is_number, by_numbers, by_absorbing_number, by_neutral_number, settled, settled_value}
use Rattle.domain_laws.specs.ResultLaws.{apply-is_value}

-- a number that may be known
abbrev pub Allows : Option ℕ → ℕ → Type 0
Allows (Some n) x = x ≡ n
Allows None x = ⊤

is_number-is : (a : Option ℕ) (k x : ℕ) → is_number a k ≡ true → Allows a x → x ≡ k
is_number-is (Some n) k x e h = h ∙ grind (arith, nat_tests)
is_number-is None k x e h = absurd (cc)

either : (s t : Bool) → (s || t) ≡ true → (s ≡ true) ⊎ (t ≡ true)
either true t e = inl refl
either false t e = inr e

-- a rule with a test
when : (P : Settled → Type 0) (t : Bool) (s : Settled) (o : Option Settled) → (t ≡ true → P s) → IfSome o P → IfSome (if t then Some s else o) P
when P true s o f g = f refl
when P false s o f g = g

-- a rule after another
after : (P : Settled → Type 0) (o q : Option Settled) → IfSome o P → IfSome q P → IfSome (option_or o q) P
after P (Some s) q f g = f
after P None q f g = g

-- what a rule tells is the operator's value
abbrev pub Right : Op → Width → ℕ → ℕ → Settled → Type 0
Right op w x y s = settled_value (λ n. n) x y s ≡ apply_op op w x y

abbrev IsRight : Op → Width → ℕ → ℕ → Option Settled → Type 0
IsRight op w x y o = IfSome o (Right op w x y)

one_operand : (op : Op) (w : Width) (x y z : ℕ) → has_one_operand op ≡ true → apply_op op w x y ≡ apply_op op w x z
unfolding apply_op formula
one_operand Not w x y z e = refl
one_operand Neg w x y z e = refl
one_operand Low8 w x y z e = refl
one_operand High8 w x y z e = refl
one_operand Low16 w x y z e = refl
one_operand Sign8 w x y z e = refl
one_operand Sign16 w x y z e = refl
one_operand Swap w x y z e = refl
one_operand LowBit w x y z e = refl
one_operand HighBit w x y z e = refl
one_operand op w x y z e = absurd (cc)

numbers-right : (op : Op) (w : Width) (a b : Option ℕ) (x y : ℕ) → Allows a x → Allows b y → IsRight op w x y (by_numbers op w a b)
numbers-right op w (Some n) (Some m) x y p q = cc
numbers-right op w (Some n) None x y p q =
    when (Right op w x y) (has_one_operand op) (Number (apply_op op w n 0)) None
    (λ e. let f = one_operand op w n 0 y e in cc)
    tt
numbers-right op w None b x y p q = tt

pub and-comm : (w : Width) (x y : ℕ) → apply_op And w x y ≡ apply_op And w y x
unfolding apply_op formula
and-comm w x y = and_comm (cut w x) (cut w y)

pub or-comm : (w : Width) (x y : ℕ) → apply_op Or w x y ≡ apply_op Or w y x
unfolding apply_op formula
or-comm w x y = or_comm (cut w x) (cut w y)

or-ones : (w : Width) (x : ℕ) → x < 2 ^ bits_of w → apply_op Or w x (2 ^ bits_of w - 1) ≡ 2 ^ bits_of w - 1
unfolding apply_op formula
or-ones w x f =
    let pow = pow_pos (bits_of w) in
    let ones : 2 ^ bits_of w - 1 < 2 ^ bits_of w = omega arith in
    let e = cut_fit w x f in
    let g = cut_fit w (2 ^ bits_of w - 1) ones in
    let low = le_or_r x (2 ^ bits_of w - 1) in
    let high = or_lt (bits_of w) x (2 ^ bits_of w - 1) f ones in
    let is : bit_or x (2 ^ bits_of w - 1) ≡ 2 ^ bits_of w - 1 = omega arith in
    rw (e, g) is

zero_and : (w : Width) (y : ℕ) → apply_op And w 0 y ≡ 0
zero_and w y = and-comm w 0 y ∙ and-zero w y

ones-or : (w : Width) (y : ℕ) → y < 2 ^ bits_of w → apply_op Or w (2 ^ bits_of w - 1) y ≡ 2 ^ bits_of w - 1
ones-or w y g = or-comm w (2 ^ bits_of w - 1) y ∙ or-ones w y g

absorbing-right : (op : Op) (w : Width) (a b : Option ℕ) (x y : ℕ) → Allows a x → Allows b y → x < 2 ^ bits_of w → y < 2 ^ bits_of w → IsRight op w x y (by_absorbing_number op w a b)
absorbing-right And w a b x y p q f g =
    when (Right And w x y) (is_number a 0 || is_number b 0) (Number 0) None
    (λ e. ⊎_elim
    (λ (h : is_number a 0 ≡ true). let k = is_number-is a 0 x h p in sym (ap (λ n. apply_op And w n y) k ∙ zero_and w y))
    (λ (h : is_number b 0 ≡ true). let k = is_number-is b 0 y h q in sym (ap (λ n. apply_op And w x n) k ∙ and-zero w x))
    (either (is_number a 0) (is_number b 0) e))
    tt
absorbing-right Or w a b x y p q f g =
    let ones : ℕ = 2 ^ bits_of w - 1 in
    when (Right Or w x y) (is_number a (2 ^ bits_of w - 1) || is_number b (2 ^ bits_of w - 1)) (Number (2 ^ bits_of w - 1)) None
    (λ e. ⊎_elim
    (λ (h : is_number a (2 ^ bits_of w - 1) ≡ true). let k = is_number-is a (2 ^ bits_of w - 1) x h p in sym (ap (λ n. apply_op Or w n y) k ∙ ones-or w y g))
    (λ (h : is_number b (2 ^ bits_of w - 1) ≡ true). let k = is_number-is b (2 ^ bits_of w - 1) y h q in sym (ap (λ n. apply_op Or w x n) k ∙ or-ones w x f))
    (either (is_number a (2 ^ bits_of w - 1)) (is_number b (2 ^ bits_of w - 1)) e))
    tt
absorbing-right op w a b x y p q f g = tt

add-zero : (x : ℕ) → x < 2 ^ 32 → x ≡ apply_op Add B32 x 0
unfolding apply_op formula
add-zero x f = omega arith

zero_add : (y : ℕ) → y < 2 ^ 32 → y ≡ apply_op Add B32 0 y
unfolding apply_op formula
zero_add y g = omega arith

sub-zero : (x : ℕ) → x < 2 ^ 32 → x ≡ apply_op Sub B32 x 0
unfolding apply_op formula
sub-zero x f = omega arith

shl-zero : (x : ℕ) → x < 2 ^ 32 → x ≡ apply_op Shl B32 x 0
unfolding apply_op formula
shl-zero x f = omega arith

neutral-right : (op : Op) (w : Width) (a b : Option ℕ) (x y : ℕ) → Allows a x → Allows b y → x < 2 ^ bits_of w → y < 2 ^ bits_of w → IsRight op w x y (by_neutral_number op w a b)
neutral-right Add B32 a b x y p q f g =
    when (Right Add B32 x y) (is_number b 0) First (if is_number a 0 then Some Second else None)
    (λ h. add-zero x f ∙ ap (λ n. apply_op Add B32 x n) (sym (is_number-is b 0 y h q)))
    (when (Right Add B32 x y) (is_number a 0) Second None (λ h. zero_add y g ∙ ap (λ n. apply_op Add B32 n y) (sym (is_number-is a 0 x h p))) tt)
neutral-right Sub B32 a b x y p q f g =
    when (Right Sub B32 x y) (is_number b 0) First None (λ h. sub-zero x f ∙ ap (λ n. apply_op Sub B32 x n) (sym (is_number-is b 0 y h q))) tt
neutral-right Shl B32 a b x y p q f g =
    when (Right Shl B32 x y) (is_number b 0) First None (λ h. shl-zero x f ∙ ap (λ n. apply_op Shl B32 x n) (sym (is_number-is b 0 y h q))) tt
neutral-right op w a b x y p q f g = tt

pub settled-right : (op : Op) (w : Width) (a b : Option ℕ) (x y : ℕ) → Allows a x → Allows b y → x < 2 ^ bits_of w → y < 2 ^ bits_of w → IfSome (settled op w a b) (Right op w x y)
unfolding settled
settled-right op w a b x y p q f g =
    after (Right op w x y) (by_numbers op w a b) (option_or (by_absorbing_number op w a b) (by_neutral_number op w a b))
    (numbers-right op w a b x y p q)
    (after (Right op w x y) (by_absorbing_number op w a b) (by_neutral_number op w a b) (absorbing-right op w a b x y p q f g) (neutral-right op w a b x y p q f g))

-- ---- what a settled result tells: a number is one of the operator, and an operand that is the result was no number

abbrev pub Tells : Op → Width → Option ℕ → Option ℕ → Settled → Type 0
Tells op w a b (Number n) = IsValueOf op w n
Tells op w a b First = a ≡ None
Tells op w a b Second = b ≡ None

zero-is_value : (w : Width) → IsValueOf And w 0
zero-is_value w = subst (λ n. IsValueOf And w n) (and-zero w 0) (apply-is_value And w 0 0)

ones-is_value : (w : Width) → IsValueOf Or w (2 ^ bits_of w - 1)
ones-is_value w = subst (λ n. IsValueOf Or w n) (or-ones w 0 (pow_pos (bits_of w))) (apply-is_value Or w 0 (2 ^ bits_of w - 1))

numbers-tell : (op : Op) (w : Width) (a b : Option ℕ) → IfSome (by_numbers op w a b) (Tells op w a b)
numbers-tell op w (Some n) (Some m) = apply-is_value op w n m
numbers-tell op w (Some n) None = when (Tells op w (Some n) None) (has_one_operand op) (Number (apply_op op w n 0)) None (λ e. apply-is_value op w n 0) tt
numbers-tell op w None b = tt

absorbing-tells : (op : Op) (w : Width) (a b : Option ℕ) → IfSome (by_absorbing_number op w a b) (Tells op w a b)
absorbing-tells And w a b = when (Tells And w a b) (is_number a 0 || is_number b 0) (Number 0) None (λ e. zero-is_value w) tt
absorbing-tells Or w a b = when (Tells Or w a b) (is_number a (2 ^ bits_of w - 1) || is_number b (2 ^ bits_of w - 1)) (Number (2 ^ bits_of w - 1)) None (λ e. ones-is_value w) tt
absorbing-tells op w a b = tt

-- where the first rule told nothing, and one operand is a number, the other is none
neutral-tells : (op : Op) (w : Width) (a b : Option ℕ) → by_numbers op w a b ≡ None → IfSome (by_neutral_number op w a b) (Tells op w a b)
neutral-tells Add B32 (Some n) (Some m) e = absurd (cc)
neutral-tells Sub B32 (Some n) (Some m) e = absurd (cc)
neutral-tells Shl B32 (Some n) (Some m) e = absurd (cc)
neutral-tells Add B32 None b e = when (Tells Add B32 None b) (is_number b 0) First None (λ h. refl) tt
neutral-tells Sub B32 None b e = when (Tells Sub B32 None b) (is_number b 0) First None (λ h. refl) tt
neutral-tells Shl B32 None b e = when (Tells Shl B32 None b) (is_number b 0) First None (λ h. refl) tt
neutral-tells Add B32 (Some n) None e = when (Tells Add B32 (Some n) None) (is_number (Some n) 0) Second None (λ h. refl) tt
neutral-tells Sub B32 (Some n) None e = tt
neutral-tells Shl B32 (Some n) None e = tt
neutral-tells op w a b e = tt

after-none : (P : Settled → Type 0) (o q : Option Settled) → IfSome o P → (o ≡ None → IfSome q P) → IfSome (option_or o q) P
after-none P (Some s) q f g = f
after-none P None q f g = g refl

pub settled-tells : (op : Op) (w : Width) (a b : Option ℕ) → IfSome (settled op w a b) (Tells op w a b)
unfolding settled
settled-tells op w a b =
    after-none (Tells op w a b) (by_numbers op w a b) (option_or (by_absorbing_number op w a b) (by_neutral_number op w a b))
    (numbers-tell op w a b)
    (λ e. after (Tells op w a b) (by_absorbing_number op w a b) (by_neutral_number op w a b) (absorbing-tells op w a b) (neutral-tells op w a b e))
