-- Each result of an operator is one at operands of 32 bits.
use Rattle.std.proofs.Common.{◌≡◌, ℕ, ◌*◌, ◌/◌, ◌%◌, ◌^◌, ◌<◌, min, refl, sym, ap, ◌∙◌, arith, subst}
use Rattle.bit_words.specs.declared.width.Width.{Width}
use Rattle.bit_words.specs.declared.op.Op.{Op}
use Rattle.bit_words.specs.declared.op.Op.TheVariants.{Shl, Shr, Sar, Rol, Ror}
use Rattle.bit_words.specs.Width.{bits_of, cut, signed_of, word_of}
use Rattle.bit_words.specs.Operators.{apply_op, formula, shifted_down}
use Rattle.bit_words.proofs.Words.{bits_of_le, bits_of-pos, word-lt}
use Rattle.bit_words.proofs.Laws.{apply-lt, cut-lt, apply-cut_left, apply-cut_right, rol-mod, ror-mod}
use Rattle.std.proofs.lemmas.Nat.{mod_below}
use Rattle.domain_laws.specs.Laws.{IsValueOf}

min-min : (c n : ℕ) → min (min c n) n ≡ min c n
min-min c n = omega arith

shl-min : (w : Width) (a c : ℕ) → apply_op Shl w a (min c (bits_of w)) ≡ apply_op Shl w a c
unfolding apply_op formula
shl-min w a c = ap (λ k. cut w (cut w a * 2 ^ k)) (min-min c (bits_of w))

shr-min : (w : Width) (a c : ℕ) → apply_op Shr w a (min c (bits_of w)) ≡ apply_op Shr w a c
unfolding apply_op formula
shr-min w a c = ap (λ k. cut w a / 2 ^ k) (min-min c (bits_of w))

sar-min : (w : Width) (a c : ℕ) → apply_op Sar w a (min c (bits_of w)) ≡ apply_op Sar w a c
unfolding apply_op formula
sar-min w a c = ap (λ k. word_of w (shifted_down (signed_of w (cut w a)) k)) (min-min c (bits_of w))

-- a second operand of 32 bits that gives the same
second : (op : Op) (w : Width) (a b : ℕ) → (c : ℕ) × (c < 2 ^ 32) × (apply_op op w a c ≡ apply_op op w a b)
second Shl w a b = let h = bits_of_le w in (min b (bits_of w), omega arith, shl-min w a b)
second Shr w a b = let h = bits_of_le w in (min b (bits_of w), omega arith, shr-min w a b)
second Sar w a b = let h = bits_of_le w in (min b (bits_of w), omega arith, sar-min w a b)
second Rol w a b = let h = bits_of_le w in let k = mod_below b (bits_of w) (bits_of-pos w) in (b % bits_of w, omega arith, rol-mod w a b)
second Ror w a b = let h = bits_of_le w in let k = mod_below b (bits_of w) (bits_of-pos w) in (b % bits_of w, omega arith, ror-mod w a b)
second op w a b = (cut w b, word-lt w (cut w b) (cut-lt w b), apply-cut_right op w a b refl)

pub apply-is_value : (op : Op) (w : Width) (a b : ℕ) → IsValueOf op w (apply_op op w a b)
apply-is_value op w a b =
    let (c, fits, e) = second op w a b in
    record { first = cut w a; second = c; first_fits = word-lt w (cut w a) (cut-lt w a); second_fits = fits; is = sym (apply-cut_left op w a c ∙ e) }

-- such a result fits the width
pub value-lt : (op : Op) (w : Width) (n : ℕ) → IsValueOf op w n → n < 2 ^ bits_of w
value-lt op w n v = subst (λ k. k < 2 ^ bits_of w) (sym v.is) (apply-lt op w v.first v.second)
