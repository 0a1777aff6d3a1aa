-- What rule 5 tells of two places from one base, whose offsets are signed numbers of 32 bits: their difference, and 1 exactly where they are equal.
use Rattle.std.proofs.Common.{◌≡◌, suc, ◌+◌, ◌%◌, ◌^◌, ℤ, pos, negsuc, ◌+ℤ◌, ◌-ℤ◌, arith, w32, FitsSigned, refl, sym, ap, ◌∙◌, ◌==◌}
use Rattle.std.proofs.lemmas.Int.{ints}
use Rattle.std.proofs.lemmas.Bool.Decides.{Decides-eqb, Decides-int_eq, same_from_decides}
use Rattle.std.specs.Ordering.{int_eq}
use Rattle.bit_words.specs.declared.op.Op.TheVariants.{Sub, Eq}
use Rattle.bit_words.specs.declared.width.Width.TheVariants.{B32}
use Rattle.bit_words.specs.Width.{cut, word_of}
use Rattle.bit_words.specs.Operators.{apply_op, formula, one_if}
use Rattle.bit_words.proofs.Laws.{apply-Eq}
use Rattle.address_regions.proofs.PlaceLaws.{residue, residue-add, residue-lt}

word-residue : (o : ℤ) → word_of B32 o ≡ residue o
word-residue (pos n) = refl
word-residue (negsuc n) = refl

residue-sum : (x y : ℤ) → residue (x +ℤ y) ≡ (residue x + residue y) % 2 ^ 32
residue-sum x (pos n) = let e = residue-add x n in omega arith
residue-sum x (negsuc n) =
    let e : x +ℤ negsuc n +ℤ pos (suc n) ≡ x = omega (arith, ints) in
    let f = ap residue e in
    let g = residue-add (x +ℤ negsuc n) (suc n) in
    let low = residue-lt (x +ℤ negsuc n) in
    let high = residue-lt x in
    omega arith

pub sub-offsets : (o q : ℤ) → apply_op Sub B32 (word_of B32 o) (word_of B32 q) ≡ word_of B32 (o -ℤ q)
unfolding apply_op formula
sub-offsets o q =
    let e : o -ℤ q +ℤ q ≡ o = omega (arith, ints) in
    let f = ap residue e in
    let g = residue-sum (o -ℤ q) q in
    let a = word-residue o in
    let b = word-residue q in
    let c = word-residue (o -ℤ q) in
    let i = residue-lt o in
    let j = residue-lt q in
    let k = residue-lt (o -ℤ q) in
    omega arith

word-same : (o q : ℤ) → FitsSigned w32 o → FitsSigned w32 q → word_of B32 o ≡ word_of B32 q → o ≡ q
word-same (pos m) (pos n) f g e = let h = f.sfits in let k = g.sfits in ap pos (omega arith)
word-same (negsuc m) (negsuc n) f g e = let h = f.sfits in let k = g.sfits in ap negsuc (omega arith)
word-same (pos m) (negsuc n) f g e = let h = f.sfits in let k = g.sfits in absurd (omega arith)
word-same (negsuc m) (pos n) f g e = let h = f.sfits in let k = g.sfits in absurd (omega arith)

cut-word : (o : ℤ) → cut B32 (word_of B32 o) ≡ word_of B32 o
cut-word o = let a = word-residue o in let i = residue-lt o in omega arith

pub eq-offsets : (o q : ℤ) → FitsSigned w32 o → FitsSigned w32 q → apply_op Eq B32 (word_of B32 o) (word_of B32 q) ≡ one_if (int_eq o q)
eq-offsets o q f g =
    let a = cut-word o in
    let b = cut-word q in
    let (yes_eq, eq_yes) = Decides-eqb (cut B32 (word_of B32 o)) (cut B32 (word_of B32 q)) in
    apply-Eq B32 (word_of B32 o) (word_of B32 q)
    ∙ ap one_if (same_from_decides (cut B32 (word_of B32 o) == cut B32 (word_of B32 q)) (int_eq o q)
    ((λ e. word-same o q f g (sym a ∙ yes_eq e ∙ b)), (λ e. eq_yes (ap (λ z. cut B32 (word_of B32 z)) e)))
    (Decides-int_eq o q))
