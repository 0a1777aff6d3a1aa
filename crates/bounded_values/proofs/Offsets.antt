-- The code's moves of an offset, which go through its bits, are moves of the integer.
use Rattle.std.proofs.Common.{◌≡◌, ℕ, ◌+◌, ◌-◌, ◌%◌, ◌^◌, ◌<◌, ℤ, pos, negsuc, ◌+ℤ◌, ◌-ℤ◌, arith, w32, FitsSigned, to_z, of_z, sym, ap, ◌∙◌, subst, true}
use Rattle.std.proofs.lemmas.Int.{ints, to_z-of_z, SFits-int_wrap}
use Rattle.std.specs.Int.{int_wrap, is_power_of_two}
use Rattle.address_regions.proofs.PlaceLaws.{residue, residue-add, residue-lt}
use Rattle.bit_words.specs.Width.{modulo}
use Rattle.bounded_values.specs.RoundingLaws.{power_of, residue-mod}
use Rattle.bounded_values.specs.Rules.{offset_up, offset_down, rounded_down}

bits-residue : (o : ℤ) → FitsSigned w32 o → of_z w32 o ≡ residue o
bits-residue (pos n) f = let h = f.sfits in omega arith
bits-residue (negsuc n) f = let h = f.sfits in omega arith

residue-sub : (o : ℤ) (n : ℕ) → n < 2 ^ 32 → residue (o -ℤ pos n) ≡ (residue o + (2 ^ 32 - n)) % 2 ^ 32
residue-sub o n h =
    let up = residue-add (o -ℤ pos n) n in
    let e : o -ℤ pos n +ℤ pos n ≡ o = omega (arith, ints) in
    let f = ap residue e in
    let low = residue-lt (o -ℤ pos n) in
    omega arith

pub code-up : (o : ℤ) (n : ℕ) (r : ℤ) → FitsSigned w32 o → r ≡ to_z w32 ((of_z w32 (to_z w32 (of_z w32 o)) + n) % 2 ^ 32) → to_z w32 (of_z w32 r) ≡ offset_up o n
unfolding int_wrap
code-up o n r f e =
    let a = to_z-of_z w32 o f in
    let b = bits-residue o f in
    let c = residue-add o n in
    let is : r ≡ offset_up o n = e ∙ ap (λ z. to_z w32 ((of_z w32 z + n) % 2 ^ 32)) a ∙ ap (λ m. to_z w32 ((m + n) % 2 ^ 32)) b ∙ ap (to_z w32) (sym c) in
    ap (λ z. to_z w32 (of_z w32 z)) is ∙ to_z-of_z w32 (offset_up o n) (SFits-int_wrap w32 (o +ℤ pos n))

pub code-down : (o : ℤ) (n : ℕ) (r : ℤ) → FitsSigned w32 o → n < 2 ^ 32 → r ≡ to_z w32 ((of_z w32 (to_z w32 (of_z w32 o)) + (2 ^ 32 - n)) % 2 ^ 32) → to_z w32 (of_z w32 r) ≡ offset_down o n
unfolding int_wrap
code-down o n r f h e =
    let a = to_z-of_z w32 o f in
    let b = bits-residue o f in
    let c = residue-sub o n h in
    let is : r ≡ offset_down o n = e ∙ ap (λ z. to_z w32 ((of_z w32 z + (2 ^ 32 - n)) % 2 ^ 32)) a ∙ ap (λ m. to_z w32 ((m + (2 ^ 32 - n)) % 2 ^ 32)) b ∙ ap (to_z w32) (sym c) in
    ap (λ z. to_z w32 (of_z w32 z)) is ∙ to_z-of_z w32 (offset_down o n) (SFits-int_wrap w32 (o -ℤ pos n))

pub code-rounded : (o : ℤ) (unit m : ℕ) (r : ℤ) → FitsSigned w32 o → unit < 2 ^ 32 → is_power_of_two unit ≡ true → m ≡ of_z w32 (to_z w32 (of_z w32 o)) → r ≡ offset_down (to_z w32 (of_z w32 o)) (m % unit) → to_z w32 (of_z w32 r) ≡ rounded_down o unit
code-rounded o unit m r f h p e g =
    let (j, below, power) = power_of unit p h in
    let a = to_z-of_z w32 o f in
    let bits : m ≡ residue o = e ∙ ap (of_z w32) a ∙ bits-residue o f in
    let rest : m % unit ≡ modulo o unit = ap (λ k. k % unit) bits ∙ subst (λ k. residue o % k ≡ modulo o k) (sym power) (residue-mod o j (omega arith)) in
    let is : r ≡ rounded_down o unit = g ∙ ap (λ z. offset_down z (m % unit)) a ∙ ap (offset_down o) rest in
    ap (λ z. to_z w32 (of_z w32 z)) is ∙ to_z-of_z w32 (rounded_down o unit) (SFits-int_wrap w32 (o -ℤ pos (modulo o unit)))
