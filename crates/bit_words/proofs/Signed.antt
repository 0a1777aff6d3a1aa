-- The code's sums of signed numbers, which go through the bits of 64, are the sums of the integers.
use Rattle.std.proofs.Common.{◌≡◌, ℤ, pos, ◌+ℤ◌, ◌-ℤ◌, Bool, true, false, arith, w32, w64, FitsSigned, to_z, of_z, refl, lit<}
use Rattle.std.proofs.lemmas.Int.{ints, to_z-of_z}
use Rattle.std.specs.Int.{from_bool}
use Rattle.bit_words.specs.Operators.{one_if}

-- an integer as the code holds it
abbrev pub held : ℤ → ℤ
held z = to_z w64 (of_z w64 z)

pub held-sum : (x y z : ℤ) → FitsSigned w32 x → FitsSigned w32 y → FitsSigned w32 z → held (held (held x +ℤ held y) +ℤ held z) ≡ x +ℤ y +ℤ z
held-sum x y z p q r = omega (arith, ints)

pub held-difference : (x y z : ℤ) → FitsSigned w32 x → FitsSigned w32 y → FitsSigned w32 z → held (held (held x -ℤ held y) -ℤ held z) ≡ x -ℤ y -ℤ z
held-difference x y z p q r = omega (arith, ints)

pub one_if-fits : (t : Bool) → FitsSigned w32 (pos (one_if t))
one_if-fits true = record { sfits = lit< tt }
one_if-fits false = record { sfits = lit< tt }

pub from_bool-is : (t : Bool) → from_bool t ≡ one_if t
from_bool-is true = refl
from_bool-is false = refl

-- the same, of what the code's conversions give
pub code-sum : (x y : ℤ) (t : Bool) (p q r : ℤ) → p ≡ to_z w32 (of_z w32 x) → q ≡ to_z w32 (of_z w32 y) → r ≡ pos (from_bool t) → FitsSigned w32 x → FitsSigned w32 y → held (held (held p +ℤ held q) +ℤ held r) ≡ x +ℤ y +ℤ pos (one_if t)
code-sum x y t p q r e f g a b =
    rw (e, f, g, to_z-of_z w32 x a, to_z-of_z w32 y b, from_bool-is t) (held-sum x y (pos (one_if t)) a b (one_if-fits t))

pub code-difference : (x y : ℤ) (t : Bool) (p q r : ℤ) → p ≡ to_z w32 (of_z w32 x) → q ≡ to_z w32 (of_z w32 y) → r ≡ pos (from_bool t) → FitsSigned w32 x → FitsSigned w32 y → held (held (held p -ℤ held q) -ℤ held r) ≡ x -ℤ y -ℤ pos (one_if t)
code-difference x y t p q r e f g a b =
    rw (e, f, g, to_z-of_z w32 x a, to_z-of_z w32 y b, from_bool-is t) (held-difference x y (pos (one_if t)) a b (one_if-fits t))
