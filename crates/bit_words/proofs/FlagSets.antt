-- One bit of a set of flags in which some were replaced.
use Rattle.std.proofs.Common.{◌≡◌, ℕ, zero, suc, ◌-◌, ◌*◌, ◌^◌, ◌<◌, min, max, if◌then◌else◌, eqb, ap, arith, bit_and, bit_or}
use Rattle.std.specs.Int.{bit_at, w8, bit_not}
use Rattle.std.proofs.lemmas.Nat.{pow_pos}
use Rattle.std.proofs.lemmas.Nat.Bits.{and_pow, bit_at-lt, bit_at_and, bit_at_or, bit_at_not}
use Rattle.std.proofs.lemmas.Bool.Decides.{nat_tests}

one_times : (x p : ℕ) → x < 2 → 0 < p → eqb (x * p) p ≡ eqb x 1
one_times zero p h q = grind (arith, nat_tests)
one_times (suc zero) p h q = grind (arith, nat_tests)
one_times (suc (suc x)) p h q = absurd (omega arith)

bit_is : (n k : ℕ) → eqb (bit_and n (2 ^ k)) (2 ^ k) ≡ eqb (bit_at n k) 1
bit_is n k = rw (and_pow n k) (one_times (bit_at n k) (2 ^ k) (bit_at-lt n k) (pow_pos k))

bit_chosen : (s w o : ℕ) → s < 2 → w < 2 → o < 2 → eqb (max (min s (1 - w)) (min o w)) 1 ≡ (if eqb w 1 then eqb o 1 else eqb s 1)
bit_chosen s zero o p q r = let e : max (min s (1 - 0)) (min o 0) ≡ s = omega arith in ap (λ x. eqb x 1) e
bit_chosen s (suc zero) o p q r = let e : max (min s (1 - 1)) (min o 1) ≡ o = omega arith in ap (λ x. eqb x 1) e
bit_chosen s (suc (suc w)) o p q r = absurd (omega arith)

-- a bit of a byte s, with those bits replaced that w has
pub has-replaced : (k s w o : ℕ) → k < 8 → w < 2 ^ 8 → eqb (bit_and (bit_or (bit_and s (bit_not w8 w)) (bit_and o w)) (2 ^ k)) (2 ^ k) ≡ (if eqb (bit_and w (2 ^ k)) (2 ^ k) then eqb (bit_and o (2 ^ k)) (2 ^ k) else eqb (bit_and s (2 ^ k)) (2 ^ k))
has-replaced k s w o h p =
    rw (bit_is (bit_or (bit_and s (bit_not w8 w)) (bit_and o w)) k, bit_is w k, bit_is o k, bit_is s k, bit_at_or (bit_and s (bit_not w8 w)) (bit_and o w) k, bit_at_and s (bit_not w8 w) k, bit_at_and o w k, bit_at_not w8 w k p h)
    (bit_chosen (bit_at s k) (bit_at w k) (bit_at o k) (bit_at-lt s k) (bit_at-lt w k) (bit_at-lt o k))
