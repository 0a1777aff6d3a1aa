-- The greatest common divisor divides both numbers, and is the one that every common divisor divides.
use Rattle.std.proofs.Common.{◌≡◌, ℕ, suc, zero, ◌+◌, ◌*◌, ◌%◌, ◌<◌, ◌≤◌, sym, ap, ◌∙◌, subst, arith, true, ◌&&◌, ⊎_elim}
use Rattle.std.specs.Int.{IsGcd}
use Rattle.std.proofs.lemmas.Bool.{and_parts, and_from, eqb-true, eq-eqb, cond_both, cases_eq, both_ways}
use Rattle.std.proofs.lemmas.Nat.Gcd.{dvd-zero, le_of_dvd, dvd_of_mod-eq-zero, mod-eq-zero_of_dvd}
use Rattle.interval_values.specs.Forms.{is_multiple}
use Rattle.interval_values.specs.Divisors.{common_divisor_to, gcd}
use Rattle.interval_values.specs.SpanLaws.{multiple-of, multiple-from}
use Prim.Native.Nat.{◌∣◌}

common-both : (n a b : ℕ) → 0 < n → (is_multiple a (common_divisor_to n a b) ≡ true) × (is_multiple b (common_divisor_to n a b) ≡ true)
common-both zero a b h = absurd (omega arith)
common-both (suc n) a b h =
    cond_both (is_multiple a (suc n) && is_multiple b (suc n)) (suc n) (common_divisor_to n a b) (λ d. (is_multiple a d ≡ true) × (is_multiple b d ≡ true))
    (λ t. and_parts (is_multiple a (suc n)) (is_multiple b (suc n)) t)
    (λ t. ⊎_elim
    (λ (z : n ≡ 0).
    let one : suc n ≡ 1 = omega arith in
    absurd (both_ways (is_multiple a (suc n) && is_multiple b (suc n)) t
    (and_from (is_multiple a (suc n)) (is_multiple b (suc n)) (multiple-from a a (suc n) (sym (ap (λ u. a * u) one ∙ omega arith))) (multiple-from b b (suc n) (sym (ap (λ u. b * u) one ∙ omega arith))))))
    (λ (z : n ≡ 0 → ⊥). common-both n a b (omega arith))
    (cases_eq n 0))

pub gcd-both : (a b : ℕ) → (is_multiple a (gcd a b) ≡ true) × (is_multiple b (gcd a b) ≡ true)
unfolding gcd
gcd-both a b =
    ⊎_elim
    (λ (z : a + b ≡ 0). (multiple-from a 0 (common_divisor_to (a + b) a b) (omega arith), multiple-from b 0 (common_divisor_to (a + b) a b) (omega arith)))
    (λ (z : a + b ≡ 0 → ⊥). common-both (a + b) a b (omega arith))
    (cases_eq (a + b) 0)

-- how often the divisor goes into each number
pub record Shares (a b : ℕ) : Type 0 where
  pub first : ℕ
  pub second : ℕ
  pub first_is : a ≡ first * gcd a b
  pub second_is : b ≡ second * gcd a b

pub shares : (a b : ℕ) → Shares a b
shares a b =
    let (e, f) = gcd-both a b in
    let (j, g) = multiple-of a (gcd a b) e in
    let (k, h) = multiple-of b (gcd a b) f in
    record { first = j; second = k; first_is = g; second_is = h }

-- ---- the one that every common divisor divides

common-is : (n a b r : ℕ) → 0 < r → r ≤ n → r ∣ a → r ∣ b → ((d : ℕ) → d ∣ a → d ∣ b → d ∣ r) → common_divisor_to n a b ≡ r
common-is zero a b r p l f g h = absurd (omega arith)
common-is (suc n) a b r p l f g h =
    cond_both (is_multiple a (suc n) && is_multiple b (suc n)) (suc n) (common_divisor_to n a b) (λ d. d ≡ r)
    (λ t.
    let (i, j) = and_parts (is_multiple a (suc n)) (is_multiple b (suc n)) t in
    let divides : suc n ∣ r = h (suc n) (dvd_of_mod-eq-zero (suc n) (eqb-true (a % suc n) 0 i)) (dvd_of_mod-eq-zero (suc n) (eqb-true (b % suc n) 0 j)) in
    let least : suc n ≤ r = le_of_dvd p divides in
    omega arith)
    (λ t. ⊎_elim
    (λ (e : r ≡ suc n).
    absurd (both_ways (is_multiple a (suc n) && is_multiple b (suc n)) t
    (and_from (is_multiple a (suc n)) (is_multiple b (suc n))
    (eq-eqb (a % suc n) 0 (mod-eq-zero_of_dvd (suc n) (subst (λ d. d ∣ a) e f)))
    (eq-eqb (b % suc n) 0 (mod-eq-zero_of_dvd (suc n) (subst (λ d. d ∣ b) e g))))))
    (λ (e : r ≡ suc n → ⊥). common-is n a b r p (omega arith) f g h)
    (cases_eq r (suc n)))

zero-divides : (a : ℕ) → 0 ∣ a → a ≡ 0
zero-divides a f = let e = mod-eq-zero_of_dvd 0 f in omega arith

divisor-le : (a b r : ℕ) → 0 < r → r ∣ a → r ∣ b → ((d : ℕ) → d ∣ a → d ∣ b → d ∣ r) → r ≤ a + b
divisor-le a b r p f g h =
    ⊎_elim
    (λ (e : a ≡ 0). ⊎_elim
    (λ (i : b ≡ 0).
    let divides : r + 1 ∣ r = h (r + 1) (subst (λ u. r + 1 ∣ u) (sym e) (dvd-zero (r + 1))) (subst (λ u. r + 1 ∣ u) (sym i) (dvd-zero (r + 1))) in
    let least : r + 1 ≤ r = le_of_dvd p divides in omega arith)
    (λ (i : b ≡ 0 → ⊥). let least : r ≤ b = le_of_dvd (omega arith) g in omega arith)
    (cases_eq b 0))
    (λ (e : a ≡ 0 → ⊥). let least : r ≤ a = le_of_dvd (omega arith) f in omega arith)
    (cases_eq a 0)

pub gcd-is : (a b r : ℕ) → IsGcd a b r → r ≡ gcd a b
unfolding gcd
gcd-is a b r i =
    ⊎_elim
    (λ (z : r ≡ 0).
    let none = zero-divides a (subst (λ d. d ∣ a) z i.0) in
    let also = zero-divides b (subst (λ d. d ∣ b) z i.1) in
    let sum : a + b ≡ 0 = omega arith in
    z ∙ sym (ap (λ n. common_divisor_to n a b) sum))
    (λ (z : r ≡ 0 → ⊥). let p : 0 < r = omega arith in sym (common-is (a + b) a b r p (divisor-le a b r p i.0 i.1 i.2) i.0 i.1 i.2))
    (cases_eq r 0)
