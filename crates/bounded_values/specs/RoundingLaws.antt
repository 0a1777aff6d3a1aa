-- Remainders by powers of two: of an integer, of its word, and of a place whose base is a multiple.
use Rattle.std.proofs.Common.{◌≡◌, ℕ, suc, ◌+◌, ◌-◌, ◌*◌, ◌/◌, ◌%◌, ◌^◌, ◌<◌, ◌≤◌, ℤ, pos, negsuc, ◌+ℤ◌, arith, refl, sym, ap, ◌∙◌, subst, true, ⊎_elim}
use Rattle.std.proofs.lemmas.Int.{ints}
use Rattle.std.proofs.lemmas.Bool.Decides.{nat_tests}
use Rattle.std.proofs.lemmas.Nat.{pow_pos, mod-mul-add, div-add-mod', div_below, mod_below, leading_top, ones_cat, zero_from_ones, ones_le_self, pow-add}
use Rattle.std.proofs.lemmas.Bool.{cases_lt}
use Rattle.std.proofs.Math.Nat.{add-mul-mod_self_left, pow-suc}
use Rattle.std.proofs.Math.Pow.{mod-mod-pow}
use Rattle.std.specs.Int.{is_power_of_two}
use Rattle.std.specs.Int.Count.{ones}
use Rattle.address_regions.proofs.PlaceLaws.{residue}
use Rattle.bit_words.specs.Width.{modulo}

-- ---- powers of two

ones-one : ones 1 ≡ 1
unfolding ones
ones-one = refl

top_bit_alone : (j k : ℕ) → ones k ≡ 1 → 2 ^ j ≤ k → k < 2 ^ suc j → k ≡ 2 ^ j
top_bit_alone j k e low high =
    let two : 2 ^ suc j ≡ 2 ^ j * 2 = pow-suc 2 j in
    let r : k - 2 ^ j < 2 ^ j = omega arith in
    let split : 1 * 2 ^ j + (k - 2 ^ j) ≡ k = omega arith in
    let c = ones_cat j 1 (k - 2 ^ j) r in
    let f = ap ones split in
    let o = ones-one in
    let z : ones (k - 2 ^ j) ≡ 0 = omega arith in
    let none = zero_from_ones (k - 2 ^ j) z in
    omega arith

one_bit : (k : ℕ) → is_power_of_two k ≡ true → ones k ≡ 1
one_bit k e = grind (arith, nat_tests)

pub power_of : (k : ℕ) → is_power_of_two k ≡ true → k < 2 ^ 32 → (j : ℕ) × (j < 32) × (k ≡ 2 ^ j)
power_of k e h =
    let one = one_bit k e in
    let positive : 0 < k = omega (arith, ones_le_self k) in
    let (j, top, low, high) = leading_top 32 k positive h in
    (j, omega arith, top_bit_alone j k one low high)

-- ---- remainders

back : (d e k r : ℕ) → r < k → (d + 1 + e) * k - 1 - (d * k + r) ≡ e * k + (k - 1 - r)
back d e k r h = omega arith

-- q * k - 1 - n has the remainder k - 1 - n % k
mod-back : (n k q : ℕ) → 0 < k → n < q * k → (q * k - 1 - n) % k ≡ k - 1 - n % k
mod-back n k q p h =
    let d = div_below n k q p h in
    let r = mod_below n k p in
    let n_is = div-add-mod' n k in
    let q_is : n / k + 1 + (q - n / k - 1) ≡ q = omega arith in
    let b = back (n / k) (q - n / k - 1) k (n % k) r in
    let s : (n / k + 1 + (q - n / k - 1)) * k - 1 - (n / k * k + n % k) ≡ q * k - 1 - n = ap (λ m. m * k - 1 - (n / k * k + n % k)) q_is ∙ ap (λ m. q * k - 1 - m) n_is in
    ap (λ m. m % k) (sym s ∙ b) ∙ mod-mul-add (q - n / k - 1) k (k - 1 - n % k) (omega arith)

pub residue-mod : (z : ℤ) (j : ℕ) → j ≤ 32 → residue z % 2 ^ j ≡ modulo z (2 ^ j)
residue-mod (pos n) j h =
    let e : 32 - j + j ≡ 32 = omega arith in
    subst (λ k. n % 2 ^ k % 2 ^ j ≡ n % 2 ^ j) e (mod-mod-pow n (32 - j) j)
residue-mod (negsuc n) j h =
    let e : 32 - j + j ≡ 32 = omega arith in
    let m : n % 2 ^ 32 % 2 ^ j ≡ n % 2 ^ j = subst (λ k. n % 2 ^ k % 2 ^ j ≡ n % 2 ^ j) e (mod-mod-pow n (32 - j) j) in
    let q : 2 ^ (32 - j) * 2 ^ j ≡ 2 ^ 32 = sym (pow-add 2 (32 - j) j) ∙ ap (λ k. 2 ^ k) e in
    let below : n % 2 ^ 32 < 2 ^ (32 - j) * 2 ^ j = subst (λ k. n % 2 ^ 32 < k) (sym q) (omega arith) in
    let b = mod-back (n % 2 ^ 32) (2 ^ j) (2 ^ (32 - j)) (pow_pos j) below in
    let c : (2 ^ 32 - 1 - n % 2 ^ 32) % 2 ^ j ≡ 2 ^ j - 1 - n % 2 ^ 32 % 2 ^ j = subst (λ k. (k - 1 - n % 2 ^ 32) % 2 ^ j ≡ 2 ^ j - 1 - n % 2 ^ 32 % 2 ^ j) q b in
    c ∙ ap (λ k. 2 ^ j - 1 - k) m

mod-multiple : (c k n : ℕ) → 0 < k → (c * k + n) % k ≡ n % k
mod-multiple c k n p = ap (λ m. m % k) (omega arith) ∙ add-mul-mod_self_left n k c

-- a multiple of k adds nothing to the remainder by k
pub modulo-multiple : (c k : ℕ) (o : ℤ) → 0 < k → modulo (pos (c * k) +ℤ o) k ≡ modulo o k
modulo-multiple c k (pos n) p = mod-multiple c k n p
modulo-multiple c k (negsuc n) p =
    ⊎_elim
    (λ (h : n < c * k). let e : pos (c * k) +ℤ negsuc n ≡ pos (c * k - 1 - n) = omega (arith, ints) in ap (λ z. modulo z k) e ∙ mod-back n k c p h)
    (λ (h : c * k ≤ n). let e : pos (c * k) +ℤ negsuc n ≡ negsuc (n - c * k) = omega (arith, ints) in
    let f : c * k + (n - c * k) ≡ n = omega arith in
    ap (λ z. modulo z k) e ∙ ap (λ m. k - 1 - m) (sym (mod-multiple c k (n - c * k) p) ∙ ap (λ m. m % k) f))
    (cases_lt n (c * k))
