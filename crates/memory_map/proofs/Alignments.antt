-- An alignment is a power of two.
use Rattle.std.proofs.Common.{ℕ, ◌≡◌, ◌^◌, ◌≤◌, true, arith, ⊎_elim, eqb-true, List, [], ◌∷◌, refl}
use Rattle.std.specs.Prelude.{nat_eq, nat_le}
use Rattle.std.specs.List.{list_all, list_any, range_with_len}
use Rattle.std.proofs.lemmas.Bool.{and_parts, leb-true, or_cases}
use Rattle.memory_map.specs.Alignment.{IsAlignment}
use Rattle.memory_map.proofs.Reaching.{found_in}

-- a number with its exponent, which is from 2 to 12
pub record IsPower (n : ℕ) : Type 0 where
  pub log : ℕ
  pub least : 2 ≤ log
  pub greatest : log ≤ 12
  pub power : n ≡ 2 ^ log

at_most : (n limit : ℕ) (ks : List ℕ) → list_all (λ k. nat_le (2 ^ k) limit) ks ≡ true → list_any (λ k. nat_eq n (2 ^ k)) ks ≡ true → n ≤ limit
at_most n limit [] h e = cc
at_most n limit (k ∷ ks) h e =
    let parts = and_parts (nat_le (2 ^ k) limit) (list_all (λ j. nat_le (2 ^ j) limit) ks) h in
    ⊎_elim (λ here. omega (arith, eqb-true n (2 ^ k) here, leb-true (2 ^ k) limit parts.0)) (λ there. at_most n limit ks parts.1 there)
    (or_cases (nat_eq n (2 ^ k)) (list_any (λ j. nat_eq n (2 ^ j)) ks) e)

pub alignment_at_most : (n : ℕ) → IsAlignment n → n ≤ 4096
alignment_at_most n h = at_most n 4096 (range_with_len 2 11) refl h

pub alignment_power : (n : ℕ) → IsAlignment n → IsPower n
alignment_power n h =
    let f = found_in (λ k. nat_eq n (2 ^ k)) 2 11 h in
    let above = f.above in let below = f.below in
    record { log = f.k; least = omega arith; greatest = omega arith; power = eqb-true n (2 ^ f.k) f.passes }
