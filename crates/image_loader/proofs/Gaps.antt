-- Ranges of a map leave a gap: between them, or beside them.
use Rattle.std.proofs.Common.{ℕ, zero, suc, ◌≡◌, ◌+◌, ◌*◌, ◌<◌, ◌≤◌, ◌⊎◌, inl, inr, ⊎_elim, Bool, true, false, cond, List, [], ◌∷◌, length, get_or, refl, sym, ap, subst, arith}
use Rattle.std.specs.Prelude.{nat_le, All, AllPairs}
use Rattle.std.proofs.lemmas.Bool.{cases_lt, cases_order, le-leb, leb-true, lt-leb}
use Rattle.std.proofs.lemmas.List.{get_or_default}
use Rattle.std.proofs.lemmas.List.Elements.{All-cons, All-nil}
use Rattle.std.proofs.lemmas.List.Sums.{sum_by-cons}
use Rattle.memory_map.specs.Range.{Range, end_of, AreApart, IsInUserSpace}
use Rattle.memory_map.specs.Map.{HasSome, IsMap, total_size}

-- as many addresses as are looked for
abbrev pub ROOM : ℕ
ROOM = 2000000

abbrev nowhere : Range
nowhere = record { low = 0; bytes = []; write = false; execute = false }

-- what a range that is not below an address takes up, with as much beside it
abbrev part : ℕ → Range → ℕ
part lo r = cond (nat_le lo r.low) (length r.bytes + ROOM) 0

pub weight : List Range → ℕ → ℕ
weight [] lo = 0
weight (r ∷ rs) lo = part lo r + weight rs lo

part_before : (lo : ℕ) (r : Range) → r.low < lo → part lo r ≡ 0
part_before lo r h = ap (λ b. cond b (length r.bytes + ROOM) 0) (lt-leb lo r.low h)

part_from : (lo : ℕ) (r : Range) → lo ≤ r.low → part lo r ≡ length r.bytes + ROOM
part_from lo r h = ap (λ b. cond b (length r.bytes + ROOM) 0) (le-leb lo r.low h)

part_most : (lo : ℕ) (r : Range) → part lo r ≤ length r.bytes + ROOM
part_most lo r = ⊎_elim (λ less. omega (arith, part_before lo r less)) (λ more. omega (arith, part_from lo r more)) (cases_lt r.low lo)

part_less : (lo more : ℕ) (r : Range) → lo ≤ more → part more r ≤ part lo r
part_less lo more r h = ⊎_elim (λ less. omega (arith, part_before more r less)) (λ from. omega (arith, part_most more r, part_from lo r (omega (arith, h, from)))) (cases_lt r.low more)

weight_less : (rs : List Range) (lo more : ℕ) → lo ≤ more → weight rs more ≤ weight rs lo
unfolding weight
weight_less [] lo more h = omega arith
weight_less (r ∷ rs) lo more h = omega (arith, part_less lo more r h, weight_less rs lo more h)

weight_drops : (rs : List Range) (lo more k : ℕ) → k < length rs → lo ≤ more → lo ≤ (get_or rs k nowhere).low → (get_or rs k nowhere).low < more
    → weight rs more + (length (get_or rs k nowhere).bytes + ROOM) ≤ weight rs lo
unfolding weight
weight_drops [] lo more k in' h from below = absurd (omega (arith, in'))
weight_drops (r ∷ rs) lo more zero in' h from below = omega (arith, part_before more r below, part_from lo r from, weight_less rs lo more h)
weight_drops (r ∷ rs) lo more (suc k) in' h from below = omega (arith, part_less lo more r h, weight_drops rs lo more k (omega (arith, in')) h from below)

pub weight_most : (rs : List Range) (lo : ℕ) → weight rs lo ≤ total_size rs + ROOM * length rs
unfolding weight
weight_most [] lo = omega arith
weight_most (r ∷ rs) lo =
    let more : total_size (r ∷ rs) ≡ length r.bytes + total_size rs = sum_by-cons (λ (x : Range). length x.bytes) r rs in
    omega (arith, part_most lo r, weight_most rs lo, more)

-- a range that begins not far above an address, or that none does
record IsNear (rs : List Range) (lo : ℕ) : Type 0 where
  k : ℕ
  in_rs : k < length rs
  from : lo ≤ (get_or rs k nowhere).low
  below : (get_or rs k nowhere).low < lo + ROOM

abbrev IsFar : ℕ → Range → Type 0
IsFar lo r = (r.low < lo) ⊎ (lo + ROOM ≤ r.low)

near_or_far : (rs : List Range) (lo : ℕ) → IsNear rs lo ⊎ All (IsFar lo) rs
near_or_far [] lo = inr (All-nil (IsFar lo))
near_or_far (r ∷ rs) lo =
    ⊎_elim (λ n. let from = n.from in let below = n.below in let in' = n.in_rs in inl (record { k = suc n.k; in_rs = omega (arith, in'); from = from; below = below }))
    (λ others.
    ⊎_elim (λ less. inr (All-cons (IsFar lo) r rs (inl less) others))
    (λ from. ⊎_elim (λ below. inl (record { k = 0; in_rs = omega arith; from = from; below = below })) (λ far. inr (All-cons (IsFar lo) r rs (inr far) others)) (cases_lt r.low (lo + ROOM)))
    (cases_lt r.low lo))
    (near_or_far rs lo)

-- no range lies across an address
abbrev IsCut : ℕ → Range → Type 0
IsCut lo r = (end_of r ≤ lo) ⊎ (lo ≤ r.low)

pub record Gap (rs : List Range) (high : ℕ) : Type 0 where
  pub low : ℕ
  pub above : 4096 ≤ low
  pub below : low + ROOM ≤ high
  pub free : All (λ r. (end_of r ≤ low) ⊎ (low + ROOM ≤ r.low)) rs

module _ (rs : List Range) (some : All HasSome rs) (pairs : AllPairs AreApart rs) (high : ℕ) where
  -- none lies across the end of one of them
  cut_after : (k : ℕ) → k < length rs → All (IsCut (end_of (get_or rs k nowhere))) rs
  cut_after k in' j d within =
      let same : get_or rs k d ≡ get_or rs k nowhere = get_or_default rs k d nowhere in' in
      let Cut : Range → Type 0 = λ r. IsCut (end_of r) (get_or rs j d) in
      subst Cut same
      (⊎_elim (λ is. let Same : ℕ → Type 0 = λ i. IsCut (end_of (get_or rs k d)) (get_or rs i d) in subst Same (sym is) (inl (omega arith)))
      (λ order. ⊎_elim
      (λ before. ⊎_elim (λ left. inl (omega (arith, left))) (λ right. inr right) (pairs j k d before in'))
      (λ after. ⊎_elim (λ left. inr left) (λ right. inl (omega (arith, right))) (pairs k j d after within))
      order)
      (cases_order j k))

  gap_from : (fuel lo : ℕ) → high ≤ lo + fuel → 4096 ≤ lo → All (IsCut lo) rs → lo + ROOM + weight rs lo ≤ high → Gap rs high
  gap_from zero lo enough above cut room = absurd (omega (arith, enough, room))
  gap_from (suc fuel) lo enough above cut room =
      ⊎_elim
      (λ near.
      let r = get_or rs near.k nowhere in
      let from = near.from in
      let below = near.below in
      let bytes : 0 < length r.bytes = some near.k nowhere near.in_rs in
      let less = weight_drops rs lo (end_of r) near.k near.in_rs (omega arith) from (omega arith) in
      gap_from fuel (end_of r) (omega (arith, enough)) (omega (arith, above)) (cut_after near.k near.in_rs) (omega (arith, less, room)))
      (λ far. record {
        low = lo;
        above = above;
        below = omega (arith, room);
        free = λ k d in'. ⊎_elim (λ ends. inl ends) (λ from. ⊎_elim (λ less. absurd (omega (arith, less, from))) (λ more. inr more) (far k d in')) (cut k d in');
      })
      (near_or_far rs lo)

-- few enough ranges leave a gap
pub gap_of : (rs : List Range) → IsMap rs → length rs ≤ 97 → Gap rs 0xF0000000
gap_of rs map few =
    gap_from rs map.some map.apart 0xF0000000 0xF0000000 4096 (omega arith) (omega arith) (λ k d in'. inr (map.inside k d in').above)
    (omega (arith, weight_most rs 4096, map.size, few))
