-- Laws of the order of areas, and of intervals.
use Rattle.std.proofs.Common.{◌≡◌, Bool, true, false, refl, sym, ap, ◌∙◌, subst, arith, ℤ, ◌≤ℤ◌, ◌<ℤ◌, inl, inr, w64, to_z, of_z, FitsSigned}
use Rattle.std.specs.Prelude.{◌⊎◌, ◌||◌, int_le, int_lt, not}
use Rattle.std.proofs.lemmas.Int.{ints, int_min_is, to_z-of_z}
use Rattle.std.proofs.lemmas.Grind.{common_steps}
use Rattle.std.specs.declared.cmp.Ordering.{Ordering}
use Rattle.std.specs.declared.cmp.Ordering.TheVariants.{Less, Equal, Greater}
use Rattle.std.specs.Cmp.{IsTotalOrder}
use Rattle.std.specs.Ordering.{int_eq, is_eq, is_lt, ordering_reverse}
use Rattle.std.proofs.lemmas.Cmp.{tied_itself}
use Rattle.address_regions.proofs.RegionLaws.{same_region-is, same_region-refl}
use Rattle.address_regions.specs.Same.{same_region}
use Rattle.partitioned_memory.specs.declared.area.Area.{Area}
use Rattle.partitioned_memory.specs.declared.area.Area.TheVariants.{Image, In}
use Rattle.partitioned_memory.specs.declared.area.Interval.{Interval}
use Rattle.partitioned_memory.specs.contracts.area.AreaOrd.TheImpl as order
use Rattle.partitioned_memory.specs.Areas.{IsInside, interval_to, area_cmp, same_area, by_area, is_before, is_left, hull}

-- ---- answers of an order

pub less-is : (o : Ordering) → is_lt o ≡ true → o ≡ Less
less-is Less e = refl
less-is Equal e = absurd (cc)
less-is Greater e = absurd (cc)

pub apart-by : (o : Ordering) → is_lt o ≡ true → is_lt (ordering_reverse o) ≡ false
apart-by Less e = refl
apart-by Equal e = absurd (cc)
apart-by Greater e = absurd (cc)

pub other-by : (o : Ordering) → (is_lt o || is_lt (ordering_reverse o)) ≡ not (is_eq o)
other-by Less = refl
other-by Equal = refl
other-by Greater = refl

-- ---- areas

pub area_total : IsTotalOrder area_cmp
unfolding area_cmp
area_total = order.Laws.total-law

pub same_area-refl : (a : Area) → same_area a a ≡ true
unfolding same_area same_region
same_area-refl Image = refl
same_area-refl (In r) = same_region-refl r

pub same_area-is : (a b : Area) → same_area a b ≡ true → a ≡ b
unfolding same_area same_region
same_area-is Image Image e = refl
same_area-is (In r) (In s) e = ap In (same_region-is r s e)
same_area-is a b e = absurd (cc)

-- areas that tie are one
pub same_area-by_cmp : (a b : Area) → same_area a b ≡ is_eq (area_cmp a b)
unfolding area_cmp same_area
same_area-by_cmp a b = order.Laws.matches_eq-law a b

pub area_cmp-equal : (a b : Area) → area_cmp a b ≡ Equal → a ≡ b
area_cmp-equal a b e = same_area-is a b (same_area-by_cmp a b ∙ ap is_eq e)

pub area_cmp-refl : (a : Area) → area_cmp a a ≡ Equal
area_cmp-refl a = tied_itself area_total a

-- ---- by_area

pub by_area-true : (o : Ordering) (t : Bool) → by_area o t ≡ true → (o ≡ Less) ⊎ ((o ≡ Equal) × (t ≡ true))
by_area-true Less t e = inl refl
by_area-true Equal t e = inr (refl, e)
by_area-true Greater t e = absurd (cc)

pub by_area-false : (o : Ordering) (t : Bool) → by_area o t ≡ false → (o ≡ Greater) ⊎ ((o ≡ Equal) × (t ≡ false))
by_area-false Less t e = absurd (cc)
by_area-false Equal t e = inr (refl, e)
by_area-false Greater t e = inl refl

pub by_area-less : (o : Ordering) (t : Bool) → o ≡ Less → by_area o t ≡ true
by_area-less o t e = ap (λ p. by_area p t) e

pub by_area-equal : (o : Ordering) (t : Bool) → o ≡ Equal → t ≡ true → by_area o t ≡ true
by_area-equal o t e h = ap (λ p. by_area p t) e ∙ h

-- ---- intervals

pub int_le-true : (x y : ℤ) → int_le x y ≡ true → x ≤ℤ y
int_le-true x y e = grind (arith, ints, common_steps)

pub int_lt-true : (x y : ℤ) → int_lt x y ≡ true → x <ℤ y
int_lt-true x y e = grind (arith, ints, common_steps)

pub int_lt-false : (x y : ℤ) → int_lt x y ≡ false → y ≤ℤ x
int_lt-false x y e = grind (arith, ints, common_steps)

pub int_eq-true : (x y : ℤ) → int_eq x y ≡ true → x ≡ y
int_eq-true x y e = grind (arith, ints, common_steps)

pub int_le-from : (x y : ℤ) → x ≤ℤ y → int_le x y ≡ true
int_le-from x y h = grind (arith, ints, common_steps)

pub int_lt-from : (x y : ℤ) → x <ℤ y → int_lt x y ≡ true
int_lt-from x y h = grind (arith, ints, common_steps)

-- what a failed test of two offsets says
not_below : (low high : ℤ) → FitsSigned w64 low → FitsSigned w64 high → int_lt (to_z w64 (of_z w64 high)) (to_z w64 (of_z w64 low)) ≡ false → low ≤ℤ high
not_below low high p q e =
    int_lt-false high low (ap (λ z. int_lt z low) (sym (to_z-of_z w64 high q)) ∙ ap (λ z. int_lt (to_z w64 (of_z w64 high)) z) (sym (to_z-of_z w64 low p)) ∙ e)

-- offsets of 64 bits, as a call passes them on
pub passed : (z : ℤ) → FitsSigned w64 z → to_z w64 (of_z w64 z) ≡ z
passed z h = to_z-of_z w64 z h

pub inside-passed : (a : Area) (low high : ℤ) (i : Interval) → FitsSigned w64 low → FitsSigned w64 high → int_lt (to_z w64 (of_z w64 high)) (to_z w64 (of_z w64 low)) ≡ false → (low ≤ℤ high → IsInside (interval_to a low high)) → i ≡ interval_to a (to_z w64 (of_z w64 low)) (to_z w64 (of_z w64 high)) → IsInside i
inside-passed a low high i p q e h k =
    let same = k ∙ ap (λ z. interval_to a z (to_z w64 (of_z w64 high))) (passed low p) ∙ ap (λ z. interval_to a low z) (passed high q) in
    subst IsInside (sym same) (h (not_below low high p q e))

-- the first is of an earlier area, or of the same one and lies so
unfoldable pub Lies : (ℤ → ℤ → Type 0) → Interval → Interval → Type 0
Lies R i j = (area_cmp i.area j.area ≡ Less) ⊎ ((i.area ≡ j.area) × R i.end j.low)

pub before-lies : (i j : Interval) → is_before i j ≡ true → Lies (◌≤ℤ◌) i j
unfolding is_before Lies
before-lies i j e =
    elim (by_area-true (area_cmp i.area j.area) (int_le i.end j.low) e) [
      | inl l ↦ inl l
      | inr b ↦ inr (area_cmp-equal i.area j.area b.0, int_le-true i.end j.low b.1)
    ]

pub before-from : (i j : Interval) → Lies (◌≤ℤ◌) i j → is_before i j ≡ true
unfolding is_before Lies
before-from i j h =
    elim h [
      | inl l ↦ by_area-less (area_cmp i.area j.area) (int_le i.end j.low) l
      | inr b ↦ by_area-equal (area_cmp i.area j.area) (int_le i.end j.low) (ap (λ a. area_cmp a j.area) b.0 ∙ area_cmp-refl j.area) (int_le-from i.end j.low b.1)
    ]

pub left-lies : (i j : Interval) → is_left i j ≡ true → Lies (◌<ℤ◌) i j
unfolding is_left Lies
left-lies i j e =
    elim (by_area-true (area_cmp i.area j.area) (int_lt i.end j.low) e) [
      | inl l ↦ inl l
      | inr b ↦ inr (area_cmp-equal i.area j.area b.0, int_lt-true i.end j.low b.1)
    ]

pub left-from : (i j : Interval) → Lies (◌<ℤ◌) i j → is_left i j ≡ true
unfolding is_left Lies
left-from i j h =
    elim h [
      | inl l ↦ by_area-less (area_cmp i.area j.area) (int_lt i.end j.low) l
      | inr b ↦ by_area-equal (area_cmp i.area j.area) (int_lt i.end j.low) (ap (λ a. area_cmp a j.area) b.0 ∙ area_cmp-refl j.area) (int_lt-from i.end j.low b.1)
    ]

Lies-trans : (R : ℤ → ℤ → Type 0) (i j k : Interval) → (R i.end j.low → R j.end k.low → R i.end k.low) → Lies R i j → Lies R j k → Lies R i k
unfolding Lies
Lies-trans R i j k f g h =
    elim g [
      | inl l ↦ elim h [
        | inl m ↦ inl (area_total.trans i.area j.area k.area l m)
        | inr n ↦ inl (ap (λ a. area_cmp i.area a) (sym n.0) ∙ l)
      ]
      | inr b ↦ elim h [
        | inl m ↦ inl (ap (λ a. area_cmp a k.area) b.0 ∙ m)
        | inr n ↦ inr (b.0 ∙ n.0, f b.1 n.1)
      ]
    ]

pub is_before-trans : (i j k : Interval) → j.low ≤ℤ j.end → is_before i j ≡ true → is_before j k ≡ true → is_before i k ≡ true
is_before-trans i j k o e h = before-from i k (Lies-trans (◌≤ℤ◌) i j k (λ p q. omega (arith, ints, o, p, q)) (before-lies i j e) (before-lies j k h))

pub is_left-trans : (i j k : Interval) → j.low ≤ℤ j.end → is_left i j ≡ true → is_left j k ≡ true → is_left i k ≡ true
is_left-trans i j k o e h = left-from i k (Lies-trans (◌<ℤ◌) i j k (λ p q. omega (arith, ints, o, p, q)) (left-lies i j e) (left-lies j k h))

-- two intervals of one area, neither of which ends before the other begins
pub record Touches (i j : Interval) : Type 0 where
  pub area : i.area ≡ j.area
  pub low : j.low ≤ℤ i.end
  pub high : i.low ≤ℤ j.end

not_left : (i j : Interval) → is_left i j ≡ false → (area_cmp i.area j.area ≡ Greater) ⊎ ((i.area ≡ j.area) × (j.low ≤ℤ i.end))
unfolding is_left
not_left i j e =
    elim (by_area-false (area_cmp i.area j.area) (int_lt i.end j.low) e) [
      | inl l ↦ inl l
      | inr b ↦ inr (area_cmp-equal i.area j.area b.0, int_lt-false i.end j.low b.1)
    ]

pub touching : (i j : Interval) → is_left i j ≡ false → is_left j i ≡ false → Touches i j
touching i j e h =
    elim (not_left i j e) [
      | inl l ↦ elim (not_left j i h) [
        | inl m ↦ absurd (let r = area_total.antisymm i.area j.area in let k : Greater ≡ Less = sym l ∙ r ∙ ap ordering_reverse m in cc)
        | inr n ↦ absurd (let k : Greater ≡ Equal = sym l ∙ ap (λ a. area_cmp i.area a) n.0 ∙ area_cmp-refl i.area in cc)
      ]
      | inr b ↦ elim (not_left j i h) [
        | inl m ↦ absurd (let k : Greater ≡ Equal = sym m ∙ ap (λ a. area_cmp j.area a) b.0 ∙ area_cmp-refl j.area in cc)
        | inr n ↦ record { area = b.0; low = b.1; high = n.1 }
      ]
    ]

-- what lies to the left of two intervals that touch lies to the left of both as one
pub left-hull : (k i j : Interval) → i.area ≡ j.area → is_left k i ≡ true → is_left k j ≡ true → is_left k (hull i j) ≡ true
unfolding Lies
left-hull k i j s e h =
    elim (left-lies k i e) [
      | inl l ↦ left-from k (hull i j) (inl l)
      | inr b ↦ elim (left-lies k j h) [
        | inl m ↦ absurd (let q : Less ≡ Equal = sym m ∙ ap (λ a. area_cmp a j.area) (b.0 ∙ s) ∙ area_cmp-refl j.area in cc)
        | inr n ↦ left-from k (hull i j) (inr (b.0, omega (arith, ints, int_min_is i.low j.low, b.1, n.1)))
      ]
    ]
