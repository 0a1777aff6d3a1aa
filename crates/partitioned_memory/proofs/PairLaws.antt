-- Laws of the order of spots, and of lists of pairs in it.
use Rattle.std.proofs.Common.{◌≡◌, ℤ, true, false, List, ◌++◌, filter, Some, None, refl, sym, ap, ◌∙◌, subst}
use Rattle.std.specs.Prelude.{not, ◌||◌, ◌&&◌}
use Rattle.std.specs.Option.{option_map}
use Rattle.std.specs.Cmp.{IsTotalOrder}
use Rattle.std.specs.Ordering.{int_eq, is_eq, is_lt, ordering_reverse}
use Rattle.std.specs.declared.cmp.Ordering.{Ordering}
use Rattle.std.specs.declared.cmp.Ordering.TheVariants.{Less, Equal, Greater}
use Rattle.std.proofs.lemmas.Bool.{and_parts, false≢true, not-false}
use Rattle.std.proofs.lemmas.List.Elements.{filter_agree}
use Rattle.partitioned_memory.specs.declared.area.Area.{Area}
use Rattle.partitioned_memory.specs.declared.fact.Spot.{Spot}
use Rattle.partitioned_memory.specs.Areas.{same_area}
use Rattle.partitioned_memory.specs.contracts.fact.SpotOrd.TheImpl as order
use Rattle.partitioned_memory.specs.Lists.{Ascends, around, placed}
use Rattle.partitioned_memory.specs.Pairs.{IsParted, first_in, pair_before, pairs_with, pairs_without, same_spot, spot_before, spot_cmp, value_at}
use Rattle.partitioned_memory.proofs.ListLaws.{Every-weaker, Every-kept, Ascends-filter, Ascends-placed, find-same}
use Rattle.partitioned_memory.proofs.Orders.{same_area-is, less-is, apart-by, other-by, int_eq-true}
use Rattle.partitioned_memory.proofs.Cuts.{Falls-ascending, around-none, placed-between}

-- ---- spots

pub spot_total : IsTotalOrder spot_cmp
unfolding spot_cmp
spot_total = order.Laws.total-law

-- spots that tie are one
same_spot-by_cmp : (a b : Spot) → same_spot a b ≡ is_eq (spot_cmp a b)
unfolding spot_cmp same_spot
same_spot-by_cmp a b = order.Laws.matches_eq-law a b

pub same_spot-parts : (a b : Spot) → same_spot a b ≡ (same_area a.area b.area && int_eq a.low b.low)
unfolding same_spot same_area
same_spot-parts a b = refl

pub same_spot-is : (a b : Spot) → same_spot a b ≡ true → a ≡ b
same_spot-is a b e =
    let parts = and_parts (same_area a.area b.area) (int_eq a.low b.low) (sym (same_spot-parts a b) ∙ e) in
    ap (λ (z : Area). let s : Spot = record { area = z; low = a.low } in s) (same_area-is a.area b.area parts.0)
    ∙ ap (λ (z : ℤ). let s : Spot = record { area = b.area; low = z } in s) (int_eq-true a.low b.low parts.1)

pub spot_before-trans : (a b c : Spot) → spot_before a b ≡ true → spot_before b c ≡ true → spot_before a c ≡ true
spot_before-trans a b c e h = ap is_lt (spot_total.trans a b c (less-is (spot_cmp a b) e) (less-is (spot_cmp b c) h))

pub pair_before-trans : {V : Type 0} (p q r : Spot × V) → pair_before p q ≡ true → pair_before q r ≡ true → pair_before p r ≡ true
pair_before-trans p q r = spot_before-trans p.0 q.0 r.0

-- no spot comes both before and after another
pub spots-apart : (a b : Spot) → spot_before a b ≡ true → spot_before b a ≡ false
spots-apart a b e = ap is_lt (spot_total.antisymm b a) ∙ apart-by (spot_cmp a b) e

same-by : (o : Ordering) → (not (is_lt o) && not (is_lt (ordering_reverse o))) ≡ is_eq o
same-by Less = refl
same-by Equal = refl
same-by Greater = refl

-- a spot that is another comes before it or after it
pub other-spot : (a b : Spot) → (spot_before a b || spot_before b a) ≡ not (same_spot a b)
other-spot a b =
    ap (λ o. is_lt (spot_cmp a b) || is_lt o) (spot_total.antisymm b a)
    ∙ other-by (spot_cmp a b)
    ∙ ap not (sym (same_spot-by_cmp a b))

-- and one that does neither is the same
one-spot : (a b : Spot) → (not (spot_before a b) && not (spot_before b a)) ≡ same_spot a b
one-spot a b =
    ap (λ o. not (is_lt (spot_cmp a b)) && not (is_lt o)) (spot_total.antisymm b a)
    ∙ same-by (spot_cmp a b)
    ∙ sym (same_spot-by_cmp a b)

-- ---- the pair of a spot

not-below : (a b k : Spot) → spot_before a b ≡ true → spot_before a k ≡ false → spot_before b k ≡ false
not-below a b k e f =
    elim (spot_before b k) as (λ s. spot_before b k ≡ s → s ≡ false) [
      | true ↦ λ h. absurd (false≢true (sym f ∙ spot_before-trans a b k e h))
      | false ↦ λ h. refl
    ] refl

pub parted-at : {V : Type 0} (k : Spot) (pairs : List (Spot × V)) → Ascends pair_before pairs → IsParted (λ p. spot_before p.0 k) (λ p. spot_before k p.0) pairs
parted-at {V} k pairs h = record {
  start = Falls-ascending pair_before (λ p. spot_before p.0 k) pairs (λ p q e f. not-below p.0 q.0 k e f) h;
  end = Falls-ascending pair_before (λ p. not (spot_before k p.0)) pairs (λ p q e f. ap not (spot_before-trans k p.0 q.0 (not-false (spot_before k p.0) f) e)) h;
}

-- what `get` finds
pub value-found : {V : Type 0} (k : Spot) (pairs : List (Spot × V)) → option_map (λ p. p.1) (first_in (λ p. spot_before p.0 k) (λ p. spot_before k p.0) pairs) ≡ value_at k pairs
value-found k pairs = ap (option_map (λ p. p.1)) (find-same (λ p. not (spot_before p.0 k) && not (spot_before k p.0)) (λ p. same_spot p.0 k) (λ p. one-spot p.0 k) pairs)

around-without : {V : Type 0} (k : Spot) (pairs : List (Spot × V)) → Ascends pair_before pairs → filter (λ p. spot_before p.0 k) pairs ++ filter (λ p. spot_before k p.0) pairs ≡ pairs_without k pairs
around-without k pairs h =
    around-none (λ p. spot_before p.0 k) (λ p. spot_before k p.0) pairs (λ p e. spots-apart p.0 k e) (parted-at k pairs h).start
    ∙ filter_agree (λ p. spot_before p.0 k || spot_before k p.0) (λ p. not (same_spot p.0 k)) (λ p. other-spot p.0 k) pairs

-- what `remove` leaves
pub removed : {V : Type 0} (k : Spot) (pairs : List (Spot × V)) → Ascends pair_before pairs → around (λ p. spot_before p.0 k) None (λ p. spot_before k p.0) pairs ≡ pairs_without k pairs
removed k pairs h = around-without k pairs h

pub removed-ascends : {V : Type 0} (k : Spot) (pairs : List (Spot × V)) → Ascends pair_before pairs → Ascends pair_before (around (λ p. spot_before p.0 k) None (λ p. spot_before k p.0) pairs)
removed-ascends k pairs h = subst (Ascends pair_before) (sym (removed k pairs h)) (Ascends-filter pair_before (λ p. not (same_spot p.0 k)) pairs h)

-- what `insert` makes
pub inserted : {V : Type 0} (k : Spot) (v : V) (pairs : List (Spot × V)) → Ascends pair_before pairs → around (λ p. spot_before p.0 k) (Some (k, v)) (λ p. spot_before k p.0) pairs ≡ pairs_with k v pairs
inserted k v pairs h =
    sym (placed-between pair_before (k, v) (filter (λ p. spot_before p.0 k) pairs) (filter (λ p. spot_before k p.0) pairs)
    (Every-kept (λ p. spot_before p.0 k) pairs)
    (Every-weaker (λ p. spot_before k p.0 ≡ true) (λ p. spot_before p.0 k ≡ false) (filter (λ p. spot_before k p.0) pairs) (λ p e. spots-apart k p.0 e) (Every-kept (λ p. spot_before k p.0) pairs)))
    ∙ ap (placed pair_before (k, v)) (around-without k pairs h)

pub inserted-ascends : {V : Type 0} (k : Spot) (v : V) (pairs : List (Spot × V)) → Ascends pair_before pairs → Ascends pair_before (around (λ p. spot_before p.0 k) (Some (k, v)) (λ p. spot_before k p.0) pairs)
inserted-ascends k v pairs h =
    subst (Ascends pair_before) (sym (inserted k v pairs h))
    (Ascends-placed pair_before pair_before-trans (k, v) (pairs_without k pairs) (Ascends-filter pair_before (λ p. not (same_spot p.0 k)) pairs h)
    (Every-weaker (λ p. not (same_spot p.0 k) ≡ true) (λ p. (spot_before p.0 k || spot_before k p.0) ≡ true) (pairs_without k pairs) (λ p e. other-spot p.0 k ∙ e) (Every-kept (λ p. not (same_spot p.0 k)) pairs)))
