-- Dirty ranges by spots: what is found at an offset, and what a write leaves.
use Rattle.std.proofs.Common.{◌≡◌, Bool, true, false, cond, List, [], ◌∷◌, ◌++◌, map, filter, Some, Result, refl, sym, ap, ◌∙◌, subst, arith, ℤ, ◌≤ℤ◌, inl, inr}
use Rattle.std.specs.Prelude.{IfOk, ◌&&◌, not}
use Rattle.std.specs.Ordering.{ordering_reverse}
use Rattle.std.specs.declared.cmp.Ordering.TheVariants.{Less, Equal, Greater}
use Rattle.std.proofs.lemmas.Bool.{false≢true, not-false}
use Rattle.std.proofs.lemmas.Int.{ints, int_max_is, int_min_is}
use Rattle.partitioned_memory.specs.declared.area.Interval.{Interval}
use Rattle.partitioned_memory.specs.declared.fact.Spot.{Spot}
use Rattle.partitioned_memory.specs.declared.fact.Dirty.{Dirty}
use Rattle.partitioned_memory.specs.Areas.{IsBounded, area_cmp, hull, is_left}
use Rattle.partitioned_memory.specs.Lists.{Every, Ascends, Falls, around}
use Rattle.partitioned_memory.specs.Pairs.{IsParted, pair_before}
use Rattle.partitioned_memory.specs.Held.{dirty_at, dirty_before, dirty_of, dirty_with, hull_of, interval_of_dirty, pair_of_dirty}
use Rattle.partitioned_memory.proofs.ListLaws.{Every-both, Every-filter, Every-weaker, filter-by}
use Rattle.partitioned_memory.proofs.Cuts.{Every-unmap, filter-all, filter-none}
use Rattle.partitioned_memory.proofs.Orders.{Lies, Touches, area_cmp-refl, area_total, is_left-trans, left-from, left-lies, touching}
use Rattle.partitioned_memory.proofs.FactSpots.{less-spot, low-spot, map-around, map-filter, ok-mapped}
use Rattle.partitioned_memory.proofs.Kept.{Ascends-dirty_with, Every-dirty_with}
use Rattle.std.proofs.Math.Bool.{and-false}

abbrev IsRange : Dirty → Type 0
IsRange r = IsBounded (interval_of_dirty r)

-- two intervals do not both come first
pub left-apart : (i j : Interval) → i.low ≤ℤ i.end → j.low ≤ℤ j.end → is_left i j ≡ true → is_left j i ≡ false
unfolding Lies
left-apart i j f o e =
    elim (is_left j i) as (λ b. is_left j i ≡ b → b ≡ false) [
      | true ↦ λ h. absurd (elim (left-lies i j e) [
        | inl l ↦ elim (left-lies j i h) [
          | inl m ↦ (let r = area_total.antisymm i.area j.area in let k : Less ≡ Greater = sym l ∙ r ∙ ap ordering_reverse m in cc)
          | inr n ↦ (let k : Less ≡ Equal = sym l ∙ ap (λ a. area_cmp i.area a) n.0 ∙ area_cmp-refl i.area in cc)
        ]
        | inr b ↦ elim (left-lies j i h) [
          | inl m ↦ (let k : Less ≡ Equal = sym m ∙ ap (λ a. area_cmp j.area a) b.0 ∙ area_cmp-refl j.area in cc)
          | inr n ↦ omega (arith, ints, f, o, b.1, n.1)
        ]
      ])
      | false ↦ λ h. refl
    ] refl

-- ---- what a write of any bytes leaves

-- the ranges that lie neither to the left nor to the right
abbrev touch : Interval → Dirty → Bool
touch i r = not (is_left (interval_of_dirty r) i) && not (is_left i (interval_of_dirty r))

-- to the right of a range that touches an interval, the two as one are to the left of what the interval is to the left of
right-of-hull : (i j k : Interval) → Touches j i → is_left j k ≡ true → is_left (hull i j) k ≡ is_left i k
unfolding Lies
right-of-hull i j k t e =
    elim (is_left i k) as (λ b. is_left i k ≡ b → is_left (hull i j) k ≡ b) [
      | true ↦ λ h.
          elim (left-lies i k h) [
            | inl l ↦ left-from (hull i j) k (inl l)
            | inr b ↦ elim (left-lies j k e) [
              | inl m ↦ left-from (hull i j) k (inl (ap (λ a. area_cmp a k.area) (sym t.area) ∙ m))
              | inr n ↦ left-from (hull i j) k (inr (b.0, omega (arith, ints, int_max_is i.end j.end, b.1, n.1)))
            ]
          ]
      | false ↦ λ h.
          elim (is_left (hull i j) k) as (λ b. is_left (hull i j) k ≡ b → b ≡ false) [
            | true ↦ λ q.
                absurd (false≢true (sym h ∙ elim (left-lies (hull i j) k q) [
                  | inl l ↦ left-from i k (inl l)
                  | inr b ↦ left-from i k (inr (b.0, omega (arith, ints, int_max_is i.end j.end, b.1)))
                ]))
            | false ↦ λ q. refl
          ] refl
    ] refl

-- what lies to the right of a range that touches an interval is not to the left of the two as one
not-left-of-hull : (i j k : Interval) → i.low ≤ℤ i.end → j.low ≤ℤ j.end → k.low ≤ℤ k.end → Touches j i → is_left j k ≡ true → is_left k (hull i j) ≡ false
unfolding Lies
not-left-of-hull i j k o p q t e =
    elim (is_left k (hull i j)) as (λ b. is_left k (hull i j) ≡ b → b ≡ false) [
      | true ↦ λ h. absurd (elim (left-lies k (hull i j) h) [
        | inl l ↦ elim (left-lies j k e) [
          | inl m ↦ (let r = area_total.antisymm k.area j.area in let s : area_cmp k.area j.area ≡ Less = ap (λ a. area_cmp k.area a) t.area ∙ l in let c : Less ≡ Greater = sym s ∙ r ∙ ap ordering_reverse m in cc)
          | inr n ↦ (let s : area_cmp k.area i.area ≡ Equal = ap (λ a. area_cmp a i.area) (sym n.0 ∙ t.area) ∙ area_cmp-refl i.area in let c : Less ≡ Equal = sym l ∙ s in cc)
        ]
        | inr b ↦ elim (left-lies j k e) [
          | inl m ↦ (let s : area_cmp j.area k.area ≡ Equal = ap (λ a. area_cmp a k.area) (t.area ∙ sym b.0) ∙ area_cmp-refl k.area in let c : Less ≡ Equal = sym m ∙ s in cc)
          | inr n ↦ omega (arith, ints, int_min_is i.low j.low, o, p, q, b.1, n.1, t.low, t.high)
        ]
      ])
      | false ↦ λ h. refl
    ] refl

hull-ordered : (i j : Interval) → i.low ≤ℤ i.end → j.low ≤ℤ j.end → (hull i j).low ≤ℤ (hull i j).end
hull-ordered i j o p = omega (arith, ints, int_min_is i.low j.low, int_max_is i.end j.end, o, p)

-- what lies to the right of a range that is not to the left of an interval is not either
right-not-left : (i j k : Interval) → k.low ≤ℤ k.end → is_left j i ≡ false → is_left j k ≡ true → is_left k i ≡ false
right-not-left i j k o e h =
    elim (is_left k i) as (λ b. is_left k i ≡ b → b ≡ false) [
      | true ↦ λ q. absurd (false≢true (sym e ∙ is_left-trans j k i o h q))
      | false ↦ λ q. refl
    ] refl

untouched : (i : Interval) (s : Dirty) → is_left i (interval_of_dirty s) ≡ true → touch i s ≡ false
untouched i s e = ap (λ b. not (is_left (interval_of_dirty s) i) && not b) e ∙ and-false (not (is_left (interval_of_dirty s) i))

-- the dirty ranges with one more: those to its left, all that it touches as one, and those to its right
pub dirty-around : (i : Interval) (rs : List Dirty) → i.low ≤ℤ i.end → Every IsRange rs → Ascends dirty_before rs → dirty_with i rs ≡ filter (λ r. is_left (interval_of_dirty r) i) rs ++ (dirty_of (hull_of i (filter (touch i) rs)) ∷ filter (λ r. is_left i (interval_of_dirty r)) rs)
dirty-around i [] o f h = refl
dirty-around i (r ∷ rs) o f h =
    let j = interval_of_dirty r in
    let F = filter (λ s. is_left (interval_of_dirty s) i) rs in
    let T = filter (touch i) rs in
    let G = filter (λ s. is_left i (interval_of_dirty s)) rs in
    let own : j.low ≤ℤ j.end = f.0.ordered in
    elim (is_left j i) as (λ b. is_left j i ≡ b → cond b (r ∷ dirty_with i rs) (cond (is_left i j) (dirty_of i ∷ r ∷ rs) (dirty_with (hull i j) rs)) ≡ cond b (r ∷ F) F ++ (dirty_of (hull_of i (cond (not b && not (is_left i j)) (r ∷ T) T)) ∷ cond (is_left i j) (r ∷ G) G)) [
      | true ↦ λ e.
          ap (λ ys. r ∷ ys) (dirty-around i rs o f.1 h.1)
          ∙ ap (λ b. (r ∷ F) ++ (dirty_of (hull_of i T) ∷ cond b (r ∷ G) G)) (sym (left-apart j i own o e))
      | false ↦ λ e.
          elim (is_left i j) as (λ c. is_left i j ≡ c → cond c (dirty_of i ∷ r ∷ rs) (dirty_with (hull i j) rs) ≡ F ++ (dirty_of (hull_of i (cond (not c) (r ∷ T) T)) ∷ cond c (r ∷ G) G)) [
            | true ↦ λ k.
                let right : Every (λ s. is_left i (interval_of_dirty s) ≡ true) rs = Every-weaker (λ s. dirty_before r s ≡ true) (λ s. is_left i (interval_of_dirty s) ≡ true) rs (λ s q. is_left-trans i j (interval_of_dirty s) own k q) h.0 in
                let none : F ≡ [] = filter-none (λ s. is_left (interval_of_dirty s) i) rs (Every-both IsRange (λ s. is_left i (interval_of_dirty s) ≡ true) (λ s. is_left (interval_of_dirty s) i ≡ false) rs (λ s p q. left-apart i (interval_of_dirty s) o p.ordered q) f.1 right) in
                let no_touch : T ≡ [] = filter-none (touch i) rs (Every-weaker (λ s. is_left i (interval_of_dirty s) ≡ true) (λ s. touch i s ≡ false) rs (λ s q. untouched i s q) right) in
                let all : G ≡ rs = filter-all (λ s. is_left i (interval_of_dirty s)) rs right in
                sym (ap (λ ys. ys ++ (dirty_of (hull_of i T) ∷ r ∷ G)) none ∙ ap (λ ys. dirty_of (hull_of i ys) ∷ r ∷ G) no_touch ∙ ap (λ ys. dirty_of i ∷ r ∷ ys) all)
            | false ↦ λ k.
                let t : Touches j i = touching j i e k in
                let both : Every (λ s. IsRange s × (is_left j (interval_of_dirty s) ≡ true)) rs = Every-both IsRange (λ s. dirty_before r s ≡ true) (λ s. IsRange s × (is_left j (interval_of_dirty s) ≡ true)) rs (λ s p q. (p, q)) f.1 h.0 in
                let same_left : Every (λ s. is_left (interval_of_dirty s) (hull i j) ≡ is_left (interval_of_dirty s) i) rs = Every-weaker (λ s. IsRange s × (is_left j (interval_of_dirty s) ≡ true)) (λ s. is_left (interval_of_dirty s) (hull i j) ≡ is_left (interval_of_dirty s) i) rs (λ s p.
                not-left-of-hull i j (interval_of_dirty s) o own p.0.ordered t p.1 ∙ sym (right-not-left i j (interval_of_dirty s) p.0.ordered e p.1)) both in
                let same_right : Every (λ s. is_left (hull i j) (interval_of_dirty s) ≡ is_left i (interval_of_dirty s)) rs = Every-weaker (λ s. dirty_before r s ≡ true) (λ s. is_left (hull i j) (interval_of_dirty s) ≡ is_left i (interval_of_dirty s)) rs (λ s q. right-of-hull i j (interval_of_dirty s) t q) h.0 in
                let same_touch : Every (λ s. touch (hull i j) s ≡ touch i s) rs = Every-both (λ s. is_left (interval_of_dirty s) (hull i j) ≡ is_left (interval_of_dirty s) i) (λ s. is_left (hull i j) (interval_of_dirty s) ≡ is_left i (interval_of_dirty s)) (λ s. touch (hull i j) s ≡ touch i s) rs (λ s p q.
                ap (λ b. not b && not (is_left (hull i j) (interval_of_dirty s))) p ∙ ap (λ b. not (is_left (interval_of_dirty s) i) && not b) q) same_left same_right in
                dirty-around (hull i j) rs (hull-ordered i j o own) f.1 h.1
                ∙ ap (λ ys. ys ++ (dirty_of (hull_of (hull i j) (filter (touch (hull i j)) rs)) ∷ filter (λ s. is_left (hull i j) (interval_of_dirty s)) rs)) (filter-by (λ s. is_left (interval_of_dirty s) (hull i j)) (λ s. is_left (interval_of_dirty s) i) rs same_left)
                ∙ ap (λ ys. F ++ (dirty_of (hull_of (hull i j) ys) ∷ filter (λ s. is_left (hull i j) (interval_of_dirty s)) rs)) (filter-by (touch (hull i j)) (touch i) rs same_touch)
                ∙ ap (λ ys. F ++ (dirty_of (hull_of (hull i j) T) ∷ ys)) (filter-by (λ s. is_left (hull i j) (interval_of_dirty s)) (λ s. is_left i (interval_of_dirty s)) rs same_right)
          ] refl
    ] refl

-- ---- by spots

range-spots : (p q : Spot × ℤ) → IsRange (dirty_at p) → dirty_before (dirty_at p) (dirty_at q) ≡ true → pair_before p q ≡ true
unfolding Lies
range-spots p q o e =
    elim (left-lies (interval_of_dirty (dirty_at p)) (interval_of_dirty (dirty_at q)) e) [
      | inl l ↦ less-spot p.0 q.0 l
      | inr b ↦ low-spot p.0 q.0 b.0 (let k = o.ordered in omega (arith, ints, k, b.1))
    ]

pub Ascends-ranges : (pairs : List (Spot × ℤ)) → Every IsRange (map dirty_at pairs) → Ascends dirty_before (map dirty_at pairs) → Ascends pair_before pairs
Ascends-ranges [] f h = tt
Ascends-ranges (p ∷ pairs) f h =
    (Every-weaker (λ q. dirty_before (dirty_at p) (dirty_at q) ≡ true) (λ q. pair_before p q ≡ true) pairs (λ q e. range-spots p q f.0 e) (Every-unmap dirty_at (λ y. dirty_before (dirty_at p) y ≡ true) pairs h.0), Ascends-ranges pairs f.1 h.1)

falls-left : (i : Interval) (pairs : List (Spot × ℤ)) → Every IsRange (map dirty_at pairs) → Ascends dirty_before (map dirty_at pairs) → Falls (λ p. is_left (interval_of_dirty (dirty_at p)) i) pairs
falls-left i [] f h = tt
falls-left i (p ∷ pairs) f h =
    (λ e. Every-unmap dirty_at (λ r. is_left (interval_of_dirty r) i ≡ false) pairs (Every-both IsRange (λ r. dirty_before (dirty_at p) r ≡ true) (λ r. is_left (interval_of_dirty r) i ≡ false) (map dirty_at pairs) (λ r a b. right-not-left i (interval_of_dirty (dirty_at p)) (interval_of_dirty r) a.ordered e b) f.1 h.0), falls-left i pairs f.1 h.1)

falls-right : (i : Interval) (pairs : List (Spot × ℤ)) → Every IsRange (map dirty_at pairs) → Ascends dirty_before (map dirty_at pairs) → Falls (λ p. not (is_left i (interval_of_dirty (dirty_at p)))) pairs
falls-right i [] f h = tt
falls-right i (p ∷ pairs) f h =
    (λ e. Every-unmap dirty_at (λ r. not (is_left i (interval_of_dirty r)) ≡ false) pairs (Every-weaker (λ r. dirty_before (dirty_at p) r ≡ true) (λ r. not (is_left i (interval_of_dirty r)) ≡ false) (map dirty_at pairs) (λ r b. ap not (is_left-trans i (interval_of_dirty (dirty_at p)) (interval_of_dirty r) f.0.ordered (not-false (is_left i (interval_of_dirty (dirty_at p))) e) b)) h.0), falls-right i pairs f.1 h.1)

-- the ranges to the left of an interval come first, and those to its right last
pub parted-ranges : (i : Interval) (pairs : List (Spot × ℤ)) → i.low ≤ℤ i.end → Every IsRange (map dirty_at pairs) → Ascends dirty_before (map dirty_at pairs) → IsParted (λ p. is_left (interval_of_dirty (dirty_at p)) i) (λ p. is_left i (interval_of_dirty (dirty_at p))) pairs
parted-ranges i pairs o f h = record { start = falls-left i pairs f h; end = falls-right i pairs f h }

-- what is met, as ranges
pub met-ranges : (i : Interval) (pairs met : List (Spot × ℤ)) → met ≡ filter (λ p. not (is_left (interval_of_dirty (dirty_at p)) i) && not (is_left i (interval_of_dirty (dirty_at p)))) pairs → map dirty_at met ≡ filter (touch i) (map dirty_at pairs)
met-ranges i pairs met e = ap (map dirty_at) e ∙ map-filter dirty_at (touch i) pairs

pub met-bounded : (i : Interval) (pairs met : List (Spot × ℤ)) → met ≡ filter (λ p. not (is_left (interval_of_dirty (dirty_at p)) i) && not (is_left i (interval_of_dirty (dirty_at p)))) pairs → Every IsRange (map dirty_at pairs) → Every IsRange (map dirty_at met)
met-bounded i pairs met e f = subst (Every IsRange) (sym (met-ranges i pairs met e)) (Every-filter IsRange (touch i) (map dirty_at pairs) f)

hull-bounded : (i j : Interval) → Touches j i → IsBounded i → IsBounded j → IsBounded (hull i j)
hull-bounded i j t p q = record {
  least = omega (arith, ints, int_min_is i.low j.low, p.least, q.least);
  greatest = omega (arith, ints, int_max_is i.end j.end, p.greatest, q.greatest);
  ordered = hull-ordered i j p.ordered q.ordered;
}

-- what a write leaves
pub ranges-around : (i whole : Interval) (pairs met : List (Spot × ℤ)) → i.low ≤ℤ i.end → Every IsRange (map dirty_at pairs) → Ascends dirty_before (map dirty_at pairs) → met ≡ filter (λ p. not (is_left (interval_of_dirty (dirty_at p)) i) && not (is_left i (interval_of_dirty (dirty_at p)))) pairs → whole ≡ hull_of i (map dirty_at met) → map dirty_at (around (λ p. is_left (interval_of_dirty (dirty_at p)) i) (Some (pair_of_dirty (dirty_of whole))) (λ p. is_left i (interval_of_dirty (dirty_at p))) pairs) ≡ dirty_with i (map dirty_at pairs)
ranges-around i whole pairs met o f h e k =
    map-around dirty_at (λ r. is_left (interval_of_dirty r) i) (λ r. is_left i (interval_of_dirty r)) (Some (pair_of_dirty (dirty_of whole))) pairs
    ∙ ap (λ z. filter (λ r. is_left (interval_of_dirty r) i) (map dirty_at pairs) ++ (dirty_of z ∷ filter (λ r. is_left i (interval_of_dirty r)) (map dirty_at pairs))) (k ∙ ap (hull_of i) (met-ranges i pairs met e))
    ∙ sym (dirty-around i (map dirty_at pairs) o f h)

pub ranges-ascend : (i whole : Interval) (pairs met : List (Spot × ℤ)) → IsBounded i → Every IsRange (map dirty_at pairs) → Ascends dirty_before (map dirty_at pairs) → met ≡ filter (λ p. not (is_left (interval_of_dirty (dirty_at p)) i) && not (is_left i (interval_of_dirty (dirty_at p)))) pairs → whole ≡ hull_of i (map dirty_at met) → Ascends pair_before (around (λ p. is_left (interval_of_dirty (dirty_at p)) i) (Some (pair_of_dirty (dirty_of whole))) (λ p. is_left i (interval_of_dirty (dirty_at p))) pairs)
ranges-ascend i whole pairs met o f h e k =
    let all = around (λ p. is_left (interval_of_dirty (dirty_at p)) i) (Some (pair_of_dirty (dirty_of whole))) (λ p. is_left i (interval_of_dirty (dirty_at p))) pairs in
    let same : map dirty_at all ≡ dirty_with i (map dirty_at pairs) = ranges-around i whole pairs met o.ordered f h e k in
    Ascends-ranges all
    (subst (Every IsRange) (sym same) (Every-dirty_with IsBounded i (map dirty_at pairs) hull-bounded o f))
    (subst (Ascends dirty_before) (sym same) (Ascends-dirty_with i (map dirty_at pairs) (Every-weaker IsRange (λ r. (interval_of_dirty r).low ≤ℤ (interval_of_dirty r).end) (map dirty_at pairs) (λ r b. b.ordered) f) h))

-- the same of what a call makes
pub ranges-made : {E : Type 0} (i whole : Interval) (new : Dirty) (pair : Spot × ℤ) (pairs met : List (Spot × ℤ)) (r : Result (List (Spot × ℤ)) E) → IsBounded i → Every IsRange (map dirty_at pairs) → Ascends dirty_before (map dirty_at pairs) → met ≡ filter (λ p. not (is_left (interval_of_dirty (dirty_at p)) i) && not (is_left i (interval_of_dirty (dirty_at p)))) pairs → whole ≡ hull_of i (map dirty_at met) → new ≡ dirty_of whole → pair ≡ pair_of_dirty new → IfOk r (λ all. all ≡ around (λ p. is_left (interval_of_dirty (dirty_at p)) i) (Some pair) (λ p. is_left i (interval_of_dirty (dirty_at p))) pairs) → IfOk r (λ all. map dirty_at all ≡ dirty_with i (map dirty_at pairs))
ranges-made i whole new pair pairs met r o f h e k n m q =
    ok-mapped dirty_at r (around (λ p. is_left (interval_of_dirty (dirty_at p)) i) (Some pair) (λ p. is_left i (interval_of_dirty (dirty_at p))) pairs) (dirty_with i (map dirty_at pairs))
    (ap (λ (z : Spot × ℤ). map dirty_at (around (λ p. is_left (interval_of_dirty (dirty_at p)) i) (Some z) (λ p. is_left i (interval_of_dirty (dirty_at p))) pairs)) (m ∙ ap pair_of_dirty n)
    ∙ ranges-around i whole pairs met o.ordered f h e k) q

pub ranges-made-ascend : (i whole : Interval) (new : Dirty) (pair : Spot × ℤ) (pairs met : List (Spot × ℤ)) → IsBounded i → Every IsRange (map dirty_at pairs) → Ascends dirty_before (map dirty_at pairs) → met ≡ filter (λ p. not (is_left (interval_of_dirty (dirty_at p)) i) && not (is_left i (interval_of_dirty (dirty_at p)))) pairs → whole ≡ hull_of i (map dirty_at met) → new ≡ dirty_of whole → pair ≡ pair_of_dirty new → Ascends pair_before (around (λ p. is_left (interval_of_dirty (dirty_at p)) i) (Some pair) (λ p. is_left i (interval_of_dirty (dirty_at p))) pairs)
ranges-made-ascend i whole new pair pairs met o f h e k n m =
    subst (λ (z : Spot × ℤ). Ascends pair_before (around (λ p. is_left (interval_of_dirty (dirty_at p)) i) (Some z) (λ p. is_left i (interval_of_dirty (dirty_at p))) pairs)) (sym (m ∙ ap pair_of_dirty n))
    (ranges-ascend i whole pairs met o f h e k)

pub ranges-back : (pairs : List (Spot × ℤ)) → pairs ≡ map pair_of_dirty (map dirty_at pairs)
ranges-back [] = refl
ranges-back (p ∷ pairs) = ap (λ ps. p ∷ ps) (ranges-back pairs)
