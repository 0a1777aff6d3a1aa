-- Facts and dirty ranges by spots: what a list of pairs around a stretch holds.
use Rattle.std.proofs.Common.{◌≡◌, Bool, true, false, cond, List, [], ◌∷◌, ◌++◌, map, filter, Option, Some, None, Result, Ok, Err, refl, sym, ap, ◌∙◌, subst, arith, ℤ, ◌≤ℤ◌, ◌<ℤ◌, inl, inr}
use Rattle.std.specs.Prelude.{IfOk, ◌||◌, ◌==◌, not, int_lt, option_to_list}
use Rattle.std.specs.Option.{option_map}
use Rattle.std.specs.Ordering.{int_cmp, is_lt, ordering_reverse, ordering_then}
use Rattle.std.specs.declared.cmp.Ordering.{Ordering}
use Rattle.std.specs.declared.cmp.Ordering.TheVariants.{Less, Equal, Greater}
use Rattle.std.proofs.lemmas.Bool.{false≢true, not-false}
use Rattle.std.proofs.lemmas.Int.{ints}
use Rattle.std.proofs.lemmas.List.{map-append}
use Rattle.domain_laws.specs.Laws.{Values}
use Rattle.partitioned_memory.specs.declared.area.Area.{Area}
use Rattle.partitioned_memory.specs.declared.area.Interval.{Interval}
use Rattle.partitioned_memory.specs.declared.fact.Spot.{Spot}
use Rattle.partitioned_memory.specs.declared.fact.Held.{Held}
use Rattle.partitioned_memory.specs.declared.fact.Fact.{Fact}
use Rattle.partitioned_memory.specs.declared.fact.Counted.{Counted}
use Rattle.partitioned_memory.specs.Areas.{area_cmp, by_area, is_before, is_off}
use Rattle.partitioned_memory.specs.Lists.{Ascends, Falls, around, placed}
use Rattle.partitioned_memory.specs.Pairs.{IsParted, pair_before, spot_before, spot_cmp}
use Rattle.partitioned_memory.specs.Held.{fact_at, fact_before, facts_off, facts_with, interval_of_fact, is_many, pair_of_fact}
use Rattle.partitioned_memory.proofs.ListLaws.{Every-kept, Every-weaker, Ascends-filter, Ascends-placed}
use Rattle.partitioned_memory.proofs.Cuts.{Every-unmap, Falls-ascending, around-none, placed-between}
use Rattle.partitioned_memory.proofs.Orders.{Lies, area_cmp-refl, area_total, before-lies, int_lt-from, is_before-trans}
use Rattle.partitioned_memory.proofs.Kept.{fact_before-trans, width-filled}

-- ---- lists through a function

pub map-filter : {X Y : Type 0} (f : X → Y) (t : Y → Bool) (xs : List X) → map f (filter (λ x. t (f x)) xs) ≡ filter t (map f xs)
map-filter f t [] = refl
map-filter f t (x ∷ xs) =
    elim (t (f x)) as (λ b. map f (cond b (x ∷ filter (λ y. t (f y)) xs) (filter (λ y. t (f y)) xs)) ≡ cond b (f x ∷ filter t (map f xs)) (filter t (map f xs))) [
      | true ↦ ap (λ ys. f x ∷ ys) (map-filter f t xs)
      | false ↦ map-filter f t xs
    ]

map-option : {X Y : Type 0} (f : X → Y) (new : Option X) → map f (option_to_list new) ≡ option_to_list (option_map f new)
map-option f None = refl
map-option f (Some x) = refl

pub map-around : {X Y : Type 0} (f : X → Y) (b a : Y → Bool) (new : Option X) (xs : List X) → map f (around (λ x. b (f x)) new (λ x. a (f x)) xs) ≡ around b (option_map f new) a (map f xs)
map-around f b a new xs =
    map-append f (filter (λ x. b (f x)) xs) (option_to_list new ++ filter (λ x. a (f x)) xs)
    ∙ ap (λ ys. ys ++ map f (option_to_list new ++ filter (λ x. a (f x)) xs)) (map-filter f b xs)
    ∙ ap (λ ys. filter b (map f xs) ++ ys) (map-append f (option_to_list new) (filter (λ x. a (f x)) xs))
    ∙ ap (λ ys. filter b (map f xs) ++ (ys ++ map f (filter (λ x. a (f x)) xs))) (map-option f new)
    ∙ ap (λ ys. filter b (map f xs) ++ (option_to_list (option_map f new) ++ ys)) (map-filter f a xs)

pub Falls-through : {X Y : Type 0} (f : X → Y) (before : Y → Y → Bool) (t : Y → Bool) (xs : List X) → ((x y : Y) → before x y ≡ true → t x ≡ false → t y ≡ false) → Ascends before (map f xs) → Falls (λ x. t (f x)) xs
Falls-through f before t [] h k = tt
Falls-through f before t (x ∷ xs) h k =
    (λ e. Every-unmap f (λ y. t y ≡ false) xs (Every-weaker (λ y. before (f x) y ≡ true) (λ y. t y ≡ false) (map f xs) (λ y q. h (f x) y q e) k.0), Falls-through f before t xs h k.1)

-- a list that is made, through a function
pub ok-mapped : {X Y E : Type 0} (f : X → Y) (r : Result (List X) E) (ys : List X) (zs : List Y) → map f ys ≡ zs → IfOk r (λ all. all ≡ ys) → IfOk r (λ all. map f all ≡ zs)
ok-mapped f (Ok xs) ys zs e h = ap (map f) h ∙ e
ok-mapped f (Err x) ys zs e h = tt

-- ---- spots by area and offset

then-less : (o : Ordering) (x y : ℤ) → is_lt (ordering_then o (int_cmp x y)) ≡ by_area o (int_lt x y)
then-less Less x y = refl
then-less Greater x y = refl
then-less Equal x y =
    elim (int_lt x y) as (λ b. is_lt (cond b Less (cond (int_lt y x) Greater Equal)) ≡ b) [
      | true ↦ refl
      | false ↦ elim (int_lt y x) as (λ b. is_lt (cond b Greater Equal) ≡ false) [ true ↦ refl | false ↦ refl ]
    ]

spot_cmp-is : (a b : Spot) → spot_cmp a b ≡ ordering_then (area_cmp a.area b.area) (int_cmp a.low b.low)
unfolding spot_cmp area_cmp
spot_cmp-is a b = refl

pub spot_before-is : (a b : Spot) → spot_before a b ≡ by_area (area_cmp a.area b.area) (int_lt a.low b.low)
spot_before-is a b = ap is_lt (spot_cmp-is a b) ∙ then-less (area_cmp a.area b.area) a.low b.low

pub less-spot : (a b : Spot) → area_cmp a.area b.area ≡ Less → spot_before a b ≡ true
less-spot a b e = spot_before-is a b ∙ ap (λ o. by_area o (int_lt a.low b.low)) e

pub low-spot : (a b : Spot) → a.area ≡ b.area → a.low <ℤ b.low → spot_before a b ≡ true
low-spot a b e l = spot_before-is a b ∙ ap (λ (z : Area). by_area (area_cmp z b.area) (int_lt a.low b.low)) e ∙ ap (λ o. by_area o (int_lt a.low b.low)) (area_cmp-refl b.area) ∙ int_lt-from a.low b.low l

-- ---- intervals with a byte

-- two intervals do not both come first
pub intervals-apart : (i j : Interval) → i.low <ℤ i.end → j.low ≤ℤ j.end → is_before i j ≡ true → is_before j i ≡ false
unfolding Lies
intervals-apart i j f o e =
    elim (is_before j i) as (λ b. is_before j i ≡ b → b ≡ false) [
      | true ↦ λ h. absurd (elim (before-lies i j e) [
        | inl l ↦ elim (before-lies j i h) [
          | inl m ↦ (let r = area_total.antisymm i.area j.area in let k : Less ≡ Greater = sym l ∙ r ∙ ap ordering_reverse m in cc)
          | inr n ↦ (let k : Less ≡ Equal = sym l ∙ ap (λ a. area_cmp i.area a) n.0 ∙ area_cmp-refl i.area in cc)
        ]
        | inr b ↦ elim (before-lies j i h) [
          | inl m ↦ (let k : Less ≡ Equal = sym m ∙ ap (λ a. area_cmp j.area a) b.0 ∙ area_cmp-refl j.area in cc)
          | inr n ↦ omega (arith, ints, f, o, b.1, n.1)
        ]
      ])
      | false ↦ λ h. refl
    ] refl

-- ---- facts

-- facts in order have their spots in order
pub fact-spots : {D : Type 0} (p q : Spot × Held D) → fact_before (fact_at p) (fact_at q) ≡ true → pair_before p q ≡ true
unfolding Lies
fact-spots p q e =
    elim (before-lies (interval_of_fact (fact_at p)) (interval_of_fact (fact_at q)) e) [
      | inl l ↦ less-spot p.0 q.0 l
      | inr b ↦ low-spot p.0 q.0 b.0 (let f = width-filled p.0.low p.1.w in omega (arith, ints, f, b.1))
    ]

pub Ascends-facts : {D : Type 0} (pairs : List (Spot × Held D)) → Ascends fact_before (map fact_at pairs) → Ascends pair_before pairs
Ascends-facts [] h = tt
Ascends-facts {D} (p ∷ pairs) h =
    (Every-weaker (λ q. fact_before (fact_at p) (fact_at q) ≡ true) (λ q. pair_before p q ≡ true) pairs (λ q e. fact-spots p q e) (Every-unmap (fact_at {D = D}) (λ y. fact_before (fact_at p) y ≡ true) pairs h.0), Ascends-facts pairs h.1)

pub fact-filled : {D : Type 0} (f : Fact D) → (interval_of_fact f).low <ℤ (interval_of_fact f).end
fact-filled f = width-filled f.low f.w

pub ordered : {D : Type 0} (f : Fact D) → (interval_of_fact f).low ≤ℤ (interval_of_fact f).end
ordered f = let filled = fact-filled f in omega (arith, ints, filled)

later-not-before : {D : Type 0} (f g : Fact D) (i : Interval) → fact_before f g ≡ true → is_before (interval_of_fact f) i ≡ false → is_before (interval_of_fact g) i ≡ false
later-not-before f g i e k =
    elim (is_before (interval_of_fact g) i) as (λ b. is_before (interval_of_fact g) i ≡ b → b ≡ false) [
      | true ↦ λ h. absurd (false≢true (sym k ∙ is_before-trans (interval_of_fact f) (interval_of_fact g) i (ordered g) e h))
      | false ↦ λ h. refl
    ] refl

-- the facts before an interval come first, and those after it last
pub parted-facts : {D : Type 0} (i : Interval) (pairs : List (Spot × Held D)) → i.low ≤ℤ i.end → Ascends fact_before (map fact_at pairs) → IsParted (λ p. is_before (interval_of_fact (fact_at p)) i) (λ p. is_before i (interval_of_fact (fact_at p))) pairs
parted-facts {D} i pairs o h = record {
  start = Falls-through (fact_at {D = D}) fact_before (λ f. is_before (interval_of_fact f) i) pairs (λ f g e k. later-not-before f g i e k) h;
  end = Falls-through (fact_at {D = D}) fact_before (λ f. not (is_before i (interval_of_fact f))) pairs (λ f g e k. ap not (is_before-trans i (interval_of_fact f) (interval_of_fact g) (ordered f) (not-false (is_before i (interval_of_fact f)) k) e)) h;
}

-- ---- what a write of facts leaves

off-by : {D : Type 0} (i : Interval) (facts : List (Fact D)) → i.low ≤ℤ i.end → Ascends fact_before facts → filter (λ f. is_before (interval_of_fact f) i) facts ++ filter (λ f. is_before i (interval_of_fact f)) facts ≡ facts_off i facts
off-by i facts o h =
    around-none (λ f. is_before (interval_of_fact f) i) (λ f. is_before i (interval_of_fact f)) facts (λ f e. intervals-apart (interval_of_fact f) i (fact-filled f) o e)
    (Falls-ascending fact_before (λ f. is_before (interval_of_fact f) i) facts (λ f g e k. later-not-before f g i e k) h)

pub facts-off : {D : Type 0} (i : Interval) (pairs : List (Spot × Held D)) → i.low ≤ℤ i.end → Ascends fact_before (map fact_at pairs) → map fact_at (around (λ p. is_before (interval_of_fact (fact_at p)) i) None (λ p. is_before i (interval_of_fact (fact_at p))) pairs) ≡ facts_off i (map fact_at pairs)
facts-off {D} i pairs o h =
    map-around (fact_at {D = D}) (λ f. is_before (interval_of_fact f) i) (λ f. is_before i (interval_of_fact f)) None pairs ∙ off-by i (map fact_at pairs) o h

placed-by : {D : Type 0} (f : Fact D) (facts : List (Fact D)) → Ascends fact_before facts → filter (λ g. is_before (interval_of_fact g) (interval_of_fact f)) facts ++ (f ∷ filter (λ g. is_before (interval_of_fact f) (interval_of_fact g)) facts) ≡ placed fact_before f (facts_off (interval_of_fact f) facts)
placed-by f facts h =
    sym (placed-between fact_before f (filter (λ g. is_before (interval_of_fact g) (interval_of_fact f)) facts) (filter (λ g. is_before (interval_of_fact f) (interval_of_fact g)) facts)
    (Every-kept (λ g. is_before (interval_of_fact g) (interval_of_fact f)) facts)
    (Every-weaker (λ g. is_before (interval_of_fact f) (interval_of_fact g) ≡ true) (λ g. fact_before g f ≡ false) (filter (λ g. is_before (interval_of_fact f) (interval_of_fact g)) facts) (λ g e. intervals-apart (interval_of_fact f) (interval_of_fact g) (fact-filled f) (ordered g) e) (Every-kept (λ g. is_before (interval_of_fact f) (interval_of_fact g)) facts)))
    ∙ ap (placed fact_before f) (off-by (interval_of_fact f) facts (ordered f) h)

-- the pair of a fact that is kept
abbrev pub kept_pair : {D : Type 0} → Values D → List Counted → Fact D → Option (Spot × Held D)
kept_pair d blocks f = cond (d.rank f.value == 0 || is_many f.area blocks) None (Some (pair_of_fact f))

-- what a store leaves
pub written : {D : Type 0} (d : Values D) (blocks : List Counted) (f : Fact D) (pairs : List (Spot × Held D)) → Ascends fact_before (map fact_at pairs) → map fact_at (around (λ p. is_before (interval_of_fact (fact_at p)) (interval_of_fact f)) (kept_pair d blocks f) (λ p. is_before (interval_of_fact f) (interval_of_fact (fact_at p))) pairs) ≡ facts_with d blocks f (facts_off (interval_of_fact f) (map fact_at pairs))
written {D} d blocks f pairs h =
    elim (d.rank f.value == 0 || is_many f.area blocks) as (λ t. map fact_at (around (λ p. is_before (interval_of_fact (fact_at p)) (interval_of_fact f)) (cond t None (Some (pair_of_fact f))) (λ p. is_before (interval_of_fact f) (interval_of_fact (fact_at p))) pairs) ≡ cond t (facts_off (interval_of_fact f) (map fact_at pairs)) (placed fact_before f (facts_off (interval_of_fact f) (map fact_at pairs)))) [
      | true ↦ facts-off (interval_of_fact f) pairs (ordered f) h
      | false ↦
          map-around (fact_at {D = D}) (λ g. is_before (interval_of_fact g) (interval_of_fact f)) (λ g. is_before (interval_of_fact f) (interval_of_fact g)) (Some (pair_of_fact f)) pairs
          ∙ placed-by f (map fact_at pairs) h
    ]

with-ascends : {D : Type 0} (d : Values D) (blocks : List Counted) (f : Fact D) (facts : List (Fact D)) → Ascends fact_before facts → Ascends fact_before (facts_with d blocks f (facts_off (interval_of_fact f) facts))
with-ascends d blocks f facts h =
    let off = facts_off (interval_of_fact f) facts in
    let kept : Ascends fact_before (facts_off (interval_of_fact f) facts) = Ascends-filter fact_before (λ g. is_off (interval_of_fact g) (interval_of_fact f)) facts h in
    elim (d.rank f.value == 0 || is_many f.area blocks) as (λ t. Ascends fact_before (cond t (facts_off (interval_of_fact f) facts) (placed fact_before f (facts_off (interval_of_fact f) facts)))) [
      | true ↦ kept
      | false ↦ Ascends-placed fact_before fact_before-trans f (facts_off (interval_of_fact f) facts) kept (Every-kept (λ g. is_off (interval_of_fact g) (interval_of_fact f)) facts)
    ]

pub written-ascends : {D : Type 0} (d : Values D) (blocks : List Counted) (f : Fact D) (pairs : List (Spot × Held D)) → Ascends fact_before (map fact_at pairs) → Ascends pair_before (around (λ p. is_before (interval_of_fact (fact_at p)) (interval_of_fact f)) (kept_pair d blocks f) (λ p. is_before (interval_of_fact f) (interval_of_fact (fact_at p))) pairs)
written-ascends d blocks f pairs h =
    Ascends-facts (around (λ p. is_before (interval_of_fact (fact_at p)) (interval_of_fact f)) (kept_pair d blocks f) (λ p. is_before (interval_of_fact f) (interval_of_fact (fact_at p))) pairs)
    (subst (Ascends fact_before) (sym (written d blocks f pairs h)) (with-ascends d blocks f (map fact_at pairs) h))

-- what any write of an interval leaves
pub off-ascends : {D : Type 0} (i : Interval) (pairs : List (Spot × Held D)) → i.low ≤ℤ i.end → Ascends fact_before (map fact_at pairs) → Ascends pair_before (around (λ p. is_before (interval_of_fact (fact_at p)) i) None (λ p. is_before i (interval_of_fact (fact_at p))) pairs)
off-ascends i pairs o h =
    Ascends-facts (around (λ p. is_before (interval_of_fact (fact_at p)) i) None (λ p. is_before i (interval_of_fact (fact_at p))) pairs)
    (subst (Ascends fact_before) (sym (facts-off i pairs o h)) (Ascends-filter fact_before (λ f. is_off (interval_of_fact f) i) (map fact_at pairs) h))

-- ---- the same of what a call makes

pub off-made : {D E : Type 0} (i : Interval) (pairs : List (Spot × Held D)) (r : Result (List (Spot × Held D)) E) → i.low ≤ℤ i.end → Ascends fact_before (map fact_at pairs) → IfOk r (λ all. all ≡ around (λ p. is_before (interval_of_fact (fact_at p)) i) None (λ p. is_before i (interval_of_fact (fact_at p))) pairs) → IfOk r (λ all. map fact_at all ≡ facts_off i (map fact_at pairs))
off-made {D} i pairs r o h k =
    ok-mapped (fact_at {D = D}) r (around (λ p. is_before (interval_of_fact (fact_at p)) i) None (λ p. is_before i (interval_of_fact (fact_at p))) pairs) (facts_off i (map fact_at pairs)) (facts-off i pairs o h) k

pub written-made : {D E : Type 0} (d : Values D) (blocks : List Counted) (f : Fact D) (i : Interval) (new : Option (Spot × Held D)) (pairs : List (Spot × Held D)) (r : Result (List (Spot × Held D)) E) → i ≡ interval_of_fact f → new ≡ kept_pair d blocks f → Ascends fact_before (map fact_at pairs) → IfOk r (λ all. all ≡ around (λ p. is_before (interval_of_fact (fact_at p)) i) new (λ p. is_before i (interval_of_fact (fact_at p))) pairs) → IfOk r (λ all. map fact_at all ≡ facts_with d blocks f (facts_off (interval_of_fact f) (map fact_at pairs)))
written-made {D} d blocks f i new pairs r e n h k =
    ok-mapped (fact_at {D = D}) r (around (λ p. is_before (interval_of_fact (fact_at p)) i) new (λ p. is_before i (interval_of_fact (fact_at p))) pairs) (facts_with d blocks f (facts_off (interval_of_fact f) (map fact_at pairs)))
    (ap (λ (z : Option (Spot × Held D)). map fact_at (around (λ p. is_before (interval_of_fact (fact_at p)) i) z (λ p. is_before i (interval_of_fact (fact_at p))) pairs)) n
    ∙ ap (λ (z : Interval). map fact_at (around (λ p. is_before (interval_of_fact (fact_at p)) z) (kept_pair d blocks f) (λ p. is_before z (interval_of_fact (fact_at p))) pairs)) e
    ∙ written d blocks f pairs h) k

pub written-parted : {D : Type 0} (f : Fact D) (i : Interval) (pairs : List (Spot × Held D)) → i ≡ interval_of_fact f → Ascends fact_before (map fact_at pairs) → IsParted (λ p. is_before (interval_of_fact (fact_at p)) i) (λ p. is_before i (interval_of_fact (fact_at p))) pairs
written-parted f i pairs e h = parted-facts i pairs (subst (λ (z : Interval). z.low ≤ℤ z.end) (sym e) (ordered f)) h

pub written-made-ascends : {D : Type 0} (d : Values D) (blocks : List Counted) (f : Fact D) (i : Interval) (new : Option (Spot × Held D)) (pairs : List (Spot × Held D)) → i ≡ interval_of_fact f → new ≡ kept_pair d blocks f → Ascends fact_before (map fact_at pairs) → Ascends pair_before (around (λ p. is_before (interval_of_fact (fact_at p)) i) new (λ p. is_before i (interval_of_fact (fact_at p))) pairs)
written-made-ascends {D} d blocks f i new pairs e n h =
    subst (λ (z : Option (Spot × Held D)). Ascends pair_before (around (λ p. is_before (interval_of_fact (fact_at p)) i) z (λ p. is_before i (interval_of_fact (fact_at p))) pairs)) (sym n)
    (subst (λ (z : Interval). Ascends pair_before (around (λ p. is_before (interval_of_fact (fact_at p)) z) (kept_pair d blocks f) (λ p. is_before z (interval_of_fact (fact_at p))) pairs)) (sym e) (written-ascends d blocks f pairs h))

-- ---- facts and pairs

pub pairs-back : {D : Type 0} (pairs : List (Spot × Held D)) → pairs ≡ map pair_of_fact (map fact_at pairs)
pairs-back [] = refl
pairs-back (p ∷ pairs) = ap (λ ps. p ∷ ps) (pairs-back pairs)
