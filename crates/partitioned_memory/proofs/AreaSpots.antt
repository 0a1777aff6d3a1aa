-- Facts by area: what is left where those of a region go, or those of the stack below an offset.
use Rattle.std.proofs.Common.{◌≡◌, Bool, true, false, List, map, filter, None, Result, refl, sym, ap, ◌∙◌, subst, arith, ℤ, ◌<ℤ◌, inl, inr}
use Rattle.std.specs.Prelude.{IfOk, ◌||◌, ◌&&◌, ◌⊎◌, not, int_lt}
use Rattle.std.specs.Ordering.{is_lt, is_eq}
use Rattle.std.specs.declared.cmp.Ordering.TheVariants.{Less}
use Rattle.std.proofs.lemmas.Bool.{false≢true, and_parts, not-false}
use Rattle.std.proofs.lemmas.Int.{ints}
use Rattle.std.proofs.lemmas.List.Elements.{filter_agree}
use Rattle.address_regions.specs.declared.region.Region.{Region}
use Rattle.address_regions.specs.declared.region.Region.TheVariants.{Stack}
use Rattle.partitioned_memory.specs.declared.area.Area.{Area}
use Rattle.partitioned_memory.specs.declared.area.Area.TheVariants.{In}
use Rattle.partitioned_memory.specs.declared.fact.Spot.{Spot}
use Rattle.partitioned_memory.specs.declared.fact.Held.{Held}
use Rattle.partitioned_memory.specs.declared.fact.Fact.{Fact}
use Rattle.partitioned_memory.specs.Areas.{area_cmp, same_area}
use Rattle.partitioned_memory.specs.Lists.{Ascends, around}
use Rattle.partitioned_memory.specs.Pairs.{IsParted, pair_before}
use Rattle.partitioned_memory.specs.Held.{fact_at, fact_before, facts_outside, interval_of_fact, is_after_below, is_stack_below}
use Rattle.partitioned_memory.proofs.ListLaws.{Ascends-filter}
use Rattle.partitioned_memory.proofs.Cuts.{Falls-ascending, around-none}
use Rattle.partitioned_memory.proofs.Orders.{Lies, area_total, before-lies, int_lt-from, int_lt-true, same_area-by_cmp, same_area-is, less-is, apart-by, other-by}
use Rattle.partitioned_memory.proofs.FactSpots.{Ascends-facts, Falls-through, fact-filled, map-around, ok-mapped}

areas-apart : (a b : Area) → is_lt (area_cmp a b) ≡ true → is_lt (area_cmp b a) ≡ false
areas-apart a b e = ap is_lt (area_total.antisymm b a) ∙ apart-by (area_cmp a b) e

other-area : (a b : Area) → (is_lt (area_cmp a b) || is_lt (area_cmp b a)) ≡ not (same_area a b)
other-area a b =
    ap (λ o. is_lt (area_cmp a b) || is_lt o) (area_total.antisymm b a)
    ∙ other-by (area_cmp a b)
    ∙ ap not (sym (same_area-by_cmp a b))

-- areas rise along the facts
areas-rise : {D : Type 0} (f g : Fact D) → fact_before f g ≡ true → (area_cmp f.area g.area ≡ Less) ⊎ ((f.area ≡ g.area) × (f.low <ℤ g.low))
unfolding Lies
areas-rise f g e =
    elim (before-lies (interval_of_fact f) (interval_of_fact g) e) [
      | inl l ↦ inl l
      | inr b ↦ inr (b.0, let filled = fact-filled f in omega (arith, ints, filled, b.1))
    ]

less-then : {D : Type 0} (f g : Fact D) (a : Area) → fact_before f g ≡ true → is_lt (area_cmp g.area a) ≡ true → is_lt (area_cmp f.area a) ≡ true
less-then f g a e h =
    elim (areas-rise f g e) [
      | inl l ↦ ap is_lt (area_total.trans f.area g.area a l (less-is (area_cmp g.area a) h))
      | inr b ↦ ap (λ (z : Area). is_lt (area_cmp z a)) b.0 ∙ h
    ]

then-more : {D : Type 0} (f g : Fact D) (a : Area) → fact_before f g ≡ true → is_lt (area_cmp a f.area) ≡ true → is_lt (area_cmp a g.area) ≡ true
then-more f g a e h =
    elim (areas-rise f g e) [
      | inl l ↦ ap is_lt (area_total.trans a f.area g.area (less-is (area_cmp a f.area) h) l)
      | inr b ↦ ap (λ (z : Area). is_lt (area_cmp a z)) (sym b.0) ∙ h
    ]

later-not-less : {D : Type 0} (f g : Fact D) (a : Area) → fact_before f g ≡ true → is_lt (area_cmp f.area a) ≡ false → is_lt (area_cmp g.area a) ≡ false
later-not-less f g a e k =
    elim (is_lt (area_cmp g.area a)) as (λ b. is_lt (area_cmp g.area a) ≡ b → b ≡ false) [
      | true ↦ λ h. absurd (false≢true (sym k ∙ less-then f g a e h))
      | false ↦ λ h. refl
    ] refl

-- ---- the facts of an area

pub parted-area : {D : Type 0} (a : Area) (pairs : List (Spot × Held D)) → Ascends fact_before (map fact_at pairs) → IsParted (λ p. is_lt (area_cmp p.0.area a)) (λ p. is_lt (area_cmp a p.0.area)) pairs
parted-area {D} a pairs h = record {
  start = Falls-through (fact_at {D = D}) fact_before (λ f. is_lt (area_cmp f.area a)) pairs (λ f g e k. later-not-less f g a e k) h;
  end = Falls-through (fact_at {D = D}) fact_before (λ f. not (is_lt (area_cmp a f.area))) pairs (λ f g e k. ap not (then-more f g a e (not-false (is_lt (area_cmp a f.area)) k))) h;
}

pub outside-left : {D : Type 0} (r : Region) (pairs : List (Spot × Held D)) → Ascends fact_before (map fact_at pairs) → map fact_at (around (λ p. is_lt (area_cmp p.0.area (In r))) None (λ p. is_lt (area_cmp (In r) p.0.area)) pairs) ≡ facts_outside r (map fact_at pairs)
outside-left {D} r pairs h =
    map-around (fact_at {D = D}) (λ f. is_lt (area_cmp f.area (In r))) (λ f. is_lt (area_cmp (In r) f.area)) None pairs
    ∙ around-none (λ f. is_lt (area_cmp f.area (In r))) (λ f. is_lt (area_cmp (In r) f.area)) (map fact_at pairs) (λ f e. areas-apart f.area (In r) e)
    (Falls-ascending fact_before (λ f. is_lt (area_cmp f.area (In r))) (map fact_at pairs) (λ f g e k. later-not-less f g (In r) e k) h)
    ∙ filter_agree (λ f. is_lt (area_cmp f.area (In r)) || is_lt (area_cmp (In r) f.area)) (λ f. not (same_area f.area (In r))) (λ f. other-area f.area (In r)) (map fact_at pairs)

pub outside-ascends : {D : Type 0} (r : Region) (pairs : List (Spot × Held D)) → Ascends fact_before (map fact_at pairs) → Ascends pair_before (around (λ p. is_lt (area_cmp p.0.area (In r))) None (λ p. is_lt (area_cmp (In r) p.0.area)) pairs)
outside-ascends r pairs h =
    Ascends-facts (around (λ p. is_lt (area_cmp p.0.area (In r))) None (λ p. is_lt (area_cmp (In r) p.0.area)) pairs)
    (subst (Ascends fact_before) (sym (outside-left r pairs h)) (Ascends-filter fact_before (λ f. not (same_area f.area (In r))) (map fact_at pairs) h))

-- ---- the facts of the stack below an offset

after-by : (less below : Bool) → not (not less && not below) ≡ false → (less ≡ false) × (below ≡ false)
after-by true below e = absurd (cc)
after-by false true e = absurd (cc)
after-by false false e = (refl, refl)

not-after-by : (less below : Bool) → less ≡ false → below ≡ false → not (not less && not below) ≡ false
not-after-by true below e h = absurd (cc)
not-after-by false true e h = absurd (cc)
not-after-by false false e h = refl

-- what lies after the facts below an offset of the stack is followed by nothing below it
later-not-below : {D : Type 0} (f g : Fact D) (high : ℤ) → fact_before f g ≡ true → is_lt (area_cmp f.area (In Stack)) ≡ false → is_stack_below high f ≡ false → is_stack_below high g ≡ false
later-not-below f g high e k n =
    elim (is_stack_below high g) as (λ b. is_stack_below high g ≡ b → b ≡ false) [
      | true ↦ λ h.
          let parts = and_parts (same_area g.area (In Stack)) (int_lt g.low high) h in
          let own : g.area ≡ In Stack = same_area-is g.area (In Stack) parts.0 in
          elim (areas-rise f g e) [
            | inl l ↦ absurd (false≢true (sym k ∙ ap (λ (z : Area). is_lt (area_cmp f.area z)) (sym own) ∙ ap is_lt l))
            | inr b ↦
                let low : int_lt f.low high ≡ true = int_lt-from f.low high (let q = int_lt-true g.low high parts.1 in omega (arith, ints, q, b.1)) in
                let same : same_area f.area (In Stack) ≡ true = ap (λ (z : Area). same_area z (In Stack)) b.0 ∙ parts.0 in
                absurd (false≢true (sym n ∙ ap (λ s. s && int_lt f.low high) same ∙ low))
          ]
      | false ↦ λ h. refl
    ] refl

pub parted-below : {D : Type 0} (high : ℤ) (pairs : List (Spot × Held D)) → Ascends fact_before (map fact_at pairs) → IsParted (λ p. is_lt (area_cmp p.0.area (In Stack))) (λ p. is_after_below high (fact_at p)) pairs
parted-below {D} high pairs h = record {
  start = Falls-through (fact_at {D = D}) fact_before (λ f. is_lt (area_cmp f.area (In Stack))) pairs (λ f g e k. later-not-less f g (In Stack) e k) h;
  end = Falls-through (fact_at {D = D}) fact_before (λ f. not (is_after_below high f)) pairs (λ f g e k.
      let parts = after-by (is_lt (area_cmp f.area (In Stack))) (is_stack_below high f) k in
      not-after-by (is_lt (area_cmp g.area (In Stack))) (is_stack_below high g) (later-not-less f g (In Stack) e parts.0) (later-not-below f g high e parts.0 parts.1)) h;
}

-- a fact of an area before the stack is not of the stack
less-not-below : {D : Type 0} (high : ℤ) (f : Fact D) → is_lt (area_cmp f.area (In Stack)) ≡ true → is_stack_below high f ≡ false
less-not-below high f e =
    ap (λ s. s && int_lt f.low high) (same_area-by_cmp f.area (In Stack) ∙ ap is_eq (less-is (area_cmp f.area (In Stack)) e))

kept-by : {D : Type 0} (high : ℤ) (f : Fact D) → (is_lt (area_cmp f.area (In Stack)) || is_after_below high f) ≡ not (is_stack_below high f)
kept-by high f =
    elim (is_lt (area_cmp f.area (In Stack))) as (λ b. is_lt (area_cmp f.area (In Stack)) ≡ b → (b || (not b && not (is_stack_below high f))) ≡ not (is_stack_below high f)) [
      | true ↦ λ e. ap not (sym (less-not-below high f e))
      | false ↦ λ e. refl
    ] refl

after-apart : {D : Type 0} (high : ℤ) (f : Fact D) → is_lt (area_cmp f.area (In Stack)) ≡ true → is_after_below high f ≡ false
after-apart high f e = ap (λ b. not b && not (is_stack_below high f)) e

pub below-left : {D : Type 0} (high : ℤ) (pairs : List (Spot × Held D)) → Ascends fact_before (map fact_at pairs) → map fact_at (around (λ p. is_lt (area_cmp p.0.area (In Stack))) None (λ p. is_after_below high (fact_at p)) pairs) ≡ filter (λ f. not (is_stack_below high f)) (map fact_at pairs)
below-left {D} high pairs h =
    map-around (fact_at {D = D}) (λ f. is_lt (area_cmp f.area (In Stack))) (is_after_below high) None pairs
    ∙ around-none (λ f. is_lt (area_cmp f.area (In Stack))) (is_after_below high) (map fact_at pairs) (λ f e. after-apart high f e)
    (Falls-ascending fact_before (λ f. is_lt (area_cmp f.area (In Stack))) (map fact_at pairs) (λ f g e k. later-not-less f g (In Stack) e k) h)
    ∙ filter_agree (λ f. is_lt (area_cmp f.area (In Stack)) || is_after_below high f) (λ f. not (is_stack_below high f)) (λ f. kept-by high f) (map fact_at pairs)

pub below-ascends : {D : Type 0} (high : ℤ) (pairs : List (Spot × Held D)) → Ascends fact_before (map fact_at pairs) → Ascends pair_before (around (λ p. is_lt (area_cmp p.0.area (In Stack))) None (λ p. is_after_below high (fact_at p)) pairs)
below-ascends high pairs h =
    Ascends-facts (around (λ p. is_lt (area_cmp p.0.area (In Stack))) None (λ p. is_after_below high (fact_at p)) pairs)
    (subst (Ascends fact_before) (sym (below-left high pairs h)) (Ascends-filter fact_before (λ f. not (is_stack_below high f)) (map fact_at pairs) h))

-- ---- the same of what a call makes

pub outside-made : {D E : Type 0} (r : Region) (pairs : List (Spot × Held D)) (made : Result (List (Spot × Held D)) E) → Ascends fact_before (map fact_at pairs) → IfOk made (λ all. all ≡ around (λ p. is_lt (area_cmp p.0.area (In r))) None (λ p. is_lt (area_cmp (In r) p.0.area)) pairs) → IfOk made (λ all. map fact_at all ≡ facts_outside r (map fact_at pairs))
outside-made {D} r pairs made h k =
    ok-mapped (fact_at {D = D}) made (around (λ p. is_lt (area_cmp p.0.area (In r))) None (λ p. is_lt (area_cmp (In r) p.0.area)) pairs) (facts_outside r (map fact_at pairs)) (outside-left r pairs h) k

pub below-made : {D E : Type 0} (high own : ℤ) (pairs : List (Spot × Held D)) (made : Result (List (Spot × Held D)) E) → own ≡ high → Ascends fact_before (map fact_at pairs) → IfOk made (λ all. all ≡ around (λ p. is_lt (area_cmp p.0.area (In Stack))) None (λ p. is_after_below own (fact_at p)) pairs) → IfOk made (λ all. map fact_at all ≡ filter (λ f. not (is_stack_below high f)) (map fact_at pairs))
below-made {D} high own pairs made e h k =
    ok-mapped (fact_at {D = D}) made (around (λ p. is_lt (area_cmp p.0.area (In Stack))) None (λ p. is_after_below own (fact_at p)) pairs) (filter (λ f. not (is_stack_below high f)) (map fact_at pairs))
    (below-left own pairs h ∙ ap (λ z. filter (λ f. not (is_stack_below z f)) (map fact_at pairs)) e) k
