-- Each call keeps what is always so of the parts.
use Rattle.std.proofs.Common.{◌≡◌, Bool, true, false, cond, List, [], ◌∷◌, map, filter, Option, Some, None, refl, sym, ap, ◌∙◌, subst, arith, ℤ, pos, ◌+ℤ◌, ◌-ℤ◌, ◌≤ℤ◌, ◌<ℤ◌, inl, inr}
use Rattle.std.specs.Prelude.{◌||◌, ◌&&◌, ◌==◌, not}
use Rattle.std.specs.List.{list_any}
use Rattle.std.proofs.lemmas.Bool.{false≢true, or_parts, or_right, or_left, and_parts}
use Rattle.std.proofs.lemmas.Int.{ints, int_max_is, int_min_is}
use Rattle.std.specs.declared.cmp.Ordering.{Ordering}
use Rattle.std.specs.declared.cmp.Ordering.TheVariants.{Less, Equal, Greater}
use Rattle.std.specs.Ordering.{ordering_reverse, int_eq}
use Rattle.bit_words.specs.declared.width.Width.{Width}
use Rattle.bit_words.specs.declared.width.Width.TheVariants.{B8, B16, B32}
use Rattle.bit_words.specs.Width.{bytes_of}
use Rattle.address_regions.specs.declared.region.Region.{Region}
use Rattle.address_regions.specs.Extents.{has_one_base}
use Rattle.address_regions.specs.Same.{same_region}
use Rattle.address_regions.proofs.RegionLaws.{same_region-refl}
use Rattle.domain_laws.specs.Laws.{Values}
use Rattle.domain_laws.specs.Reached.{named}
use Rattle.partitioned_memory.specs.declared.area.Area.{Area}
use Rattle.partitioned_memory.specs.declared.area.Area.TheVariants.{In}
use Rattle.partitioned_memory.specs.declared.area.Interval.{Interval}
use Rattle.partitioned_memory.specs.declared.fact.Fact.{Fact}
use Rattle.partitioned_memory.specs.declared.fact.Dirty.{Dirty}
use Rattle.partitioned_memory.specs.declared.fact.Counted.{Counted}
use Rattle.partitioned_memory.specs.Areas.{IsInside, IsBounded, area_cmp, bounds_of, block_in, by_area, hull, is_before, is_left, is_marked, is_off, same_area}
use Rattle.partitioned_memory.specs.Lists.{Every, Ascends, placed}
use Rattle.partitioned_memory.specs.Held.{PartsHeld, count_before, counted_again, counted_more, dirty_after, dirty_before, dirty_of, dirty_with, fact_before, fact_given, facts_beside, facts_off, facts_outside, facts_put, facts_with, interval_of_dirty, interval_of_fact, is_at, is_counted, is_many, one_block}
use Rattle.partitioned_memory.specs.Well.{HasCount, IsBlock, IsWell, IsWellDirty, IsWellFact, MayHold}
use Rattle.partitioned_memory.proofs.ListLaws.{Every-weaker, Every-filter, Every-kept, Every-map, Every-none, Every-placed, Ascends-filter, Ascends-map, Ascends-placed}
use Rattle.partitioned_memory.proofs.Orders.{Touches, area_total, area_cmp-equal, by_area-true, by_area-less, is_before-trans, is_left-trans, left-hull, touching}

-- ---- facts

pub fact_before-trans : {D : Type 0} (f g h : Fact D) → fact_before f g ≡ true → fact_before g h ≡ true → fact_before f h ≡ true
fact_before-trans f g h = is_before-trans (interval_of_fact f) (interval_of_fact g) (interval_of_fact h) (omega (arith, ints))

-- facts that stay are in order and well
pub record AreWell {D : Type 0} (d : Values D) (blocks : List Counted) (facts : List (Fact D)) : Type 0 where
  pub ascend : Ascends fact_before facts
  pub each : Every (IsWellFact d blocks) facts

pub AreWell-filter : {D : Type 0} (d : Values D) (blocks : List Counted) (t : Fact D → Bool) (facts : List (Fact D)) → AreWell d blocks facts → AreWell d blocks (filter t facts)
AreWell-filter d blocks t facts h = record {
  ascend = Ascends-filter fact_before t facts h.ascend;
  each = Every-filter (IsWellFact d blocks) t facts h.each;
}

pub AreWell-of : {D : Type 0} (d : Values D) (h : PartsHeld D) → IsWell d h → AreWell d h.blocks h.facts
AreWell-of d h w = record { ascend = w.facts_ascend; each = w.facts }

-- a fact among those that share no byte with it
pub AreWell-placed : {D : Type 0} (d : Values D) (blocks : List Counted) (f : Fact D) (facts : List (Fact D)) → IsWellFact d blocks f → AreWell d blocks facts → AreWell d blocks (placed fact_before f (facts_off (interval_of_fact f) facts))
AreWell-placed d blocks f facts w h =
    let kept = AreWell-filter d blocks (λ g. is_off (interval_of_fact g) (interval_of_fact f)) facts h in
    record {
      ascend = Ascends-placed fact_before fact_before-trans f (facts_off (interval_of_fact f) facts) kept.ascend (Every-kept (λ g. is_off (interval_of_fact g) (interval_of_fact f)) facts);
      each = Every-placed (IsWellFact d blocks) fact_before f (facts_off (interval_of_fact f) facts) w kept.each;
    }

-- what a store needs of its fact, but for the value's rank
pub record MayStand {D : Type 0} (d : Values D) (blocks : List Counted) (f : Fact D) : Type 0 where
  pub inside : IsInside (interval_of_fact f)
  pub counted : HasCount blocks (block_in f.area)
  pub holds : MayHold d blocks f.w f.value

pub width-filled : (low : ℤ) (w : Width) → low <ℤ (low +ℤ pos (bytes_of w))
width-filled low B8 = omega (arith, ints)
width-filled low B16 = omega (arith, ints)
width-filled low B32 = omega (arith, ints)

pub AreWell-with : {D : Type 0} (d : Values D) (blocks : List Counted) (f : Fact D) (facts : List (Fact D)) → MayStand d blocks f → AreWell d blocks facts → AreWell d blocks (facts_with d blocks f (facts_off (interval_of_fact f) facts))
AreWell-with d blocks f facts w h =
    let off = facts_off (interval_of_fact f) facts in
    elim (d.rank f.value == 0 || is_many f.area blocks) as (λ b. (d.rank f.value == 0 || is_many f.area blocks) ≡ b → AreWell d blocks (cond b off (placed fact_before f off))) [
      | true ↦ λ e. AreWell-filter d blocks (λ g. is_off (interval_of_fact g) (interval_of_fact f)) facts h
      | false ↦ λ e.
          let parts = or_parts (d.rank f.value == 0) (is_many f.area blocks) e in
          AreWell-placed d blocks f facts (record { inside = w.inside; counted = w.counted; ranked = parts.0; holds = w.holds }) h
    ] refl

-- ---- a value put into a fact

pub same_width : (v w : Width) → (bytes_of v == bytes_of w) ≡ true → v ≡ w
same_width B8 B8 e = refl
same_width B16 B16 e = refl
same_width B32 B32 e = refl
same_width v w e = absurd (cc)

given-interval : {D : Type 0} (a : Area) (low : ℤ) (w : Width) (v : D) (f : Fact D) → interval_of_fact (fact_given a low w v f) ≡ interval_of_fact f
given-interval a low w v f =
    elim (is_at a low w f) as (λ b. interval_of_fact (cond b (record { area = f.area; low = f.low; w = f.w; value = v }) f) ≡ interval_of_fact f) [
      | true ↦ refl
      | false ↦ refl
    ]

given-well : {D : Type 0} (d : Values D) (blocks : List Counted) (a : Area) (low : ℤ) (w : Width) (v : D) (f : Fact D) → (d.rank v == 0) ≡ false → MayHold d blocks w v → IsWellFact d blocks f → IsWellFact d blocks (fact_given a low w v f)
given-well d blocks a low w v f ranked holds h =
    elim (is_at a low w f) as (λ b. is_at a low w f ≡ b → IsWellFact d blocks (cond b (record { area = f.area; low = f.low; w = f.w; value = v }) f)) [
      | true ↦ λ e.
          let rest = and_parts (same_area f.area a) (int_eq f.low low && (bytes_of f.w == bytes_of w)) e in
          let width = and_parts (int_eq f.low low) (bytes_of f.w == bytes_of w) rest.1 in
          let s : w ≡ f.w = sym (same_width f.w w width.1) in
          record { inside = h.inside; counted = h.counted; ranked = ranked; holds = subst (λ (x : Width). MayHold d blocks x v) s holds }
      | false ↦ λ e. h
    ] refl

pub AreWell-put : {D : Type 0} (d : Values D) (blocks : List Counted) (a : Area) (low : ℤ) (w : Width) (v : D) (facts : List (Fact D)) → MayHold d blocks w v → AreWell d blocks facts → AreWell d blocks (facts_put d a low w v facts)
AreWell-put d blocks a low w v facts holds h =
    elim (d.rank v == 0) as (λ b. (d.rank v == 0) ≡ b → AreWell d blocks (cond b (filter (λ f. not (is_at a low w f)) facts) (map (fact_given a low w v) facts))) [
      | true ↦ λ e. AreWell-filter d blocks (λ f. not (is_at a low w f)) facts h
      | false ↦ λ e. record {
        ascend = Ascends-map fact_before (fact_given a low w v) facts (λ f g k. ap (λ i. is_before i (interval_of_fact (fact_given a low w v g))) (given-interval a low w v f) ∙ ap (λ i. is_before (interval_of_fact f) i) (given-interval a low w v g) ∙ k) h.ascend;
        each = Every-map (IsWellFact d blocks) (IsWellFact d blocks) (fact_given a low w v) facts (λ f k. given-well d blocks a low w v f e holds k) h.each;
      }
    ] refl

-- ---- dirty ranges

pub dirty_of-interval : (i : Interval) → interval_of_dirty (dirty_of i) ≡ i
dirty_of-interval i =
    let e : i.low +ℤ (i.end -ℤ i.low) ≡ i.end = omega (arith, ints) in
    ap (λ (z : ℤ). let k : Interval = record { area = i.area; low = i.low; end = z } in k) e

pub Every-dirty_with : (P : Interval → Type 0) (i : Interval) (rs : List Dirty) → ((j k : Interval) → Touches k j → P j → P k → P (hull j k)) → P i → Every (λ r. P (interval_of_dirty r)) rs → Every (λ r. P (interval_of_dirty r)) (dirty_with i rs)
Every-dirty_with P i [] f p h = (subst P (sym (dirty_of-interval i)) p, tt)
Every-dirty_with P i (r ∷ rs) f p h =
    elim (is_left (interval_of_dirty r) i) as (λ b. is_left (interval_of_dirty r) i ≡ b → Every (λ r. P (interval_of_dirty r)) (cond b (r ∷ dirty_with i rs) (cond (is_left i (interval_of_dirty r)) (dirty_of i ∷ r ∷ rs) (dirty_with (hull i (interval_of_dirty r)) rs)))) [
      | true ↦ λ e. (h.0, Every-dirty_with P i rs f p h.1)
      | false ↦ λ e.
          elim (is_left i (interval_of_dirty r)) as (λ b. is_left i (interval_of_dirty r) ≡ b → Every (λ r. P (interval_of_dirty r)) (cond b (dirty_of i ∷ r ∷ rs) (dirty_with (hull i (interval_of_dirty r)) rs))) [
            | true ↦ λ k. (subst P (sym (dirty_of-interval i)) p, h)
            | false ↦ λ k. Every-dirty_with P (hull i (interval_of_dirty r)) rs f (f i (interval_of_dirty r) (touching (interval_of_dirty r) i e k) p h.0) h.1
          ] refl
    ] refl

left-dirty_with : (k i : Interval) (rs : List Dirty) → is_left k i ≡ true → Every (λ r. is_left k (interval_of_dirty r) ≡ true) rs → Every (λ r. is_left k (interval_of_dirty r) ≡ true) (dirty_with i rs)
left-dirty_with k i rs e h = Every-dirty_with (λ j. is_left k j ≡ true) i rs (λ j m t p q. left-hull k j m (sym t.area) p q) e h

pub Ascends-dirty_with : (i : Interval) (rs : List Dirty) → Every (λ r. (interval_of_dirty r).low ≤ℤ (interval_of_dirty r).end) rs → Ascends dirty_before rs → Ascends dirty_before (dirty_with i rs)
Ascends-dirty_with i [] o h = (tt, tt)
Ascends-dirty_with i (r ∷ rs) o h =
    elim (is_left (interval_of_dirty r) i) as (λ b. is_left (interval_of_dirty r) i ≡ b → Ascends dirty_before (cond b (r ∷ dirty_with i rs) (cond (is_left i (interval_of_dirty r)) (dirty_of i ∷ r ∷ rs) (dirty_with (hull i (interval_of_dirty r)) rs)))) [
      | true ↦ λ e. (left-dirty_with (interval_of_dirty r) i rs e h.0, Ascends-dirty_with i rs o.1 h.1)
      | false ↦ λ e.
          elim (is_left i (interval_of_dirty r)) as (λ b. is_left i (interval_of_dirty r) ≡ b → Ascends dirty_before (cond b (dirty_of i ∷ r ∷ rs) (dirty_with (hull i (interval_of_dirty r)) rs))) [
            | true ↦ λ k.
                let first : is_left (interval_of_dirty (dirty_of i)) (interval_of_dirty r) ≡ true = ap (λ j. is_left j (interval_of_dirty r)) (dirty_of-interval i) ∙ k in
                ((first, Every-weaker (λ s. dirty_before r s ≡ true) (λ s. dirty_before (dirty_of i) s ≡ true) rs (λ s q. is_left-trans (interval_of_dirty (dirty_of i)) (interval_of_dirty r) (interval_of_dirty s) o.0 first q) h.0), h)
            | false ↦ λ k. Ascends-dirty_with (hull i (interval_of_dirty r)) rs o.1 h.1
          ] refl
    ] refl

-- two ranges that touch, as one
hull-well : (blocks : List Counted) (i j : Interval) → Touches j i → IsWellDirty blocks i → IsWellDirty blocks j → IsWellDirty blocks (hull i j)
hull-well blocks i j t p q =
    let low : (bounds_of i.area).0 ≤ℤ j.low = subst (λ (a : Area). (bounds_of a).0 ≤ℤ j.low) t.area q.inside.low in
    let end : j.end ≤ℤ (bounds_of i.area).1 = subst (λ (a : Area). j.end ≤ℤ (bounds_of a).1) t.area q.inside.end in
    record {
      filled = omega (arith, ints, int_min_is i.low j.low, int_max_is i.end j.end, p.filled);
      inside = record {
        low = omega (arith, ints, int_min_is i.low j.low, low, p.inside.low);
        end = omega (arith, ints, int_max_is i.end j.end, end, p.inside.end);
        bounded = record {
          least = omega (arith, ints, int_min_is i.low j.low, p.inside.bounded.least, q.inside.bounded.least);
          greatest = omega (arith, ints, int_max_is i.end j.end, p.inside.bounded.greatest, q.inside.bounded.greatest);
          ordered = omega (arith, ints, int_min_is i.low j.low, int_max_is i.end j.end, p.filled);
        };
      };
      marked = p.marked;
      counted = p.counted;
    }

pub record AreWellDirty (blocks : List Counted) (dirty : List Dirty) : Type 0 where
  pub ascend : Ascends dirty_before dirty
  pub each : Every (λ r. IsWellDirty blocks (interval_of_dirty r)) dirty

pub AreWellDirty-of : {D : Type 0} (d : Values D) (h : PartsHeld D) → IsWell d h → AreWellDirty h.blocks h.dirty
AreWellDirty-of d h w = record { ascend = w.dirty_ascends; each = w.dirty }

pub AreWellDirty-bounded : (blocks : List Counted) (dirty : List Dirty) → AreWellDirty blocks dirty → Every (λ r. IsBounded (interval_of_dirty r)) dirty
AreWellDirty-bounded blocks dirty h = Every-weaker (λ r. IsWellDirty blocks (interval_of_dirty r)) (λ r. IsBounded (interval_of_dirty r)) dirty (λ r k. k.inside.bounded) h.each

pub AreWellDirty-after : (blocks : List Counted) (i : Interval) (dirty : List Dirty) → i.low <ℤ i.end → IsInside i → HasCount blocks (block_in i.area) → AreWellDirty blocks dirty → AreWellDirty blocks (dirty_after i dirty)
AreWellDirty-after blocks i dirty filled inside counted h =
    elim (is_marked i.area) as (λ b. is_marked i.area ≡ b → AreWellDirty blocks (cond b (dirty_with i dirty) dirty)) [
      | true ↦ λ e. record {
        ascend = Ascends-dirty_with i dirty (Every-weaker (λ r. IsWellDirty blocks (interval_of_dirty r)) (λ r. (interval_of_dirty r).low ≤ℤ (interval_of_dirty r).end) dirty (λ r k. k.inside.bounded.ordered) h.each) h.ascend;
        each = Every-dirty_with (IsWellDirty blocks) i dirty (hull-well blocks) (record { filled = filled; inside = inside; marked = e; counted = counted }) h.each;
      }
      | false ↦ λ e. h
    ] refl

-- ---- counts

again-region : (r : Region) (c : Counted) → (counted_again r c).region ≡ c.region
again-region r c =
    elim (same_region c.region r) as (λ b. (let k : Counted = cond b (record { region = c.region; many = true }) c in k).region ≡ c.region) [ true ↦ refl | false ↦ refl ]

any-again : (r s : Region) (blocks : List Counted) → list_any (λ c. same_region c.region s) (map (counted_again r) blocks) ≡ list_any (λ c. same_region c.region s) blocks
any-again r s [] = refl
any-again r s (c ∷ cs) =
    ap (λ q. same_region q s || list_any (λ c. same_region c.region s) (map (counted_again r) cs)) (again-region r c)
    ∙ ap (λ b. same_region c.region s || b) (any-again r s cs)

pub any-placed : {X : Type 0} (p : X → Bool) (t : X → X → Bool) (y : X) (xs : List X) → list_any p xs ≡ true → list_any p (placed t y xs) ≡ true
any-placed p t y [] e = absurd (false≢true e)
any-placed p t y (x ∷ xs) e =
    elim (t x y) as (λ b. list_any p (cond b (x ∷ placed t y xs) (y ∷ x ∷ xs)) ≡ true) [
      | true ↦ elim (p x) as (λ b. (b || list_any p xs) ≡ true → (b || list_any p (placed t y xs)) ≡ true) [ true ↦ λ k. refl | false ↦ λ k. any-placed p t y xs k ] e
      | false ↦ or_right (p y) (list_any p (x ∷ xs)) e
    ]

any-placed_own : {X : Type 0} (p : X → Bool) (t : X → X → Bool) (y : X) (xs : List X) → p y ≡ true → list_any p (placed t y xs) ≡ true
any-placed_own p t y [] e = or_left (p y) false e
any-placed_own p t y (x ∷ xs) e =
    elim (t x y) as (λ b. list_any p (cond b (x ∷ placed t y xs) (y ∷ x ∷ xs)) ≡ true) [
      | true ↦ or_right (p x) (list_any p (placed t y xs)) (any-placed_own p t y xs e)
      | false ↦ or_left (p y) (list_any p (x ∷ xs)) e
    ]

-- a region that has a count keeps one
pub counted_more-keeps : (r s : Region) (blocks : List Counted) → is_counted s blocks ≡ true → is_counted s (counted_more r blocks) ≡ true
counted_more-keeps r s blocks e =
    elim (is_counted r blocks) as (λ b. is_counted s (cond b (map (counted_again r) blocks) (placed count_before (one_block r) blocks)) ≡ true) [
      | true ↦ any-again r s blocks ∙ e
      | false ↦ any-placed (λ c. same_region c.region s) count_before (one_block r) blocks e
    ]

pub HasCount-more : (r : Region) (blocks : List Counted) (o : Option Region) → HasCount blocks o → HasCount (counted_more r blocks) o
HasCount-more r blocks None h = tt
HasCount-more r blocks (Some s) h = counted_more-keeps r s blocks h

pub count_before-less : (c e : Counted) → count_before c e ≡ true → area_cmp (In c.region) (In e.region) ≡ Less
count_before-less c e h =
    elim (by_area-true (area_cmp (In c.region) (In e.region)) false h) [ inl l ↦ l | inr b ↦ absurd (false≢true b.1) ]

pub count_before-trans : (c e f : Counted) → count_before c e ≡ true → count_before e f ≡ true → count_before c f ≡ true
count_before-trans c e f h k =
    by_area-less (area_cmp (In c.region) (In f.region)) false (area_total.trans (In c.region) (In e.region) (In f.region) (count_before-less c e h) (count_before-less e f k))

in-same : (r s : Region) → In r ≡ In s → r ≡ s
in-same r s e = cc

less-from-reverse : (o : Ordering) → Greater ≡ ordering_reverse o → by_area o false ≡ true
less-from-reverse Less e = refl
less-from-reverse Equal e = absurd (cc)
less-from-reverse Greater e = absurd (cc)

-- two regions that differ stand in one order or the other
count_before-either : (c : Counted) (r : Region) → same_region c.region r ≡ false → (count_before c (one_block r) || count_before (one_block r) c) ≡ true
count_before-either c r e =
    elim (area_cmp (In c.region) (In r)) as (λ o. area_cmp (In c.region) (In r) ≡ o → (by_area o false || count_before (one_block r) c) ≡ true) [
      | Less ↦ λ k. refl
      | Equal ↦ λ k.
          let s : c.region ≡ r = in-same c.region r (area_cmp-equal (In c.region) (In r) k) in
          let q : same_region c.region r ≡ true = ap (λ (z : Region). same_region z r) s ∙ same_region-refl r in
          absurd (false≢true (sym e ∙ q))
      | Greater ↦ λ k.
          let anti : Greater ≡ ordering_reverse (area_cmp (In r) (In c.region)) = sym k ∙ area_total.antisymm (In c.region) (In r) in
          less-from-reverse (area_cmp (In r) (In c.region)) anti
    ] refl

pub record AreWellCounts (blocks : List Counted) : Type 0 where
  pub ascend : Ascends count_before blocks
  pub each : Every IsBlock blocks

pub AreWellCounts-more : (r : Region) (blocks : List Counted) → has_one_base r ≡ false → AreWellCounts blocks → AreWellCounts (counted_more r blocks)
AreWellCounts-more r blocks block h =
    elim (is_counted r blocks) as (λ b. is_counted r blocks ≡ b → AreWellCounts (cond b (map (counted_again r) blocks) (placed count_before (one_block r) blocks))) [
      | true ↦ λ e. record {
        ascend = Ascends-map count_before (counted_again r) blocks (λ c f k. ap (λ q. by_area (area_cmp (In q) (In (counted_again r f).region)) false) (again-region r c) ∙ ap (λ q. by_area (area_cmp (In c.region) (In q)) false) (again-region r f) ∙ k) h.ascend;
        each = Every-map IsBlock IsBlock (counted_again r) blocks (λ c k. ap has_one_base (again-region r c) ∙ k) h.each;
      }
      | false ↦ λ e. record {
        ascend = Ascends-placed count_before count_before-trans (one_block r) blocks h.ascend (Every-weaker (λ c. same_region c.region r ≡ false) (λ c. (count_before c (one_block r) || count_before (one_block r) c) ≡ true) blocks (λ c k. count_before-either c r k) (Every-none (λ c. same_region c.region r) blocks e));
        each = Every-placed IsBlock count_before (one_block r) blocks block h.each;
      }
    ] refl

-- ---- more counts for the same facts and ranges

AreWell-more : {D : Type 0} (d : Values D) (r : Region) (blocks : List Counted) (facts : List (Fact D)) → AreWell d blocks facts → AreWell d (counted_more r blocks) facts
AreWell-more d r blocks facts h = record {
  ascend = h.ascend;
  each = Every-weaker (IsWellFact d blocks) (IsWellFact d (counted_more r blocks)) facts (λ f k. record {
    inside = k.inside;
    counted = HasCount-more r blocks (block_in f.area) k.counted;
    ranked = k.ranked;
    holds = record { fits = k.holds.fits; counted = HasCount-more r blocks (named (d.reach f.value)) k.holds.counted };
  }) h.each;
}

pub AreWell-beside : {D : Type 0} (d : Values D) (r : Region) (blocks : List Counted) (facts : List (Fact D)) → AreWell d blocks facts → AreWell d (counted_more r blocks) (facts_beside r blocks facts)
AreWell-beside d r blocks facts h =
    elim (is_counted r blocks) as (λ b. AreWell d (counted_more r blocks) (cond b (facts_outside r facts) facts)) [
      | true ↦ AreWell-more d r blocks (facts_outside r facts) (AreWell-filter d blocks (λ f. not (same_area f.area (In r))) facts h)
      | false ↦ AreWell-more d r blocks facts h
    ]

pub AreWellDirty-more : (r : Region) (blocks : List Counted) (dirty : List Dirty) → AreWellDirty blocks dirty → AreWellDirty (counted_more r blocks) dirty
AreWellDirty-more r blocks dirty h = record {
  ascend = h.ascend;
  each = Every-weaker (λ q. IsWellDirty blocks (interval_of_dirty q)) (λ q. IsWellDirty (counted_more r blocks) (interval_of_dirty q)) dirty (λ q k. record {
    filled = k.filled;
    inside = k.inside;
    marked = k.marked;
    counted = HasCount-more r blocks (block_in q.area) k.counted;
  }) h.each;
}

-- ---- together

pub IsWell-from : {D : Type 0} (d : Values D) (h : PartsHeld D) → AreWell d h.blocks h.facts → AreWellDirty h.blocks h.dirty → AreWellCounts h.blocks → IsWell d h
IsWell-from d h f q c = record { facts_ascend = f.ascend; facts = f.each; dirty_ascends = q.ascend; dirty = q.each; blocks_ascend = c.ascend; blocks = c.each }

pub AreWellCounts-of : {D : Type 0} (d : Values D) (h : PartsHeld D) → IsWell d h → AreWellCounts h.blocks
AreWellCounts-of d h w = record { ascend = w.blocks_ascend; each = w.blocks }

-- ---- each call, by what it leaves

abbrev held : {D : Type 0} → List (Fact D) → List Dirty → List Counted → PartsHeld D
held facts dirty blocks = record { facts = facts; dirty = dirty; blocks = blocks }

pub filtered-kept : {D : Type 0} (d : Values D) (t : Fact D → Bool) (facts new : List (Fact D)) (dirty : List Dirty) (blocks : List Counted) → IsWell d (record { facts = facts; dirty = dirty; blocks = blocks }) → new ≡ filter t facts → IsWell d (record { facts = new; dirty = dirty; blocks = blocks })
filtered-kept d t facts new dirty blocks h e =
    let old = held facts dirty blocks in
    let w = AreWell-filter d blocks t facts (AreWell-of d old h) in
    IsWell-from d (held new dirty blocks) (subst (AreWell d blocks) (sym e) w) (AreWellDirty-of d old h) (AreWellCounts-of d old h)

pub put-kept : {D : Type 0} (d : Values D) (a : Area) (low : ℤ) (w : Width) (v : D) (facts new : List (Fact D)) (dirty : List Dirty) (blocks : List Counted) → MayHold d blocks w v → IsWell d (record { facts = facts; dirty = dirty; blocks = blocks }) → new ≡ facts_put d a low w v facts → IsWell d (record { facts = new; dirty = dirty; blocks = blocks })
put-kept d a low w v facts new dirty blocks holds h e =
    let old = held facts dirty blocks in
    let k = AreWell-put d blocks a low w v facts holds (AreWell-of d old h) in
    IsWell-from d (held new dirty blocks) (subst (AreWell d blocks) (sym e) k) (AreWellDirty-of d old h) (AreWellCounts-of d old h)

pub exact-kept : {D : Type 0} (d : Values D) (f : Fact D) (facts new : List (Fact D)) (dirty marked : List Dirty) (blocks : List Counted) → MayStand d blocks f → IsWell d (record { facts = facts; dirty = dirty; blocks = blocks }) → new ≡ facts_with d blocks f (facts_off (interval_of_fact f) facts) → marked ≡ dirty_after (interval_of_fact f) dirty → IsWell d (record { facts = new; dirty = marked; blocks = blocks })
exact-kept d f facts new dirty marked blocks w h e k =
    let old = held facts dirty blocks in
    let filled : f.low <ℤ (interval_of_fact f).end = width-filled f.low f.w in
    IsWell-from d (held new marked blocks)
    (subst (AreWell d blocks) (sym e) (AreWell-with d blocks f facts w (AreWell-of d old h)))
    (subst (AreWellDirty blocks) (sym k) (AreWellDirty-after blocks (interval_of_fact f) dirty filled w.inside w.counted (AreWellDirty-of d old h)))
    (AreWellCounts-of d old h)

pub inside-kept : {D : Type 0} (d : Values D) (i : Interval) (facts new : List (Fact D)) (dirty marked : List Dirty) (blocks : List Counted) → i.low <ℤ i.end → IsInside i → HasCount blocks (block_in i.area) → IsWell d (record { facts = facts; dirty = dirty; blocks = blocks }) → new ≡ facts_off i facts → marked ≡ dirty_after i dirty → IsWell d (record { facts = new; dirty = marked; blocks = blocks })
inside-kept d i facts new dirty marked blocks filled inside counted h e k =
    let old = held facts dirty blocks in
    IsWell-from d (held new marked blocks)
    (subst (AreWell d blocks) (sym e) (AreWell-filter d blocks (λ f. is_off (interval_of_fact f) i) facts (AreWell-of d old h)))
    (subst (AreWellDirty blocks) (sym k) (AreWellDirty-after blocks i dirty filled inside counted (AreWellDirty-of d old h)))
    (AreWellCounts-of d old h)

pub block-kept : {D : Type 0} (d : Values D) (r : Region) (facts new : List (Fact D)) (dirty : List Dirty) (blocks more : List Counted) → has_one_base r ≡ false → IsWell d (record { facts = facts; dirty = dirty; blocks = blocks }) → new ≡ facts_beside r blocks facts → more ≡ counted_more r blocks → IsWell d (record { facts = new; dirty = dirty; blocks = more })
block-kept {D} d r facts new dirty blocks more block h e k =
    let old = held facts dirty blocks in
    let w : IsWell d (held (facts_beside r blocks facts) dirty (counted_more r blocks)) =
    IsWell-from d (held (facts_beside r blocks facts) dirty (counted_more r blocks))
    (AreWell-beside d r blocks facts (AreWell-of d old h))
    (AreWellDirty-more r blocks dirty (AreWellDirty-of d old h))
    (AreWellCounts-more r blocks block (AreWellCounts-of d old h)) in
    subst (λ (fs : List (Fact D)). IsWell d (held fs dirty more)) (sym e) (subst (λ (bs : List Counted). IsWell d (held (facts_beside r blocks facts) dirty bs)) (sym k) w)

-- what a loop over the dirty ranges may rest on
pub bounded-of : {D : Type 0} (d : Values D) (facts : List (Fact D)) (dirty given : List Dirty) (blocks : List Counted) → IsWell d (record { facts = facts; dirty = dirty; blocks = blocks }) → given ≡ dirty → Every (λ r. IsBounded (interval_of_dirty r)) given
bounded-of d facts dirty given blocks h e =
    subst (λ (rs : List Dirty). Every (λ r. IsBounded (interval_of_dirty r)) rs) (sym e) (AreWellDirty-bounded blocks dirty (AreWellDirty-of d (held facts dirty blocks) h))
