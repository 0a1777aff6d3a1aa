-- The test of lists of which parts may be built is right: it holds exactly of lists that are well.
use Rattle.std.proofs.Common.{◌≡◌, ℕ, suc, zero, ◌<◌, ◌^◌, Bool, true, false, List, [], ◌∷◌, map, take, drop, Option, Some, None, refl, sym, ap, ◌∙◌, subst, arith, ℤ, pos, neg_ℤ, ◌≤ℤ◌}
use Rattle.std.specs.Prelude.{◌&&◌, ◌||◌, ◌==◌, ⊤, not, nat_lt, int_le, int_lt, slice_get}
use Rattle.std.specs.List.{list_all}
use Rattle.std.specs.Option.{option_map_or}
use Rattle.std.proofs.lemmas.Bool.Decides.{nat_tests}
use Rattle.std.proofs.lemmas.Int.{ints}
use Rattle.std.specs.Ordering.{is_eq}
use Rattle.std.proofs.lemmas.Bool.{false≢true, and_parts, and_from, not-true}
use Rattle.bit_words.specs.declared.width.Width.{Width}
use Rattle.bit_words.specs.Width.{bits_of}
use Rattle.address_regions.specs.declared.region.Region.{Region}
use Rattle.address_regions.specs.declared.region.Region.TheVariants.{Stack, Fs, Gs, Block}
use Rattle.address_regions.specs.Extents.{has_one_base}
use Rattle.address_regions.specs.Same.{same_region}
use Rattle.address_regions.proofs.RegionLaws.{same_region-is}
use Rattle.domain_laws.specs.Laws.{Values}
use Rattle.domain_laws.specs.Reached.{named}
use Rattle.partitioned_memory.specs.declared.area.Area.{Area}
use Rattle.partitioned_memory.specs.declared.area.Area.TheVariants.{Image, In}
use Rattle.partitioned_memory.specs.declared.area.Interval.{Interval}
use Rattle.partitioned_memory.specs.declared.fact.Fact.{Fact}
use Rattle.partitioned_memory.specs.declared.fact.Dirty.{Dirty}
use Rattle.partitioned_memory.specs.declared.fact.Counted.{Counted}
use Rattle.partitioned_memory.specs.declared.fact.Held.{Held}
use Rattle.partitioned_memory.specs.declared.fact.Spot.{Spot}
use Rattle.partitioned_memory.specs.Areas.{IsBounded, IsInside, area_cmp, block_in, bounds_of, by_area, is_marked, same_area}
use Rattle.memory_map.specs.Ascending.{ascend}
use Rattle.partitioned_memory.specs.Building.{are_blocks, are_sound_dirty, are_sound_facts, are_well, fits_width, has_count, is_block, is_counted_dirty, is_counted_fact, is_counted_value, is_sound_dirty, is_sound_fact, lies_inside}
use Rattle.partitioned_memory.specs.Held.{PartsHeld, count_before, dirty_at, dirty_before, fact_at, fact_before, interval_of_dirty, interval_of_fact, is_counted, one_block, pair_of_dirty, pair_of_fact}
use Rattle.partitioned_memory.specs.Lists.{Ascends, Every, Falls}
use Rattle.partitioned_memory.specs.Pairs.{pair_before}
use Rattle.partitioned_memory.specs.Well.{FitsWidth, HasCount, IsBlock, IsWell, IsWellDirty, IsWellFact}
use Rattle.partitioned_memory.proofs.ListLaws.{Every-weaker, Every-both}
use Rattle.partitioned_memory.proofs.Cuts.{Falls-ascending}
use Rattle.partitioned_memory.proofs.Kept.{count_before-less, count_before-trans, fact_before-trans}
use Rattle.partitioned_memory.proofs.Orders.{same_area-by_cmp, int_le-true, int_le-from, int_lt-true, int_lt-from, is_left-trans}
use Rattle.partitioned_memory.proofs.DirtySpots.{Ascends-ranges}
use Rattle.partitioned_memory.proofs.FactSpots.{Ascends-facts}

-- ---- tests

to_not : (t : Bool) → t ≡ false → not t ≡ true
to_not t e = ap not e

-- a test of each element
pub Every-all : {X : Type 0} (t : X → Bool) (P : X → Type 0) (xs : List X) → ((x : X) → t x ≡ true → P x) → list_all t xs ≡ true → Every P xs
Every-all t P [] f e = tt
Every-all t P (x ∷ xs) f e = let (g, h) = and_parts (t x) (list_all t xs) e in (f x g, Every-all t P xs f h)

pub all-Every : {X : Type 0} (t : X → Bool) (P : X → Type 0) (xs : List X) → ((x : X) → P x → t x ≡ true) → Every P xs → list_all t xs ≡ true
all-Every t P [] f h = refl
all-Every t P (x ∷ xs) f h = and_from (t x) (list_all t xs) (f x h.0) (all-Every t P xs f h.1)

-- ---- order

-- where each element comes before the next one, it comes before all later ones
pub Ascends-of : {X : Type 0} (before : X → X → Bool) (P : X → Type 0) → ((x y z : X) → P y → before x y ≡ true → before y z ≡ true → before x z ≡ true)
    → (xs : List X) → Every P xs → ascend before xs ≡ true → Ascends before xs
Ascends-of before P trans [] p e = tt
Ascends-of before P trans (x ∷ []) p e = (tt, tt)
Ascends-of before P trans (x ∷ y ∷ ys) p e =
    let (first, others) = and_parts (before x y) (ascend before (y ∷ ys)) e in
    let rest : Ascends before (y ∷ ys) = Ascends-of before P trans (y ∷ ys) p.1 others in
    ((first, Every-weaker (λ z. before y z ≡ true) (λ z. before x z ≡ true) ys (λ z h. trans x y z p.1.0 first h) rest.0), rest)

pub ascend-of : {X : Type 0} (before : X → X → Bool) (xs : List X) → Ascends before xs → ascend before xs ≡ true
ascend-of before [] h = refl
ascend-of before (x ∷ []) h = refl
ascend-of before (x ∷ y ∷ ys) h = and_from (before x y) (ascend before (y ∷ ys)) h.0.0 (ascend-of before (y ∷ ys) h.1)

Every-top : {X : Type 0} (xs : List X) → Every (λ _. ⊤) xs
Every-top [] = tt
Every-top (x ∷ xs) = (tt, Every-top xs)

pub counts-ascend : (blocks : List Counted) → ascend count_before blocks ≡ true → Ascends count_before blocks
counts-ascend blocks e = Ascends-of count_before (λ _. ⊤) (λ c e f _ h k. count_before-trans c e f h k) blocks (Every-top blocks) e

-- ---- counts that ascend are found by halving

pub Falls-counts : (e : Counted) (blocks : List Counted) → Ascends count_before blocks → Falls (λ c. count_before c e) blocks
Falls-counts e blocks h = Falls-ascending count_before (λ c. count_before c e) blocks (λ c f k n. not_earlier c f k n) h
  where
    not_earlier : (c f : Counted) → count_before c f ≡ true → count_before c e ≡ false → count_before f e ≡ false
    not_earlier c f k n =
        elim (count_before f e) as (λ b. count_before f e ≡ b → b ≡ false) [
          | true ↦ λ m. absurd (false≢true (sym n ∙ count_before-trans c f e k m))
          | false ↦ λ m. refl
        ] refl

same-by_cmp : (r s : Region) → same_region r s ≡ is_eq (area_cmp (In r) (In s))
unfolding same_area same_region
same-by_cmp r s = same_area-by_cmp (In r) (In s)

-- a region that comes before another is another, and so is one that comes after one that does not
earlier-other : (c : Counted) (r : Region) → count_before c (one_block r) ≡ true → same_region c.region r ≡ false
earlier-other c r h = same-by_cmp c.region r ∙ ap is_eq (count_before-less c (one_block r) h)

later-other : (c e : Counted) (r : Region) → count_before c (one_block r) ≡ false → count_before c e ≡ true → same_region e.region r ≡ false
later-other c e r n h =
    elim (same_region e.region r) as (λ b. same_region e.region r ≡ b → b ≡ false) [
      | true ↦ λ k. absurd (false≢true (sym n ∙ ap (λ s. by_area (area_cmp (In c.region) (In s)) false) (sym (same_region-is e.region r k)) ∙ h))
      | false ↦ λ k. refl
    ] refl

others-only : (r : Region) (blocks : List Counted) → Every (λ e. same_region e.region r ≡ false) blocks → is_counted r blocks ≡ false
others-only r [] h = refl
others-only r (c ∷ cs) h = ap (λ s. s || is_counted r cs) h.0 ∙ others-only r cs h.1

alone : (t : Bool) → (t || false) ≡ t
alone true = refl
alone false = refl

is_there : Region → Option Counted → Bool
is_there r None = false
is_there r (Some c) = same_region c.region r

counted-at : (r : Region) (blocks : List Counted) (n : ℕ) → Ascends count_before blocks → Every (λ c. count_before c (one_block r) ≡ true) (take n blocks) → Every (λ c. count_before c (one_block r) ≡ false) (drop n blocks) → is_counted r blocks ≡ is_there r (slice_get blocks n)
unfolding is_there
counted-at r [] n h front back = refl
counted-at r (c ∷ cs) zero h front back =
    ap (λ s. same_region c.region r || s) (others-only r cs (Every-weaker (λ e. count_before c e ≡ true) (λ e. same_region e.region r ≡ false) cs (λ e k. later-other c e r back.0 k) h.0))
    ∙ alone (same_region c.region r)
counted-at r (c ∷ cs) (suc n) h front back =
    ap (λ s. s || is_counted r cs) (earlier-other c r front.0) ∙ counted-at r cs n h.1 front.1 back

pub counted-there : (r : Region) (blocks : List Counted) (n : ℕ) (c : Counted) → Ascends count_before blocks → Every (λ e. count_before e (one_block r) ≡ true) (take n blocks) → Every (λ e. count_before e (one_block r) ≡ false) (drop n blocks) → slice_get blocks n ≡ Some c → is_counted r blocks ≡ same_region c.region r
unfolding is_there
counted-there r blocks n c h front back e = counted-at r blocks n h front back ∙ ap (is_there r) e

pub counted-nowhere : (r : Region) (blocks : List Counted) (n : ℕ) → Ascends count_before blocks → Every (λ e. count_before e (one_block r) ≡ true) (take n blocks) → Every (λ e. count_before e (one_block r) ≡ false) (drop n blocks) → slice_get blocks n ≡ None → is_counted r blocks ≡ false
unfolding is_there
counted-nowhere r blocks n h front back e = counted-at r blocks n h front back ∙ ap (is_there r) e

-- ---- by themselves

least_above : (a : Area) (low : ℤ) → (bounds_of a).0 ≤ℤ low → neg_ℤ (pos (2 ^ 32)) ≤ℤ low
least_above Image low h = omega (arith, ints)
least_above (In Stack) low h = omega (arith, ints)
least_above (In Fs) low h = omega (arith, ints)
least_above (In Gs) low h = omega (arith, ints)
least_above (In (Block site size zeroed)) low h = omega (arith, ints)

pub inside-of : (i : Interval) → lies_inside i ≡ true → IsInside i
inside-of i e =
    let (low, rest) = and_parts (int_le (bounds_of i.area).0 i.low) (int_le i.low i.end && (int_le i.end (bounds_of i.area).1 && int_le i.end (pos (2 ^ 32)))) e in
    let (ordered, ends) = and_parts (int_le i.low i.end) (int_le i.end (bounds_of i.area).1 && int_le i.end (pos (2 ^ 32))) rest in
    let (end, greatest) = and_parts (int_le i.end (bounds_of i.area).1) (int_le i.end (pos (2 ^ 32))) ends in
    record {
      low = int_le-true (bounds_of i.area).0 i.low low;
      end = int_le-true i.end (bounds_of i.area).1 end;
      bounded = record {
        least = least_above i.area i.low (int_le-true (bounds_of i.area).0 i.low low);
        greatest = int_le-true i.end (pos (2 ^ 32)) greatest;
        ordered = int_le-true i.low i.end ordered;
      };
    }

pub lies-inside : (i : Interval) → IsInside i → lies_inside i ≡ true
lies-inside i h =
    and_from (int_le (bounds_of i.area).0 i.low) (int_le i.low i.end && (int_le i.end (bounds_of i.area).1 && int_le i.end (pos (2 ^ 32)))) (int_le-from (bounds_of i.area).0 i.low h.low)
    (and_from (int_le i.low i.end) (int_le i.end (bounds_of i.area).1 && int_le i.end (pos (2 ^ 32))) (int_le-from i.low i.end h.bounded.ordered)
    (and_from (int_le i.end (bounds_of i.area).1) (int_le i.end (pos (2 ^ 32))) (int_le-from i.end (bounds_of i.area).1 h.end) (int_le-from i.end (pos (2 ^ 32)) h.bounded.greatest)))

pub count-of : (blocks : List Counted) (r : Option Region) → has_count blocks r ≡ true → HasCount blocks r
count-of blocks None e = tt
count-of blocks (Some r) e = e

pub has-count : (blocks : List Counted) (r : Option Region) → HasCount blocks r → has_count blocks r ≡ true
has-count blocks None h = refl
has-count blocks (Some r) h = h

less-of : (a b : ℕ) → nat_lt a b ≡ true → a < b
less-of a b e = grind (arith, nat_tests)

is-less : (a b : ℕ) → a < b → nat_lt a b ≡ true
is-less a b h = grind (arith, nat_tests)

fits-by : (bound : ℕ) (o : Option ℕ) → option_map_or (λ n. nat_lt n bound) o true ≡ true → (n : ℕ) → o ≡ Some n → n < bound
fits-by bound None e n h = absurd (cc)
fits-by bound (Some m) e n h = let same : m ≡ n = cc in subst (λ k. k < bound) same (less-of m bound e)

by-fits : (bound : ℕ) (o : Option ℕ) → ((n : ℕ) → o ≡ Some n → n < bound) → option_map_or (λ n. nat_lt n bound) o true ≡ true
by-fits bound None f = refl
by-fits bound (Some m) f = is-less m bound (f m refl)

module _ {D : Type 0} (d : Values D) where
  pub fits-of : (w : Width) (v : D) → fits_width d w v ≡ true → FitsWidth d w v
  fits-of w v e = fits-by (2 ^ bits_of w) (d.number_of v) e

  pub fits-width : (w : Width) (v : D) → FitsWidth d w v → fits_width d w v ≡ true
  fits-width w v f = by-fits (2 ^ bits_of w) (d.number_of v) f

  fact-of : (blocks : List Counted) (f : Fact D) → is_sound_fact d f ≡ true → is_counted_fact d blocks f ≡ true → IsWellFact d blocks f
  fact-of blocks f s c =
      let (inside, rest) = and_parts (lies_inside (interval_of_fact f)) (not (d.rank f.value == 0) && fits_width d f.w f.value) s in
      let (ranked, fits) = and_parts (not (d.rank f.value == 0)) (fits_width d f.w f.value) rest in
      let (area, value) = and_parts (has_count blocks (block_in f.area)) (is_counted_value d blocks f.value) c in
      record {
        inside = inside-of (interval_of_fact f) inside;
        counted = count-of blocks (block_in f.area) area;
        ranked = not-true (d.rank f.value == 0) ranked;
        holds = record { fits = fits-of f.w f.value fits; counted = count-of blocks (named (d.reach f.value)) value };
      }

  sound-fact : (blocks : List Counted) (f : Fact D) → IsWellFact d blocks f → is_sound_fact d f ≡ true
  sound-fact blocks f h =
      and_from (lies_inside (interval_of_fact f)) (not (d.rank f.value == 0) && fits_width d f.w f.value) (lies-inside (interval_of_fact f) h.inside)
      (and_from (not (d.rank f.value == 0)) (fits_width d f.w f.value) (to_not (d.rank f.value == 0) h.ranked) (fits-width f.w f.value h.holds.fits))

  counted-fact : (blocks : List Counted) (f : Fact D) → IsWellFact d blocks f → is_counted_fact d blocks f ≡ true
  counted-fact blocks f h =
      and_from (has_count blocks (block_in f.area)) (is_counted_value d blocks f.value) (has-count blocks (block_in f.area) h.counted) (has-count blocks (named (d.reach f.value)) h.holds.counted)

dirty-of : (blocks : List Counted) (r : Dirty) → is_sound_dirty r ≡ true → is_counted_dirty blocks r ≡ true → IsWellDirty blocks (interval_of_dirty r)
dirty-of blocks r s c =
    let (filled, rest) = and_parts (int_lt (interval_of_dirty r).low (interval_of_dirty r).end) (lies_inside (interval_of_dirty r) && is_marked r.area) s in
    let (inside, marked) = and_parts (lies_inside (interval_of_dirty r)) (is_marked r.area) rest in
    record {
      filled = int_lt-true (interval_of_dirty r).low (interval_of_dirty r).end filled;
      inside = inside-of (interval_of_dirty r) inside;
      marked = marked;
      counted = count-of blocks (block_in r.area) c;
    }

sound-dirty : (blocks : List Counted) (r : Dirty) → IsWellDirty blocks (interval_of_dirty r) → is_sound_dirty r ≡ true
sound-dirty blocks r h =
    and_from (int_lt (interval_of_dirty r).low (interval_of_dirty r).end) (lies_inside (interval_of_dirty r) && is_marked r.area) (int_lt-from (interval_of_dirty r).low (interval_of_dirty r).end h.filled)
    (and_from (lies_inside (interval_of_dirty r)) (is_marked r.area) (lies-inside (interval_of_dirty r) h.inside) h.marked)

counted-dirty : (blocks : List Counted) (r : Dirty) → IsWellDirty blocks (interval_of_dirty r) → is_counted_dirty blocks r ≡ true
counted-dirty blocks r h = has-count blocks (block_in r.area) h.counted

dirty_before-trans : (blocks : List Counted) (r s t : Dirty) → IsWellDirty blocks (interval_of_dirty s) → dirty_before r s ≡ true → dirty_before s t ≡ true → dirty_before r t ≡ true
dirty_before-trans blocks r s t h e k = is_left-trans (interval_of_dirty r) (interval_of_dirty s) (interval_of_dirty t) h.inside.bounded.ordered e k

-- ---- the whole

module _ {D : Type 0} (d : Values D) (h : PartsHeld D) where
  pub well-of : are_well d h ≡ true → IsWell d h
  unfolding are_well
  well-of e =
      let F = are_sound_facts d h.blocks h.facts in
      let R = are_sound_dirty h.blocks h.dirty in
      let (blocks, rest) = and_parts (are_blocks h.blocks) (F && R) e in
      let (facts, dirty) = and_parts F R rest in
      let (blocks_order, blocks_each) = and_parts (ascend count_before h.blocks) (list_all is_block h.blocks) blocks in
      let (facts_order, facts_each) = and_parts (ascend fact_before h.facts) (list_all (is_sound_fact d) h.facts && list_all (is_counted_fact d h.blocks) h.facts) facts in
      let (facts_sound, facts_counted) = and_parts (list_all (is_sound_fact d) h.facts) (list_all (is_counted_fact d h.blocks) h.facts) facts_each in
      let (dirty_order, dirty_each) = and_parts (ascend dirty_before h.dirty) (list_all is_sound_dirty h.dirty && list_all (is_counted_dirty h.blocks) h.dirty) dirty in
      let (dirty_sound, dirty_counted) = and_parts (list_all is_sound_dirty h.dirty) (list_all (is_counted_dirty h.blocks) h.dirty) dirty_each in
      let well_facts : Every (IsWellFact d h.blocks) h.facts =
      Every-both (λ f. is_sound_fact d f ≡ true) (λ f. is_counted_fact d h.blocks f ≡ true) (IsWellFact d h.blocks) h.facts (fact-of d h.blocks)
      (Every-all (is_sound_fact d) (λ f. is_sound_fact d f ≡ true) h.facts (λ f t. t) facts_sound)
      (Every-all (is_counted_fact d h.blocks) (λ f. is_counted_fact d h.blocks f ≡ true) h.facts (λ f t. t) facts_counted) in
      let well_dirty : Every (λ r. IsWellDirty h.blocks (interval_of_dirty r)) h.dirty =
      Every-both (λ r. is_sound_dirty r ≡ true) (λ r. is_counted_dirty h.blocks r ≡ true) (λ r. IsWellDirty h.blocks (interval_of_dirty r)) h.dirty (dirty-of h.blocks)
      (Every-all is_sound_dirty (λ r. is_sound_dirty r ≡ true) h.dirty (λ r t. t) dirty_sound)
      (Every-all (is_counted_dirty h.blocks) (λ r. is_counted_dirty h.blocks r ≡ true) h.dirty (λ r t. t) dirty_counted) in
      record {
        facts_ascend = Ascends-of fact_before (IsWellFact d h.blocks) (λ f g k w. fact_before-trans f g k) h.facts well_facts facts_order;
        facts = well_facts;
        dirty_ascends = Ascends-of dirty_before (λ r. IsWellDirty h.blocks (interval_of_dirty r)) (dirty_before-trans h.blocks) h.dirty well_dirty dirty_order;
        dirty = well_dirty;
        blocks_ascend = counts-ascend h.blocks blocks_order;
        blocks = Every-all is_block IsBlock h.blocks (λ c t. not-true (has_one_base c.region) t) blocks_each;
      }

  pub are-well : IsWell d h → are_well d h ≡ true
  unfolding are_well
  are-well w =
      let F = are_sound_facts d h.blocks h.facts in
      let R = are_sound_dirty h.blocks h.dirty in
      and_from (are_blocks h.blocks) (F && R)
      (and_from (ascend count_before h.blocks) (list_all is_block h.blocks) (ascend-of count_before h.blocks w.blocks_ascend)
      (all-Every is_block IsBlock h.blocks (λ c t. to_not (has_one_base c.region) t) w.blocks))
      (and_from F R
      (and_from (ascend fact_before h.facts) (list_all (is_sound_fact d) h.facts && list_all (is_counted_fact d h.blocks) h.facts) (ascend-of fact_before h.facts w.facts_ascend)
      (and_from (list_all (is_sound_fact d) h.facts) (list_all (is_counted_fact d h.blocks) h.facts)
      (all-Every (is_sound_fact d) (IsWellFact d h.blocks) h.facts (sound-fact d h.blocks) w.facts)
      (all-Every (is_counted_fact d h.blocks) (IsWellFact d h.blocks) h.facts (counted-fact d h.blocks) w.facts)))
      (and_from (ascend dirty_before h.dirty) (list_all is_sound_dirty h.dirty && list_all (is_counted_dirty h.blocks) h.dirty) (ascend-of dirty_before h.dirty w.dirty_ascends)
      (and_from (list_all is_sound_dirty h.dirty) (list_all (is_counted_dirty h.blocks) h.dirty)
      (all-Every is_sound_dirty (λ r. IsWellDirty h.blocks (interval_of_dirty r)) h.dirty (sound-dirty h.blocks) w.dirty)
      (all-Every (is_counted_dirty h.blocks) (λ r. IsWellDirty h.blocks (interval_of_dirty r)) h.dirty (counted-dirty h.blocks) w.dirty))))

-- ---- by spots

facts-there : {D : Type 0} (facts : List (Fact D)) → map fact_at (map pair_of_fact facts) ≡ facts
facts-there [] = refl
facts-there (f ∷ facts) = ap (λ fs. f ∷ fs) (facts-there facts)

dirty-there : (dirty : List Dirty) → map dirty_at (map pair_of_dirty dirty) ≡ dirty
dirty-there [] = refl
dirty-there (r ∷ rs) = ap (λ ds. r ∷ ds) (dirty-there rs)

module _ {D : Type 0} (d : Values D) (facts : List (Fact D)) (dirty : List Dirty) (blocks : List Counted) (w : IsWell d (record { facts = facts; dirty = dirty; blocks = blocks })) where
  -- the pairs of facts that are well ascend by their spots
  pub fact_pairs-ascend : (pairs : List (Spot × Held D)) → pairs ≡ map pair_of_fact facts → Ascends pair_before pairs
  fact_pairs-ascend pairs e =
      subst (Ascends pair_before) (sym e) (Ascends-facts (map pair_of_fact facts) (subst (Ascends fact_before) (sym (facts-there facts)) w.facts_ascend))

  pub dirty_pairs-ascend : (pairs : List (Spot × ℤ)) → pairs ≡ map pair_of_dirty dirty → Ascends pair_before pairs
  dirty_pairs-ascend pairs e =
      let P : List Dirty → Type 0 = λ rs. Every (λ r. IsBounded (interval_of_dirty r)) rs in
      subst (Ascends pair_before) (sym e) (Ascends-ranges (map pair_of_dirty dirty)
      (subst P (sym (dirty-there dirty)) (Every-weaker (λ r. IsWellDirty blocks (interval_of_dirty r)) (λ r. IsBounded (interval_of_dirty r)) dirty (λ r k. k.inside.bounded) w.dirty))
      (subst (Ascends dirty_before) (sym (dirty-there dirty)) w.dirty_ascends))

  -- what the parts hold that are built of them
  pub built-holds : (f : List (Spot × Held D)) (r : List (Spot × ℤ)) (b : List Counted) → f ≡ map pair_of_fact facts → r ≡ map pair_of_dirty dirty → b ≡ blocks
      → (let made : PartsHeld D = record { facts = map fact_at f; dirty = map dirty_at r; blocks = b } in made) ≡ (let given : PartsHeld D = record { facts = facts; dirty = dirty; blocks = blocks } in given)
  built-holds f r b e k same =
      let one : map fact_at f ≡ facts = ap (map fact_at) e ∙ facts-there facts in
      let two : map dirty_at r ≡ dirty = ap (map dirty_at) k ∙ dirty-there dirty in
      cc
