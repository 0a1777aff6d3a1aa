-- The fact that has a byte of the image, by spots.
use Rattle.std.proofs.Common.{◌≡◌, Bool, true, false, List, [], ◌∷◌, map, refl, sym, ap, ◌∙◌, subst, arith, ℤ, pos, ◌+ℤ◌, ◌≤ℤ◌, ◌<ℤ◌}
use Rattle.std.specs.Prelude.{◌&&◌, not, find, int_le, int_lt, is_some}
use Rattle.std.specs.Option.{option_map}
use Rattle.std.specs.Ordering.{is_eq, ordering_reverse}
use Rattle.std.specs.declared.cmp.Ordering.{Ordering}
use Rattle.std.specs.declared.cmp.Ordering.TheVariants.{Less, Equal, Greater}
use Rattle.std.proofs.lemmas.Bool.{false≢true, false_from_ne_true, or_left}
use Rattle.std.proofs.lemmas.Int.{ints}
use Rattle.std.proofs.lemmas.Grind.{common_steps}
use Rattle.domain_laws.specs.Laws.{Values}
use Rattle.partitioned_memory.specs.declared.area.Area.TheVariants.{Image}
use Rattle.partitioned_memory.specs.declared.area.Interval.{Interval}
use Rattle.partitioned_memory.specs.declared.fact.Spot.{Spot}
use Rattle.partitioned_memory.specs.declared.fact.Held.{Held}
use Rattle.partitioned_memory.specs.Areas.{area_cmp, by_area, has_byte, interval_at, is_before}
use Rattle.partitioned_memory.specs.Leaves.{unless}
use Rattle.partitioned_memory.specs.Lists.{Ascends}
use Rattle.partitioned_memory.specs.Pairs.{IsParted, first_in}
use Rattle.partitioned_memory.specs.Held.{fact_at, fact_before, interval_of_fact}
use Rattle.partitioned_memory.specs.KnownBytes.{is_number_at}
use Rattle.partitioned_memory.proofs.ListLaws.{Every-weaker, find-same}
use Rattle.partitioned_memory.proofs.Cuts.{Every-unmap}
use Rattle.partitioned_memory.proofs.Bytes.{off-no_byte}
use Rattle.partitioned_memory.proofs.Orders.{area_total, int_le-from, int_le-true, int_lt-from, int_lt-true, same_area-by_cmp}
use Rattle.partitioned_memory.proofs.FactSpots.{parted-facts}
use Rattle.partitioned_memory.proofs.PutSpots.{Once, find-map, find-once}

-- the byte at an offset of the image, as an interval
abbrev own_byte : ℤ → Interval
own_byte o = interval_at Image o (pos 1)

not-le-then : (x y : ℤ) → int_le x y ≡ false → y <ℤ x
not-le-then x y e = grind (arith, ints, common_steps)

not-le : (x y : ℤ) → not (int_le x y) ≡ int_lt y x
not-le x y =
    elim (int_lt y x) as (λ b. int_lt y x ≡ b → not (int_le x y) ≡ b) [
      | true ↦ λ k. ap not (false_from_ne_true (int_le x y) (λ e. let p = int_le-true x y e in let q = int_lt-true y x k in omega (arith, ints, p, q)))
      | false ↦ λ k.
          elim (int_le x y) as (λ b. int_le x y ≡ b → not b ≡ false) [
            | true ↦ λ e. refl
            | false ↦ λ e. absurd (false≢true (sym k ∙ int_lt-from y x (not-le-then x y e)))
          ] refl
    ] refl

-- one more than a number is not at most another where that is at most the number
not-le-next : (o low : ℤ) → not (int_le (o +ℤ pos 1) low) ≡ int_le low o
not-le-next o low =
    elim (int_le low o) as (λ b. int_le low o ≡ b → not (int_le (o +ℤ pos 1) low) ≡ b) [
      | true ↦ λ k. ap not (false_from_ne_true (int_le (o +ℤ pos 1) low) (λ e. let p = int_le-true (o +ℤ pos 1) low e in let q = int_le-true low o k in omega (arith, ints, p, q)))
      | false ↦ λ k. ap not (int_le-from (o +ℤ pos 1) low (let p = not-le-then low o k in omega (arith, ints, p)))
    ] refl

and-turned : (s t : Bool) → (s && t) ≡ (t && s)
and-turned true true = refl
and-turned true false = refl
and-turned false true = refl
and-turned false false = refl

meets-by : (c : Ordering) (left right low high : Bool) → not left ≡ high → not right ≡ low → (not (by_area c left) && not (by_area (ordering_reverse c) right)) ≡ (is_eq c && (low && high))
meets-by Less left right low high e h = refl
meets-by Greater left right low high e h = refl
meets-by Equal left right low high e h = ap (λ x. x && not right) e ∙ ap (λ y. high && y) h ∙ and-turned high low

-- an interval has a byte where it lies neither before it nor after it
meets-byte : (i : Interval) (o : ℤ) → (not (is_before i (own_byte o)) && not (is_before (own_byte o) i)) ≡ has_byte i Image o
unfolding is_before
meets-byte i o =
    ap (λ z. not (by_area (area_cmp i.area Image) (int_le i.end o)) && not (by_area z (int_le (o +ℤ pos 1) i.low))) (area_total.antisymm Image i.area)
    ∙ meets-by (area_cmp i.area Image) (int_le i.end o) (int_le (o +ℤ pos 1) i.low) (int_le i.low o) (int_lt o i.end) (not-le i.end o) (not-le-next o i.low)
    ∙ ap (λ s. s && (int_le i.low o && int_lt o i.end)) (sym (same_area-by_cmp i.area Image))

-- no later fact has the same byte
once-byte : {D : Type 0} (o : ℤ) (pairs : List (Spot × Held D)) → Ascends fact_before (map fact_at pairs) → Once (λ p. has_byte (interval_of_fact (fact_at p)) Image o) pairs
once-byte o [] h = tt
once-byte {D} o (p ∷ pairs) h = (
  λ e. Every-unmap (fact_at {D = D}) (λ f. has_byte (interval_of_fact f) Image o ≡ false) pairs (Every-weaker (λ f. fact_before (fact_at p) f ≡ true) (λ f. has_byte (interval_of_fact f) Image o ≡ false) (map fact_at pairs) (λ f k.
      false_from_ne_true (has_byte (interval_of_fact f) Image o) (λ q. off-no_byte (interval_of_fact (fact_at p)) (interval_of_fact f) Image o (or_left (is_before (interval_of_fact (fact_at p)) (interval_of_fact f)) (is_before (interval_of_fact f) (interval_of_fact (fact_at p))) k) e q)) h.0),
  once-byte o pairs h.1,
)

pub parted-byte : {D : Type 0} (i : Interval) (o : ℤ) (pairs : List (Spot × Held D)) → i ≡ interval_at Image o (pos 1) → Ascends fact_before (map fact_at pairs) → IsParted (λ p. is_before (interval_of_fact (fact_at p)) i) (λ p. is_before i (interval_of_fact (fact_at p))) pairs
parted-byte i o pairs e h = parted-facts i pairs (subst (λ (z : Interval). z.low ≤ℤ z.end) (sym e) (omega (arith, ints))) h

-- the fact of a number that has a byte is the one that meets it
pub number-found : {D : Type 0} (d : Values D) (i : Interval) (o : ℤ) (pairs : List (Spot × Held D)) → i ≡ interval_at Image o (pos 1) → Ascends fact_before (map fact_at pairs) → option_map fact_at (unless (λ p. not (is_some (d.number_of p.1.value))) (first_in (λ p. is_before (interval_of_fact (fact_at p)) i) (λ p. is_before i (interval_of_fact (fact_at p))) pairs)) ≡ find (is_number_at d o) (map fact_at pairs)
number-found {D} d i o pairs e h =
    let has = λ (p : Spot × Held D). has_byte (interval_of_fact (fact_at p)) Image o in
    let number = λ (p : Spot × Held D). is_some (d.number_of p.1.value) in
    ap (λ (z : Interval). option_map (fact_at {D = D}) (unless (λ p. not (number p)) (first_in (λ p. is_before (interval_of_fact (fact_at p)) z) (λ p. is_before z (interval_of_fact (fact_at p))) pairs))) e
    ∙ ap (λ r. option_map (fact_at {D = D}) (unless (λ p. not (number p)) r)) (find-same (λ p. not (is_before (interval_of_fact (fact_at p)) (own_byte o)) && not (is_before (own_byte o) (interval_of_fact (fact_at p)))) has (λ p. meets-byte (interval_of_fact (fact_at p)) o) pairs)
    ∙ ap (option_map (fact_at {D = D})) (sym (find-once has number pairs (once-byte o pairs h)))
    ∙ sym (find-map (fact_at {D = D}) (is_number_at d o) pairs)
