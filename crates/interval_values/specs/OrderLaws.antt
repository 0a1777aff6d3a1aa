-- The order of intervals, their equality and their ranks keep the laws of a domain.
use Rattle.std.proofs.Common.{◌≡◌, ℕ, ◌+◌, ◌-◌, ◌*◌, ◌≤◌, ℤ, pos, ◌+ℤ◌, ◌≤ℤ◌, refl, sym, ap, ◌∙◌, subst, arith, true, ◌&&◌, ◌==◌}
use Rattle.std.specs.Prelude.{nat_le, int_le}
use Rattle.std.specs.Ordering.{int_eq}
use Rattle.std.proofs.lemmas.Int.{ints}
use Rattle.std.proofs.lemmas.Bool.{and_parts, and_from, eqb-true, eq-eqb, leb-true, le-leb}
use Rattle.std.proofs.lemmas.Bool.Decides.{nat_tests, Decides-int_eq}
use Rattle.std.proofs.lemmas.Grind.{common_steps}
use Rattle.address_regions.specs.Places.{Places, HasBase}
use Rattle.address_regions.specs.Same.{same_region}
use Rattle.address_regions.proofs.RegionLaws.{same_region-is, same_region-refl}
use Rattle.interval_values.specs.declared.value.NumberSpan.{NumberSpan}
use Rattle.interval_values.specs.declared.value.OffsetSpan.{OffsetSpan}
use Rattle.interval_values.specs.declared.value.Interval.{Interval}
use Rattle.interval_values.specs.declared.value.Interval.TheVariants.{Numbers, Offsets, Any}
use Rattle.interval_values.specs.Forms.{is_multiple, distance}
use Rattle.interval_values.specs.Spans.{numbers, offsets}
use Rattle.interval_values.specs.Stands.{IsNumberOf, IsOffsetOf, interval_stands}
use Rattle.interval_values.specs.Order.{is_part, is_between, is_place_part, interval_leq}
use Rattle.interval_values.specs.SpanLaws.{numbers-is, offsets-is, multiple-of, multiple-from, int_le-tells, int_le-from, distance-is, distance-of}
use Rattle.interval_values.specs.contracts.value.IntervalPartialEq.TheImpl as equality

-- ---- parts

pub record IsPart (m n : NumberSpan) : Type 0 where
  pub from_low : n.low ≤ m.low
  pub to_high : m.high ≤ n.high
  pub start : ℕ
  pub starts : m.low ≡ n.low + start * n.stride
  pub times : ℕ
  pub strides : m.stride ≡ times * n.stride

part-tells : (m n : NumberSpan) → is_part m n ≡ true → IsPart m n
part-tells m n e =
    let (a, b) = and_parts (nat_le n.low m.low) (nat_le m.high n.high && (is_multiple (m.low - n.low) n.stride && is_multiple m.stride n.stride)) e in
    let (c, d) = and_parts (nat_le m.high n.high) (is_multiple (m.low - n.low) n.stride && is_multiple m.stride n.stride) b in
    let (f, g) = and_parts (is_multiple (m.low - n.low) n.stride) (is_multiple m.stride n.stride) d in
    let low = leb-true n.low m.low a in
    let (j, starts) = multiple-of (m.low - n.low) n.stride f in
    let (k, strides) = multiple-of m.stride n.stride g in
    record { from_low = low; to_high = leb-true m.high n.high c; start = j; starts = omega arith; times = k; strides = strides }

pub part-from : (m n : NumberSpan) → IsPart m n → is_part m n ≡ true
part-from m n h =
    let low = h.from_low in
    let e = h.starts in
    and_from (nat_le n.low m.low) (nat_le m.high n.high && (is_multiple (m.low - n.low) n.stride && is_multiple m.stride n.stride)) (le-leb n.low m.low low)
    (and_from (nat_le m.high n.high) (is_multiple (m.low - n.low) n.stride && is_multiple m.stride n.stride) (le-leb m.high n.high h.to_high)
    (and_from (is_multiple (m.low - n.low) n.stride) (is_multiple m.stride n.stride)
    (multiple-from (m.low - n.low) h.start n.stride (omega arith))
    (multiple-from m.stride h.times n.stride h.strides)))

pub record IsPlacePart (m n : OffsetSpan) : Type 0 where
  pub from_low : n.low ≤ℤ m.low
  pub to_high : m.high ≤ℤ n.high
  pub start : ℕ
  pub starts : m.low ≡ n.low +ℤ pos (start * n.stride)
  pub times : ℕ
  pub strides : m.stride ≡ times * n.stride

place_part-tells : (m n : OffsetSpan) → is_place_part m n ≡ true → IsPlacePart m n
place_part-tells m n e =
    let (a, b) = and_parts (is_between m n) (is_multiple (distance n.low m.low) n.stride && is_multiple m.stride n.stride) e in
    let (c, d) = and_parts (int_le n.low m.low) (int_le m.high n.high) a in
    let (f, g) = and_parts (is_multiple (distance n.low m.low) n.stride) (is_multiple m.stride n.stride) b in
    let low = int_le-tells n.low m.low c in
    let (j, starts) = multiple-of (distance n.low m.low) n.stride f in
    let (k, strides) = multiple-of m.stride n.stride g in
    record { from_low = low; to_high = int_le-tells m.high n.high d; start = j; starts = distance-is n.low m.low low ∙ ap (λ u. n.low +ℤ pos u) starts; times = k; strides = strides }

pub place_part-from : (m n : OffsetSpan) → IsPlacePart m n → is_place_part m n ≡ true
place_part-from m n h =
    and_from (is_between m n) (is_multiple (distance n.low m.low) n.stride && is_multiple m.stride n.stride)
    (and_from (int_le n.low m.low) (int_le m.high n.high) (int_le-from n.low m.low h.from_low) (int_le-from m.high n.high h.to_high))
    (and_from (is_multiple (distance n.low m.low) n.stride) (is_multiple m.stride n.stride)
    (multiple-from (distance n.low m.low) h.start n.stride (distance-of n.low m.low (h.start * n.stride) h.starts))
    (multiple-from m.stride h.times n.stride h.strides))

-- ---- the order

-- some steps of a stride that is a multiple are steps of its divisor
steps-join : (j k q s : ℕ) → k * s + j * (q * s) ≡ (k + j * q) * s
steps-join j k q s = omega arith

below_numbers : (m n : NumberSpan) (x : ℕ) → IsPart m n → IsNumberOf m x → IsNumberOf n x
below_numbers m n x h i =
    let high = i.to_high in
    let bound = h.to_high in
    let low = h.starts in
    let join = steps-join i.steps h.start h.times n.stride in
    let is : x ≡ m.low + i.steps * (h.times * n.stride) = i.is ∙ ap (λ u. m.low + i.steps * u) h.strides in
    record { steps = h.start + i.steps * h.times; is = omega arith; to_high = omega arith }

below_offsets : (m n : OffsetSpan) (o : ℤ) → IsPlacePart m n → IsOffsetOf m o → IsOffsetOf n o
below_offsets m n o h i =
    let high = i.to_high in
    let bound = h.to_high in
    let low = h.starts in
    let is : o ≡ m.low +ℤ pos (i.steps * (h.times * n.stride)) = i.is ∙ ap (λ u. m.low +ℤ pos (i.steps * u)) h.strides in
    let sum : o ≡ n.low +ℤ pos (h.start * n.stride + i.steps * (h.times * n.stride)) = omega (arith, ints) in
    record { steps = h.start + i.steps * h.times; is = sum ∙ ap (λ u. n.low +ℤ pos u) (steps-join i.steps h.start h.times n.stride); to_high = omega (arith, ints) }

pub below : (a b : Interval) (p : Places) (x : ℕ) → interval_leq a b ≡ true → interval_stands a p x → interval_stands b p x
below a Any p x e h = tt
below (Numbers m) (Numbers n) p x e h = below_numbers m n x (part-tells m n e) h
below (Offsets m) (Offsets n) p x e h =
    let (f, g) = and_parts (same_region m.region n.region) (is_place_part m n) e in
    record { base = h.base; offset = h.offset; has_base = subst (λ r. HasBase p r h.base) (same_region-is m.region n.region f) h.has_base; of = below_offsets m n h.offset (place_part-tells m n g) h.of; is = h.is }
below (Numbers m) (Offsets n) p x e h = absurd (cc)
below (Offsets m) (Numbers n) p x e h = absurd (cc)
below Any (Numbers n) p x e h = absurd (cc)
below Any (Offsets n) p x e h = absurd (cc)

pub below-refl : (a : Interval) → interval_leq a a ≡ true
below-refl (Numbers m) = part-from m m (record { from_low = omega arith; to_high = omega arith; start = 0; starts = omega arith; times = 1; strides = omega arith })
below-refl (Offsets m) =
    and_from (same_region m.region m.region) (is_place_part m m) (same_region-refl m.region)
    (place_part-from m m (record { from_low = omega (arith, ints); to_high = omega (arith, ints); start = 0; starts = omega (arith, ints); times = 1; strides = omega arith }))
below-refl Any = refl

part-trans : (l m n : NumberSpan) → IsPart l m → IsPart m n → IsPart l n
part-trans l m n f g =
    let a = f.from_low in
    let b = g.from_low in
    let c = f.to_high in
    let d = g.to_high in
    let e = g.starts in
    let join = steps-join f.start g.start g.times n.stride in
    let start : l.low ≡ m.low + f.start * (g.times * n.stride) = f.starts ∙ ap (λ u. m.low + f.start * u) g.strides in
    let stride : l.stride ≡ f.times * (g.times * n.stride) = f.strides ∙ ap (λ u. f.times * u) g.strides in
    record { from_low = omega arith; to_high = omega arith; start = g.start + f.start * g.times; starts = omega arith; times = f.times * g.times; strides = omega arith }

place_part-trans : (l m n : OffsetSpan) → IsPlacePart l m → IsPlacePart m n → IsPlacePart l n
place_part-trans l m n f g =
    let a = f.from_low in
    let b = g.from_low in
    let c = f.to_high in
    let d = g.to_high in
    let e = g.starts in
    let start : l.low ≡ m.low +ℤ pos (f.start * (g.times * n.stride)) = f.starts ∙ ap (λ u. m.low +ℤ pos (f.start * u)) g.strides in
    let stride : l.stride ≡ f.times * (g.times * n.stride) = f.strides ∙ ap (λ u. f.times * u) g.strides in
    let sum : l.low ≡ n.low +ℤ pos (g.start * n.stride + f.start * (g.times * n.stride)) = omega (arith, ints) in
    record { from_low = omega (arith, ints); to_high = omega (arith, ints); start = g.start + f.start * g.times; starts = sum ∙ ap (λ u. n.low +ℤ pos u) (steps-join f.start g.start g.times n.stride); times = f.times * g.times; strides = omega arith }

pub below-trans : (a b c : Interval) → interval_leq a b ≡ true → interval_leq b c ≡ true → interval_leq a c ≡ true
below-trans a b Any e f = refl
below-trans (Numbers l) (Numbers m) (Numbers n) e f = part-from l n (part-trans l m n (part-tells l m e) (part-tells m n f))
below-trans (Offsets l) (Offsets m) (Offsets n) e f =
    let (a, b) = and_parts (same_region l.region m.region) (is_place_part l m) e in
    let (c, d) = and_parts (same_region m.region n.region) (is_place_part m n) f in
    and_from (same_region l.region n.region) (is_place_part l n) (subst (λ r. same_region l.region r ≡ true) (same_region-is m.region n.region c) a)
    (place_part-from l n (place_part-trans l m n (place_part-tells l m b) (place_part-tells m n d)))
below-trans (Numbers l) (Offsets m) c e f = absurd (cc)
below-trans (Offsets l) (Numbers m) c e f = absurd (cc)
below-trans Any (Numbers m) c e f = absurd (cc)
below-trans Any (Offsets m) c e f = absurd (cc)
below-trans a (Numbers m) (Offsets n) e f = absurd (cc)
below-trans a (Offsets m) (Numbers n) e f = absurd (cc)
below-trans a Any (Numbers n) e f = absurd (cc)
below-trans a Any (Offsets n) e f = absurd (cc)

-- ---- equality

same_numbers : (m n : NumberSpan) → equality.ghosts.eq (Numbers m) (Numbers n) ≡ true → (m.low ≡ n.low) × (m.high ≡ n.high) × (m.stride ≡ n.stride)
same_numbers m n e = grind (arith, nat_tests, common_steps)

offsets-shape : (m n : OffsetSpan) → equality.ghosts.eq (Offsets m) (Offsets n) ≡ (same_region m.region n.region && (int_eq m.low n.low && (int_eq m.high n.high && m.stride == n.stride)))
unfolding same_region
offsets-shape m n = refl

same_offsets : (m n : OffsetSpan) → equality.ghosts.eq (Offsets m) (Offsets n) ≡ true → (same_region m.region n.region ≡ true) × (m.low ≡ n.low) × (m.high ≡ n.high) × (m.stride ≡ n.stride)
same_offsets m n e =
    let (a, b) = and_parts (same_region m.region n.region) (int_eq m.low n.low && (int_eq m.high n.high && m.stride == n.stride)) (sym (offsets-shape m n) ∙ e) in
    let (c, d) = and_parts (int_eq m.low n.low) (int_eq m.high n.high && m.stride == n.stride) b in
    let (f, g) = and_parts (int_eq m.high n.high) (m.stride == n.stride) d in
    (a, (Decides-int_eq m.low n.low).0 c, (Decides-int_eq m.high n.high).0 f, eqb-true m.stride n.stride g)

pub same-is : (a b : Interval) → equality.ghosts.eq a b ≡ true → a ≡ b
same-is (Numbers m) (Numbers n) e =
    let (f, g, h) = same_numbers m n e in
    sym (numbers-is m) ∙ ap (λ l. numbers l m.high m.stride) f ∙ ap (λ k. numbers n.low k m.stride) g ∙ ap (numbers n.low n.high) h ∙ numbers-is n
same-is (Offsets m) (Offsets n) e =
    let (r, f, g, h) = same_offsets m n e in
    sym (offsets-is m) ∙ ap (λ s. offsets s m.low m.high m.stride) (same_region-is m.region n.region r) ∙ ap (λ l. offsets n.region l m.high m.stride) f ∙ ap (λ k. offsets n.region n.low k m.stride) g ∙ ap (offsets n.region n.low n.high) h ∙ offsets-is n
same-is Any Any e = refl
same-is a b e = absurd (cc)

same_offset-refl : (m : OffsetSpan) → equality.ghosts.eq (Offsets m) (Offsets m) ≡ true
same_offset-refl m =
    offsets-shape m m
    ∙ and_from (same_region m.region m.region) (int_eq m.low m.low && (int_eq m.high m.high && m.stride == m.stride)) (same_region-refl m.region)
    (and_from (int_eq m.low m.low) (int_eq m.high m.high && m.stride == m.stride) ((Decides-int_eq m.low m.low).1 refl)
    (and_from (int_eq m.high m.high) (m.stride == m.stride) ((Decides-int_eq m.high m.high).1 refl) (eq-eqb m.stride m.stride refl)))

pub same-refl : (a : Interval) → equality.ghosts.eq a a ≡ true
same-refl (Numbers m) = grind (arith, nat_tests, common_steps)
same-refl (Offsets m) = same_offset-refl m
same-refl Any = refl
