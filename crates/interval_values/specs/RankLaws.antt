-- Ranks and raising keep the laws of a domain.
use Rattle.std.proofs.Common.{◌≡◌, ℕ, ◌+◌, ◌-◌, ◌*◌, ◌/◌, ◌%◌, ◌<◌, ◌≤◌, ℤ, pos, ◌+ℤ◌, ◌-ℤ◌, ◌≤ℤ◌, refl, sym, ap, ◌∙◌, subst, arith, Bool, true, false, ◌&&◌, ◌==◌, if◌then◌else◌, Some, None, ⊎_elim}
use Rattle.std.specs.Prelude.{nat_le, nat_lt}
use Rattle.std.specs.Ordering.{int_eq}
use Rattle.std.proofs.lemmas.Int.{ints}
use Rattle.std.proofs.lemmas.Bool.{and_parts, and_from, eqb-true, eq-eqb, ne_eqb, cond-true, cond-false, cond_both, cases_Bool, leb-true, ltb-true}
use Rattle.std.proofs.lemmas.Bool.Decides.{Decides-int_eq}
use Rattle.address_regions.specs.declared.region.Region.{Region}
use Rattle.address_regions.specs.Extents.{has_room, is_inside, low_of, high_of}
use Rattle.address_regions.specs.Places.{Places}
use Rattle.address_regions.specs.Same.{same_region}
use Rattle.address_regions.proofs.RegionLaws.{same_region-refl, inside-tells}
use Rattle.domain_laws.specs.Reached.{named}
use Rattle.interval_values.specs.declared.value.NumberSpan.{NumberSpan}
use Rattle.interval_values.specs.declared.value.OffsetSpan.{OffsetSpan}
use Rattle.interval_values.specs.declared.value.Interval.{Interval}
use Rattle.interval_values.specs.declared.value.Interval.TheVariants.{Numbers, Offsets, Any}
use Rattle.interval_values.specs.Forms.{distance}
use Rattle.interval_values.specs.Spans.{span, place_span, interval_inside}
use Rattle.interval_values.specs.Stands.{interval_stands, interval_number_of, interval_reach}
use Rattle.interval_values.specs.Order.{is_place_part, interval_leq, is_all_low, has_inner_bounds, is_all_inside, rank_of, interval_rank, raise_number, raise_numbers, least_equal, greatest_equal, raise_to_inside, raise_offset, raise_offsets, interval_raise}
use Rattle.interval_values.specs.SpanLaws.{span-cases, place_span-cases, stride-zero, number_span-tells, offset_span-tells, distance-is, distance-of}
use Rattle.interval_values.specs.MemberLaws.{span-named, place_span-named, span-none, place_span-none}
use Rattle.interval_values.specs.OrderLaws.{part-from, place_part-from}

-- ---- what is below a span

-- one number is below a span that holds it
number_in : (m : NumberSpan) (l h s k : ℕ) → m.low ≡ m.high → (l ≡ h → ⊥) → m.low ≡ l + k * s → m.low ≤ h → interval_leq (Numbers m) (span l h s) ≡ true
number_in m l h s k one two is high =
    let none = stride-zero (m.high - m.low) m.stride (number_span-tells m.low m.high m.stride m.formed).stride (omega arith) in
    span-cases (λ v. interval_leq (Numbers m) v ≡ true) l h s
    (λ n i j q.
    let stride : n.stride ≡ s = q ∙ cond-false (l == h) 0 s (ne_eqb l h two) in
    part-from m n (record { from_low = omega arith; to_high = omega arith; start = k; starts = is ∙ ap (λ u. u + k * s) (sym i) ∙ ap (λ u. n.low + k * u) (sym stride); times = 0; strides = none ∙ omega arith }))
    (λ g. refl)

-- several are below all from l on by 1
numbers_in : (m : NumberSpan) (h : ℕ) → (0 ≡ h → ⊥) → m.high ≤ h → interval_leq (Numbers m) (span 0 h 1) ≡ true
numbers_in m h two high =
    span-cases (λ v. interval_leq (Numbers m) v ≡ true) 0 h 1
    (λ n i j q.
    let stride : n.stride ≡ 1 = q ∙ cond-false (0 == h) 0 1 (ne_eqb 0 h two) in
    part-from m n (record { from_low = omega arith; to_high = omega arith; start = m.low; starts = sym (ap (λ u. n.low + m.low * u) stride ∙ omega arith); times = m.stride; strides = sym (ap (λ u. m.stride * u) stride ∙ omega arith) }))
    (λ g. refl)

same_offset : (m : OffsetSpan) → int_eq m.low m.high ≡ true → m.low ≡ m.high
same_offset m e = (Decides-int_eq m.low m.high).0 e

differ : (l h : ℤ) → int_eq l h ≡ false → l ≡ h → ⊥
differ l h e f = let g = (Decides-int_eq l h).1 f in absurd (cc)

unequal : (l h : ℤ) → (l ≡ h → ⊥) → int_eq l h ≡ false
unequal l h f = ⊎_elim (λ (e : int_eq l h ≡ true). absurd (f ((Decides-int_eq l h).0 e))) (λ (e : int_eq l h ≡ false). e) (cases_Bool (int_eq l h))

-- one offset is below a span of its region that holds it
offset_in : (m : OffsetSpan) (l h : ℤ) (s k : ℕ) → m.low ≡ m.high → int_eq l h ≡ false → m.low ≡ l +ℤ pos (k * s) → m.low ≤ℤ h → interval_leq (Offsets m) (place_span m.region l h s) ≡ true
offset_in m l h s k one two is high =
    let same : m.high ≡ m.low +ℤ pos 0 = omega (arith, ints) in
    let none = stride-zero (distance m.low m.high) m.stride (offset_span-tells m.low m.high m.stride m.formed).stride (distance-of m.low m.high 0 same) in
    place_span-cases (λ v. interval_leq (Offsets m) v ≡ true) m.region l h s
    (λ n g i j q.
    let stride : n.stride ≡ s = q ∙ cond-false (int_eq l h) 0 s two in
    and_from (same_region m.region n.region) (is_place_part m n) (subst (λ r. same_region m.region r ≡ true) (sym g) (same_region-refl m.region))
    (place_part-from m n (record { from_low = omega (arith, ints); to_high = omega (arith, ints); start = k; starts = is ∙ ap (λ u. u +ℤ pos (k * s)) (sym i) ∙ ap (λ u. n.low +ℤ pos (k * u)) (sym stride); times = 0; strides = none ∙ omega arith })))
    (λ g. refl)

-- offsets between two bounds are below all between these by 1
offsets_in : (m : OffsetSpan) (l h : ℤ) → int_eq l h ≡ false → l ≤ℤ m.low → m.high ≤ℤ h → interval_leq (Offsets m) (place_span m.region l h 1) ≡ true
offsets_in m l h two low high =
    place_span-cases (λ v. interval_leq (Offsets m) v ≡ true) m.region l h 1
    (λ n g i j q.
    let stride : n.stride ≡ 1 = q ∙ cond-false (int_eq l h) 0 1 two in
    let by_one : distance l m.low ≡ distance l m.low * n.stride = sym (ap (λ u. distance l m.low * u) stride ∙ omega arith) in
    and_from (same_region m.region n.region) (is_place_part m n) (subst (λ r. same_region m.region r ≡ true) (sym g) (same_region-refl m.region))
    (place_part-from m n (record { from_low = omega (arith, ints); to_high = omega (arith, ints); start = distance l m.low; starts = distance-is l m.low low ∙ ap (λ u. u +ℤ pos (distance l m.low)) (sym i) ∙ ap (λ u. n.low +ℤ pos u) by_one; times = m.stride; strides = sym (ap (λ u. m.stride * u) stride ∙ omega arith) })))
    (λ g. refl)

-- where two offsets lie inside, there are two inside
inside_two : (m : OffsetSpan) → int_eq m.low m.high ≡ false → low_of m.region ≤ℤ m.low → m.high ≤ℤ (high_of m.region -ℤ pos 4) → int_eq (low_of m.region) (high_of m.region -ℤ pos 4) ≡ false
inside_two m two low high =
    let order = (offset_span-tells m.low m.high m.stride m.formed).ordered in
    unequal (low_of m.region) (high_of m.region -ℤ pos 4) (λ e. differ m.low m.high two (omega (arith, ints)))

-- ---- a raised value is above

number_raised : (m : NumberSpan) → m.low ≡ m.high → interval_leq (Numbers m) (raise_number m.low) ≡ true
number_raised m one =
    cond_both (nat_lt m.low 65536) (span (m.low % 4) (m.low % 4 + 65532) 4) Any (λ v. interval_leq (Numbers m) v ≡ true)
    (λ t. let below = ltb-true m.low 65536 t in number_in m (m.low % 4) (m.low % 4 + 65532) 4 (m.low / 4) one (λ e. omega arith) (omega arith) (omega arith))
    (λ t. refl)

numbers_raised : (m : NumberSpan) → interval_leq (Numbers m) (raise_numbers m) ≡ true
numbers_raised m =
    cond_both (is_all_low m) Any (if nat_le m.high 65535 then span 0 65535 1 else Any) (λ v. interval_leq (Numbers m) v ≡ true)
    (λ t. refl)
    (λ t. cond_both (nat_le m.high 65535) (span 0 65535 1) Any (λ v. interval_leq (Numbers m) v ≡ true)
    (λ u. numbers_in m 65535 (λ e. omega arith) (leb-true m.high 65535 u))
    (λ u. refl))

-- offsets inside a region are below all inside it, where there are two
inside_above : (m : OffsetSpan) → int_eq (low_of m.region) (high_of m.region -ℤ pos 4) ≡ false → low_of m.region ≤ℤ m.low → m.high ≤ℤ (high_of m.region -ℤ pos 4) → interval_leq (Offsets m) (interval_inside m.region) ≡ true
inside_above m two low high =
    cond_both (has_room m.region) (place_span m.region (low_of m.region) (high_of m.region -ℤ pos 4) 1) Any (λ v. interval_leq (Offsets m) v ≡ true)
    (λ t. offsets_in m (low_of m.region) (high_of m.region -ℤ pos 4) two low high)
    (λ t. refl)

offset_raised : (m : OffsetSpan) → m.low ≡ m.high → interval_leq (Offsets m) (raise_offset m.region m.low) ≡ true
offset_raised m one =
    cond_both (is_inside m.region m.low)
    (if int_eq (least_equal m.region m.low) (greatest_equal m.region m.low) then raise_to_inside m.region else place_span m.region (least_equal m.region m.low) (greatest_equal m.region m.low) 4)
    Any (λ v. interval_leq (Offsets m) v ≡ true)
    (λ t.
    let (room, low, high) = inside-tells m.region m.low t in
    cond_both (int_eq (least_equal m.region m.low) (greatest_equal m.region m.low)) (raise_to_inside m.region) (place_span m.region (least_equal m.region m.low) (greatest_equal m.region m.low) 4) (λ v. interval_leq (Offsets m) v ≡ true)
    (λ u. cond_both (int_eq (low_of m.region) (high_of m.region -ℤ pos 4)) Any (interval_inside m.region) (λ v. interval_leq (Offsets m) v ≡ true)
    (λ w. refl)
    (λ w. inside_above m w low (omega (arith, ints))))
    (λ u.
    let from = distance-is (low_of m.region) m.low low in
    let to = distance-is m.low (high_of m.region -ℤ pos 4) high in
    offset_in m (least_equal m.region m.low) (greatest_equal m.region m.low) 4 (distance (low_of m.region) m.low / 4) one u (omega (arith, ints)) (omega (arith, ints))))
    (λ t. refl)

offsets_raised : (m : OffsetSpan) → int_eq m.low m.high ≡ false → interval_leq (Offsets m) (raise_offsets m) ≡ true
offsets_raised m two =
    cond_both (is_all_inside m) Any (if is_inside m.region m.low && is_inside m.region m.high then interval_inside m.region else Any) (λ v. interval_leq (Offsets m) v ≡ true)
    (λ t. refl)
    (λ t. cond_both (is_inside m.region m.low && is_inside m.region m.high) (interval_inside m.region) Any (λ v. interval_leq (Offsets m) v ≡ true)
    (λ u.
    let (a, b) = and_parts (is_inside m.region m.low) (is_inside m.region m.high) u in
    let (room, low, high) = inside-tells m.region m.low a in
    let (also, from, to) = inside-tells m.region m.high b in
    inside_above m (inside_two m two low to) low to)
    (λ u. refl))

pub raised : (v : Interval) → 0 < interval_rank v → interval_leq v (interval_raise v) ≡ true
raised (Numbers m) h =
    cond_both (m.low == m.high) (raise_number m.low) (raise_numbers m) (λ v. interval_leq (Numbers m) v ≡ true)
    (λ t. number_raised m (eqb-true m.low m.high t))
    (λ t. numbers_raised m)
raised (Offsets m) h =
    cond_both (int_eq m.low m.high) (raise_offset m.region m.low) (raise_offsets m) (λ v. interval_leq (Offsets m) v ≡ true)
    (λ t. offset_raised m (same_offset m t))
    (λ t. offsets_raised m t)
raised Any h = refl

-- ---- and of smaller rank

rank-two : (one all : Bool) → one ≡ false → rank_of one all ≤ 2
rank-two true all e = absurd (cc)
rank-two false true e = omega arith
rank-two false false e = omega arith

rank-one : (one all : Bool) → one ≡ false → all ≡ true → rank_of one all ≡ 1
rank-one true all e f = absurd (cc)
rank-one false true e f = refl
rank-one false false e f = absurd (cc)

rank-positive : (one all : Bool) → rank_of one all ≡ 0 → ⊥
rank-positive true all e = absurd (omega arith)
rank-positive false true e = absurd (omega arith)
rank-positive false false e = absurd (omega arith)

span_rank : (l h s : ℕ) → (l ≡ h → ⊥) → interval_rank (span l h s) ≤ 2
span_rank l h s two =
    span-cases (λ v. interval_rank v ≤ 2) l h s
    (λ n i j q. rank-two (n.low == n.high) (is_all_low n) (ne_eqb n.low n.high (λ e. two (sym i ∙ e ∙ j))))
    (λ g. omega arith)

all_low-rank : interval_rank (span 0 65535 1) ≤ 1
all_low-rank =
    span-cases (λ v. interval_rank v ≤ 1) 0 65535 1
    (λ n i j q.
    let one = rank-one (n.low == n.high) (is_all_low n) (ne_eqb n.low n.high (λ e. omega arith)) (and_from (n.low == 0) (n.high == 65535 && n.stride == 1) (eq-eqb n.low 0 i) (and_from (n.high == 65535) (n.stride == 1) (eq-eqb n.high 65535 j) (eq-eqb n.stride 1 (q ∙ refl)))) in
    omega arith)
    (λ g. omega arith)

place_span-rank : (r : Region) (l h : ℤ) (s : ℕ) → int_eq l h ≡ false → interval_rank (place_span r l h s) ≤ 2
place_span-rank r l h s two =
    place_span-cases (λ v. interval_rank v ≤ 2) r l h s
    (λ n g i j q. rank-two (int_eq n.low n.high) (is_all_inside n) (unequal n.low n.high (λ e. differ l h two (sym i ∙ e ∙ j))))
    (λ g. omega arith)

inside_rank : (r : Region) → int_eq (low_of r) (high_of r -ℤ pos 4) ≡ false → interval_rank (interval_inside r) ≤ 1
inside_rank r two =
    cond_both (has_room r) (place_span r (low_of r) (high_of r -ℤ pos 4) 1) Any (λ v. interval_rank v ≤ 1)
    (λ t. place_span-cases (λ v. interval_rank v ≤ 1) r (low_of r) (high_of r -ℤ pos 4) 1
    (λ n g i j q.
    let stride : n.stride ≡ 1 = q ∙ cond-false (int_eq (low_of r) (high_of r -ℤ pos 4)) 0 1 two in
    let low : n.low ≡ low_of n.region = i ∙ ap low_of (sym g) in
    let high : n.high ≡ high_of n.region -ℤ pos 4 = j ∙ ap (λ u. high_of u -ℤ pos 4) (sym g) in
    let one = rank-one (int_eq n.low n.high) (is_all_inside n) (unequal n.low n.high (λ e. differ (low_of r) (high_of r -ℤ pos 4) two (sym i ∙ e ∙ j)))
    (and_from (has_room n.region) (has_inner_bounds n && n.stride == 1) (subst (λ u. has_room u ≡ true) (sym g) t)
    (and_from (has_inner_bounds n) (n.stride == 1)
    (and_from (int_eq n.low (low_of n.region)) (int_eq n.high (high_of n.region -ℤ pos 4)) ((Decides-int_eq n.low (low_of n.region)).1 low) ((Decides-int_eq n.high (high_of n.region -ℤ pos 4)).1 high))
    (eq-eqb n.stride 1 stride))) in
    omega arith)
    (λ g. omega arith))
    (λ t. omega arith)

number_lower : (n : ℕ) → interval_rank (raise_number n) < 3
number_lower n =
    cond_both (nat_lt n 65536) (span (n % 4) (n % 4 + 65532) 4) Any (λ v. interval_rank v < 3)
    (λ t. let low = span_rank (n % 4) (n % 4 + 65532) 4 (λ e. omega arith) in omega arith)
    (λ t. omega arith)

numbers_lower : (m : NumberSpan) → interval_rank (raise_numbers m) < rank_of false (is_all_low m)
numbers_lower m =
    ⊎_elim
    (λ (e : is_all_low m ≡ true).
    let up : raise_numbers m ≡ Any = cond-true (is_all_low m) Any (if nat_le m.high 65535 then span 0 65535 1 else Any) e in
    let rank : rank_of false (is_all_low m) ≡ 1 = rank-one false (is_all_low m) refl e in
    let low = ap interval_rank up in omega arith)
    (λ (e : is_all_low m ≡ false).
    let up : raise_numbers m ≡ (if nat_le m.high 65535 then span 0 65535 1 else Any) = cond-false (is_all_low m) Any (if nat_le m.high 65535 then span 0 65535 1 else Any) e in
    let rank : rank_of false (is_all_low m) ≡ 2 = cond-false (is_all_low m) 1 2 e in
    let low : interval_rank (if nat_le m.high 65535 then span 0 65535 1 else Any) ≤ 1 = cond_both (nat_le m.high 65535) (span 0 65535 1) Any (λ v. interval_rank v ≤ 1) (λ t. all_low-rank) (λ t. omega arith) in
    let is = ap interval_rank up in omega arith)
    (cases_Bool (is_all_low m))

offset_lower : (r : Region) (o : ℤ) → interval_rank (raise_offset r o) < 3
offset_lower r o =
    cond_both (is_inside r o)
    (if int_eq (least_equal r o) (greatest_equal r o) then raise_to_inside r else place_span r (least_equal r o) (greatest_equal r o) 4)
    Any (λ v. interval_rank v < 3)
    (λ t. cond_both (int_eq (least_equal r o) (greatest_equal r o)) (raise_to_inside r) (place_span r (least_equal r o) (greatest_equal r o) 4) (λ v. interval_rank v < 3)
    (λ u. cond_both (int_eq (low_of r) (high_of r -ℤ pos 4)) Any (interval_inside r) (λ v. interval_rank v < 3) (λ w. omega arith) (λ w. let low = inside_rank r w in omega arith))
    (λ u. let low = place_span-rank r (least_equal r o) (greatest_equal r o) 4 u in omega arith))
    (λ t. omega arith)

offsets_lower : (m : OffsetSpan) → int_eq m.low m.high ≡ false → interval_rank (raise_offsets m) < rank_of false (is_all_inside m)
offsets_lower m two =
    ⊎_elim
    (λ (e : is_all_inside m ≡ true).
    let up : raise_offsets m ≡ Any = cond-true (is_all_inside m) Any (if is_inside m.region m.low && is_inside m.region m.high then interval_inside m.region else Any) e in
    let rank : rank_of false (is_all_inside m) ≡ 1 = rank-one false (is_all_inside m) refl e in
    let low = ap interval_rank up in omega arith)
    (λ (e : is_all_inside m ≡ false).
    let up : raise_offsets m ≡ (if is_inside m.region m.low && is_inside m.region m.high then interval_inside m.region else Any) = cond-false (is_all_inside m) Any (if is_inside m.region m.low && is_inside m.region m.high then interval_inside m.region else Any) e in
    let rank : rank_of false (is_all_inside m) ≡ 2 = cond-false (is_all_inside m) 1 2 e in
    let low : interval_rank (if is_inside m.region m.low && is_inside m.region m.high then interval_inside m.region else Any) ≤ 1 =
    cond_both (is_inside m.region m.low && is_inside m.region m.high) (interval_inside m.region) Any (λ v. interval_rank v ≤ 1)
    (λ t.
    let (a, b) = and_parts (is_inside m.region m.low) (is_inside m.region m.high) t in
    let (room, from, to) = inside-tells m.region m.low a in
    let (also, under, over) = inside-tells m.region m.high b in
    inside_rank m.region (inside_two m two from over))
    (λ t. omega arith) in
    let is = ap interval_rank up in omega arith)
    (cases_Bool (is_all_inside m))

pub lower : (v : Interval) → 0 < interval_rank v → interval_rank (interval_raise v) < interval_rank v
lower (Numbers m) h =
    ⊎_elim
    (λ (e : (m.low == m.high) ≡ true).
    let up : interval_raise (Numbers m) ≡ raise_number m.low = cond-true (m.low == m.high) (raise_number m.low) (raise_numbers m) e in
    let rank : interval_rank (Numbers m) ≡ 3 = cond-true (m.low == m.high) 3 (if is_all_low m then 1 else 2) e in
    let low = number_lower m.low in let is = ap interval_rank up in omega arith)
    (λ (e : (m.low == m.high) ≡ false).
    let up : interval_raise (Numbers m) ≡ raise_numbers m = cond-false (m.low == m.high) (raise_number m.low) (raise_numbers m) e in
    let rank : interval_rank (Numbers m) ≡ rank_of false (is_all_low m) = cond-false (m.low == m.high) 3 (if is_all_low m then 1 else 2) e in
    let low = numbers_lower m in let is = ap interval_rank up in omega arith)
    (cases_Bool (m.low == m.high))
lower (Offsets m) h =
    ⊎_elim
    (λ (e : int_eq m.low m.high ≡ true).
    let up : interval_raise (Offsets m) ≡ raise_offset m.region m.low = cond-true (int_eq m.low m.high) (raise_offset m.region m.low) (raise_offsets m) e in
    let rank : interval_rank (Offsets m) ≡ 3 = cond-true (int_eq m.low m.high) 3 (if is_all_inside m then 1 else 2) e in
    let low = offset_lower m.region m.low in let is = ap interval_rank up in omega arith)
    (λ (e : int_eq m.low m.high ≡ false).
    let up : interval_raise (Offsets m) ≡ raise_offsets m = cond-false (int_eq m.low m.high) (raise_offset m.region m.low) (raise_offsets m) e in
    let rank : interval_rank (Offsets m) ≡ rank_of false (is_all_inside m) = cond-false (int_eq m.low m.high) 3 (if is_all_inside m then 1 else 2) e in
    let low = offsets_lower m e in let is = ap interval_rank up in omega arith)
    (cases_Bool (int_eq m.low m.high))
lower Any h = h

pub zero_rank : (v : Interval) (p : Places) (x : ℕ) → interval_rank v ≡ 0 → interval_stands v p x
zero_rank (Numbers m) p x e = absurd (rank-positive (m.low == m.high) (is_all_low m) e)
zero_rank (Offsets m) p x e = absurd (rank-positive (int_eq m.low m.high) (is_all_inside m) e)
zero_rank Any p x e = tt

-- ---- names and numbers

-- a property of any, and of each span that raising makes
raise-has : (P : Interval → Type 0) → P Any → ((l h s : ℕ) → (l ≡ h → ⊥) → P (span l h s)) → (v : Interval) → ((m : OffsetSpan) (l h : ℤ) (s : ℕ) → v ≡ Offsets m → P (place_span m.region l h s)) → P (interval_raise v)
raise-has P any numbers (Numbers m) offsets =
    cond_both (m.low == m.high) (raise_number m.low) (raise_numbers m) P
    (λ t. cond_both (nat_lt m.low 65536) (span (m.low % 4) (m.low % 4 + 65532) 4) Any P (λ u. numbers (m.low % 4) (m.low % 4 + 65532) 4 (λ e. omega arith)) (λ u. any))
    (λ t. cond_both (is_all_low m) Any (if nat_le m.high 65535 then span 0 65535 1 else Any) P (λ u. any) (λ u. cond_both (nat_le m.high 65535) (span 0 65535 1) Any P (λ w. numbers 0 65535 1 (λ e. omega arith)) (λ w. any)))
raise-has P any numbers (Offsets m) offsets =
    let inside : P (interval_inside m.region) = cond_both (has_room m.region) (place_span m.region (low_of m.region) (high_of m.region -ℤ pos 4) 1) Any P (λ u. offsets m (low_of m.region) (high_of m.region -ℤ pos 4) 1 refl) (λ u. any) in
    cond_both (int_eq m.low m.high) (raise_offset m.region m.low) (raise_offsets m) P
    (λ t. cond_both (is_inside m.region m.low)
    (if int_eq (least_equal m.region m.low) (greatest_equal m.region m.low) then raise_to_inside m.region else place_span m.region (least_equal m.region m.low) (greatest_equal m.region m.low) 4) Any P
    (λ u. cond_both (int_eq (least_equal m.region m.low) (greatest_equal m.region m.low)) (raise_to_inside m.region) (place_span m.region (least_equal m.region m.low) (greatest_equal m.region m.low) 4) P
    (λ w. cond_both (int_eq (low_of m.region) (high_of m.region -ℤ pos 4)) Any (interval_inside m.region) P (λ x. any) (λ x. inside))
    (λ w. offsets m (least_equal m.region m.low) (greatest_equal m.region m.low) 4 refl))
    (λ u. any))
    (λ t. cond_both (is_all_inside m) Any (if is_inside m.region m.low && is_inside m.region m.high then interval_inside m.region else Any) P
    (λ u. any)
    (λ u. cond_both (is_inside m.region m.low && is_inside m.region m.high) (interval_inside m.region) Any P (λ w. inside) (λ w. any)))
raise-has P any numbers Any offsets = any

pub raise-named : (v : Interval) (s : Region) → named (interval_reach (interval_raise v)) ≡ Some s → named (interval_reach v) ≡ Some s
raise-named v s =
    raise-has (λ u. named (interval_reach u) ≡ Some s → named (interval_reach v) ≡ Some s)
    (λ e. absurd (cc))
    (λ l h k two e. let none = span-named l h k in absurd (cc))
    v
    (λ m l h k is e. ap (λ u. named (interval_reach u)) is ∙ place_span-named m.region l h k s e)

pub raise-number : (v : Interval) → interval_number_of (interval_raise v) ≡ None
raise-number v = raise-has (λ u. interval_number_of u ≡ None) refl (λ l h k two. span-none l h k two) v (λ m l h k is. place_span-none m.region l h k)
