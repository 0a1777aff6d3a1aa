-- What the rules of eval give stands for the operator's value.
use Rattle.std.proofs.Common.{◌≡◌, ℕ, suc, ◌+◌, ◌-◌, ◌*◌, ◌/◌, ◌%◌, ◌^◌, ◌<◌, ◌≤◌, min, ℤ, pos, negsuc, ◌+ℤ◌, ◌-ℤ◌, ◌≤ℤ◌, ◌<ℤ◌, refl, sym, ap, ◌∙◌, subst, arith, Bool, true, false, ◌&&◌, ◌||◌, ◌==◌, if◌then◌else◌, Option, Some, None, IfSome, unwrap_or, ◌⊎◌, inl, inr, ⊎_elim}
use Rattle.std.specs.Prelude.{nat_le, nat_lt, int_le, int_lt}
use Rattle.std.specs.Option.{option_or}
use Rattle.std.specs.Ordering.{int_eq}
use Rattle.std.proofs.lemmas.Int.{ints}
use Rattle.std.proofs.lemmas.Bool.{and_parts, or_cases, eqb-true, eq-eqb, ne_eqb, cond-true, cond-false, cond_both, leb-true, ltb-true, lt-ltb, le-ltb}
use Rattle.std.proofs.lemmas.Bool.Decides.{Decides-int_eq}
use Rattle.std.proofs.lemmas.Grind.{common_steps}
use Rattle.std.proofs.lemmas.Nat.{mul-le, and_le_r, le-div, pow_pos, shr_split}
use Rattle.bit_words.specs.declared.op.Op.{Op}
use Rattle.bit_words.specs.declared.op.Op.TheVariants.{Add, Sub, And, Shl, Shr, Eq, Ult, Low8, Low16}
use Rattle.bit_words.specs.declared.width.Width.{Width}
use Rattle.bit_words.specs.declared.width.Width.TheVariants.{B32}
use Rattle.bit_words.specs.Width.{bits_of, cut, word_of, signed_of, is_signed}
use Rattle.bit_words.specs.Operators.{apply_op, formula, one_if}
use Rattle.bit_words.proofs.Laws.{cut_fit, apply-Eq, apply-Ult, sub-same}
use Rattle.address_regions.specs.declared.region.Region.{Region}
use Rattle.address_regions.specs.declared.region.Region.TheVariants.{Stack}
use Rattle.address_regions.specs.Extents.{has_one_base, is_in_extent, low_of, high_of}
use Rattle.address_regions.specs.Places.{Places, HasBase, place_at, IsValid}
use Rattle.address_regions.specs.Same.{same_region}
use Rattle.address_regions.proofs.PlaceLaws.{place_at-lt, place_at-add}
use Rattle.address_regions.proofs.RegionLaws.{same_region-is, one_base, in_extent-tells, byte_allowed}
use Rattle.domain_laws.specs.RuleLaws.{Allows, and-comm}
use Rattle.bounded_values.specs.Rules.{offset_up, offset_down, unit_of, is_stack_mask, rounded_down, is_outside}
use Rattle.bounded_values.specs.NumberLaws.{add-place, add-comm, sub-place, mask-place, eq-apart, eq-comm}
use Rattle.interval_values.specs.declared.value.NumberSpan.{NumberSpan}
use Rattle.interval_values.specs.declared.value.OffsetSpan.{OffsetSpan}
use Rattle.interval_values.specs.declared.value.Interval.{Interval}
use Rattle.interval_values.specs.declared.value.Interval.TheVariants.{Numbers, Offsets, Any}
use Rattle.interval_values.specs.Divisors.{gcd}
use Rattle.interval_values.specs.Forms.{distance}
use Rattle.interval_values.specs.Spans.{span, interval_number, interval_place}
use Rattle.interval_values.specs.Stands.{IsNumberOf, IsOffsetOf, IsPlaceIn, interval_stands, interval_number_of}
use Rattle.interval_values.specs.Rules.{sums, differences, of_numbers, signed_bounds, are_one, spread_up, spread_down, moved_up, moved_down, of_offsets_and_numbers, offset_differences, equal_offsets, have_one_base, of_offsets, aligned_offset, outside_offsets, aligned, outside, of_offsets_and_number, equal_numbers, below_numbers, compared, shifted_left, shifted_right, shifted_by, shifted, masked_by, masked, low_part, low_bits, by_sums, by_bits, by_intervals}
use Rattle.interval_values.specs.SpanLaws.{number_span-tells, offset_span-tells, int_le-tells, distance-is}
use Rattle.interval_values.specs.MemberLaws.{span-holds, place_span-holds, allows}
use Rattle.interval_values.specs.StepLaws.{low-le, high-lt, offset-low_le, sum-steps, difference-steps, steps_together, from_high, offset_difference-steps}

-- ---- rules in order

-- a rule with a test
pub when : (P : Interval → Type 0) (t : Bool) (v : Interval) (o : Option Interval) → (t ≡ true → P v) → IfSome o P → IfSome (if t then Some v else o) P
when P true v o f g = f refl
when P false v o f g = g

pub after : (P : Interval → Type 0) (o q : Option Interval) → IfSome o P → IfSome q P → IfSome (option_or o q) P
after P (Some v) q f g = f
after P None q f g = g

or_any : (P : Interval → Type 0) (o : Option Interval) → IfSome o P → P Any → P (unwrap_or o Any)
or_any P (Some v) f g = f
or_any P None f g = g

-- what each rule gives, and any, have a property: so does what they give in order
pub in_order : (P : Interval → Type 0) (op : Op) (w : Width) (a b : Interval) (align : ℕ) → IfSome (of_numbers op w a b) P → IfSome (of_offsets_and_numbers op w a b) P → IfSome (of_offsets op w a b) P → IfSome (of_offsets_and_number op w a b align) P → IfSome (compared op a b) P → IfSome (shifted op w a b) P → IfSome (masked op a b) P → IfSome (low_bits op a) P → P Any → P (by_intervals op w a b align)
unfolding by_intervals by_sums by_bits
in_order P op w a b align f g h i j k l m n =
    or_any P (option_or (by_sums op w a b align) (by_bits op w a b))
    (after P (by_sums op w a b align) (by_bits op w a b)
    (after P (of_numbers op w a b) (option_or (of_offsets_and_numbers op w a b) (option_or (of_offsets op w a b) (of_offsets_and_number op w a b align))) f
    (after P (of_offsets_and_numbers op w a b) (option_or (of_offsets op w a b) (of_offsets_and_number op w a b align)) g
    (after P (of_offsets op w a b) (of_offsets_and_number op w a b align) h i)))
    (after P (compared op a b) (option_or (shifted op w a b) (option_or (masked op a b) (low_bits op a))) j
    (after P (shifted op w a b) (option_or (masked op a b) (low_bits op a)) k
    (after P (masked op a b) (low_bits op a) l m))))
    n

abbrev pub Stand : Places → ℕ → Interval → Type 0
Stand p z v = interval_stands v p z

number-holds : (p : Places) (k z : ℕ) → z ≡ k → Stand p z (interval_number k)
number-holds p k z e = span-holds p k k 0 0 z (omega arith) (omega arith)

-- ---- 2

add-is : (x y : ℕ) → x < 2 ^ 32 → y < 2 ^ 32 → apply_op Add B32 x y ≡ (x + y) % 2 ^ 32
unfolding apply_op formula
add-is x y f g = omega arith

sub-is : (x y : ℕ) → x < 2 ^ 32 → y < 2 ^ 32 → apply_op Sub B32 x y ≡ (x + (2 ^ 32 - y)) % 2 ^ 32
unfolding apply_op formula
sub-is x y f g = omega arith

sums-stand : (p : Places) (m n : NumberSpan) (x y : ℕ) → x < 2 ^ 32 → y < 2 ^ 32 → IsNumberOf m x → IsNumberOf n y → IfSome (sums m n) (Stand p (apply_op Add B32 x y))
sums-stand p m n x y f g h k =
    let (i, e) = sum-steps m n x y h k in
    let is = add-is x y f g in
    let a = h.to_high in
    let b = k.to_high in
    let c = low-le m x h in
    let d = low-le n y k in
    let j = high-lt m in
    let l = high-lt n in
    when (Stand p (apply_op Add B32 x y)) (nat_lt (m.high + n.high) (2 ^ 32) || nat_le (2 ^ 32) (m.low + n.low)) (span ((m.low + n.low) % 2 ^ 32) ((m.high + n.high) % 2 ^ 32) (gcd m.stride n.stride)) None
    (λ t. ⊎_elim
    (λ (u : nat_lt (m.high + n.high) (2 ^ 32) ≡ true). let most = ltb-true (m.high + n.high) (2 ^ 32) u in
    span-holds p ((m.low + n.low) % 2 ^ 32) ((m.high + n.high) % 2 ^ 32) (gcd m.stride n.stride) i (apply_op Add B32 x y) (omega arith) (omega arith))
    (λ (u : nat_le (2 ^ 32) (m.low + n.low) ≡ true). let least = leb-true (2 ^ 32) (m.low + n.low) u in
    span-holds p ((m.low + n.low) % 2 ^ 32) ((m.high + n.high) % 2 ^ 32) (gcd m.stride n.stride) i (apply_op Add B32 x y) (omega arith) (omega arith))
    (or_cases (nat_lt (m.high + n.high) (2 ^ 32)) (nat_le (2 ^ 32) (m.low + n.low)) t))
    tt

differences-stand : (p : Places) (m n : NumberSpan) (x y : ℕ) → x < 2 ^ 32 → y < 2 ^ 32 → IsNumberOf m x → IsNumberOf n y → IfSome (differences m n) (Stand p (apply_op Sub B32 x y))
differences-stand p m n x y f g h k =
    let (i, e) = difference-steps m n x y h k in
    let is = sub-is x y f g in
    let a = h.to_high in
    let b = k.to_high in
    let c = low-le m x h in
    let d = low-le n y k in
    let j = high-lt m in
    let l = high-lt n in
    when (Stand p (apply_op Sub B32 x y)) (nat_le n.high m.low || nat_lt m.high n.low) (span ((m.low + (2 ^ 32 - n.high)) % 2 ^ 32) ((m.high + (2 ^ 32 - n.low)) % 2 ^ 32) (gcd m.stride n.stride)) None
    (λ t. ⊎_elim
    (λ (u : nat_le n.high m.low ≡ true). let order = leb-true n.high m.low u in
    span-holds p ((m.low + (2 ^ 32 - n.high)) % 2 ^ 32) ((m.high + (2 ^ 32 - n.low)) % 2 ^ 32) (gcd m.stride n.stride) i (apply_op Sub B32 x y) (omega arith) (omega arith))
    (λ (u : nat_lt m.high n.low ≡ true). let order = ltb-true m.high n.low u in
    span-holds p ((m.low + (2 ^ 32 - n.high)) % 2 ^ 32) ((m.high + (2 ^ 32 - n.low)) % 2 ^ 32) (gcd m.stride n.stride) i (apply_op Sub B32 x y) (omega arith) (omega arith))
    (or_cases (nat_le n.high m.low) (nat_lt m.high n.low) t))
    tt

pub of_numbers-stand : (p : Places) (op : Op) (w : Width) (a b : Interval) (x y : ℕ) → x < 2 ^ bits_of w → y < 2 ^ bits_of w → interval_stands a p x → interval_stands b p y → IfSome (of_numbers op w a b) (Stand p (apply_op op w x y))
of_numbers-stand p Add B32 (Numbers m) (Numbers n) x y f g h k = sums-stand p m n x y f g h k
of_numbers-stand p Sub B32 (Numbers m) (Numbers n) x y f g h k = differences-stand p m n x y f g h k
of_numbers-stand p op w a b x y f g h k = tt

-- ---- 3

-- what is added to a number to make it a signed one
record IsShift (n : NumberSpan) (b : ℤ × ℤ) : Type 0 where
  shift : ℤ
  low : b.0 ≡ pos n.low +ℤ shift
  high : b.1 ≡ pos n.high +ℤ shift
  is : (shift ≡ pos 0) ⊎ (shift ≡ negsuc (2 ^ 32 - 1))

signed-low : (n : ℕ) → n < 2 ^ 31 → signed_of B32 n ≡ pos n
signed-low n h = cond-true (nat_lt (n % 2 ^ 32) (2 ^ 31)) (pos (n % 2 ^ 32)) (negsuc (2 ^ 32 - 1 - n % 2 ^ 32)) (lt-ltb (n % 2 ^ 32) (2 ^ 31) (omega arith)) ∙ ap pos (omega arith)

signed-high : (n : ℕ) → 2 ^ 31 ≤ n → n < 2 ^ 32 → signed_of B32 n ≡ negsuc (2 ^ 32 - 1 - n)
signed-high n h f = cond-false (nat_lt (n % 2 ^ 32) (2 ^ 31)) (pos (n % 2 ^ 32)) (negsuc (2 ^ 32 - 1 - n % 2 ^ 32)) (le-ltb (n % 2 ^ 32) (2 ^ 31) (omega arith)) ∙ ap negsuc (omega arith)

bounds_shift : (n : NumberSpan) → IfSome (signed_bounds n) (IsShift n)
bounds_shift n =
    let order = (number_span-tells n.low n.high n.stride n.formed).ordered in
    let fits = high-lt n in
    cond_both (nat_lt n.high (2 ^ 31) || nat_le (2 ^ 31) n.low) (Some (signed_of B32 n.low, signed_of B32 n.high)) None (λ o. IfSome o (IsShift n))
    (λ t. ⊎_elim
    (λ (u : nat_lt n.high (2 ^ 31) ≡ true).
    let below = ltb-true n.high (2 ^ 31) u in
    record { shift = pos 0; low = signed-low n.low (omega arith) ∙ omega (arith, ints); high = signed-low n.high below ∙ omega (arith, ints); is = inl refl })
    (λ (u : nat_le (2 ^ 31) n.low ≡ true).
    let above = leb-true (2 ^ 31) n.low u in
    record { shift = negsuc (2 ^ 32 - 1); low = signed-high n.low above (omega arith) ∙ omega (arith, ints); high = signed-high n.high (omega arith) fits ∙ omega (arith, ints); is = inr refl })
    (or_cases (nat_lt n.high (2 ^ 31)) (nat_le (2 ^ 31) n.low) t))
    (λ t. tt)

-- a place moved by a number, taken as signed, is the sum modulo 2 ^ 32
place-shift : (b y : ℕ) (o c : ℤ) → (c ≡ pos 0) ⊎ (c ≡ negsuc (2 ^ 32 - 1)) → place_at b (o +ℤ (pos y +ℤ c)) ≡ (place_at b o + y) % 2 ^ 32
place-shift b y o c s =
    ⊎_elim
    (λ (e : c ≡ pos 0). let f : o +ℤ (pos y +ℤ c) ≡ o +ℤ pos y = omega (arith, ints) in ap (place_at b) f ∙ place_at-add b y o)
    (λ (e : c ≡ negsuc (2 ^ 32 - 1)).
    let up = place_at-add b (2 ^ 32) (o +ℤ (pos y +ℤ c)) in
    let low = place_at-lt b (o +ℤ (pos y +ℤ c)) in
    let f : o +ℤ (pos y +ℤ c) +ℤ pos (2 ^ 32) ≡ o +ℤ pos y = omega (arith, ints) in
    let g = ap (place_at b) f ∙ place_at-add b y o in
    omega arith)
    s

spread_up-stand : (p : Places) (m : OffsetSpan) (n : NumberSpan) (b : Option (ℤ × ℤ)) (x y : ℕ) → y < 2 ^ 32 → IsPlaceIn m p x → IsNumberOf n y → IfSome b (IsShift n) → IfSome (spread_up m n b) (Stand p (apply_op Add B32 x y))
spread_up-stand p m n (Some (low, high)) x y g h k s =
    let (i, e) = steps_together m.stride n.stride h.of.steps k.steps in
    let a = s.low in
    let c = s.high in
    let d = h.of.is in
    let f = h.of.to_high in
    let j = k.is in
    let l = k.to_high in
    let at = place-shift h.base y h.offset s.shift s.is in
    let below = place_at-lt h.base h.offset in
    let place = h.is in
    let is = add-is x y (omega arith) g in
    let sum : h.offset +ℤ (pos y +ℤ s.shift) ≡ m.low +ℤ low +ℤ pos (h.of.steps * m.stride + k.steps * n.stride) = omega (arith, ints) in
    place_span-holds p m.region (m.low +ℤ low) (m.high +ℤ high) (gcd m.stride n.stride) i h.base (h.offset +ℤ (pos y +ℤ s.shift)) (apply_op Add B32 x y) h.has_base
    (sum ∙ ap (λ u. m.low +ℤ low +ℤ pos u) e)
    (omega (arith, ints))
    (is ∙ ap (λ u. (u + y) % 2 ^ 32) place ∙ sym at)
spread_up-stand p m n None x y g h k s = tt

spread_down-stand : (p : Places) (m : OffsetSpan) (n : NumberSpan) (b : Option (ℤ × ℤ)) (x y : ℕ) → y < 2 ^ 32 → IsPlaceIn m p x → IsNumberOf n y → IfSome b (IsShift n) → IfSome (spread_down m n b) (Stand p (apply_op Sub B32 x y))
spread_down-stand p m n (Some (low, high)) x y g h k s =
    let (j, f) = from_high n y k in
    let (i, e) = steps_together m.stride n.stride h.of.steps j in
    let a = s.low in
    let c = s.high in
    let d = h.of.is in
    let l = h.of.to_high in
    let r = low-le n y k in
    let at = place-shift h.base y (h.offset -ℤ (pos y +ℤ s.shift)) s.shift s.is in
    let back : h.offset -ℤ (pos y +ℤ s.shift) +ℤ (pos y +ℤ s.shift) ≡ h.offset = omega (arith, ints) in
    let whole = ap (place_at h.base) back in
    let below = place_at-lt h.base h.offset in
    let under = place_at-lt h.base (h.offset -ℤ (pos y +ℤ s.shift)) in
    let place = h.is in
    let is = sub-is x y (omega arith) g in
    let sum : h.offset -ℤ (pos y +ℤ s.shift) ≡ m.low -ℤ high +ℤ pos (h.of.steps * m.stride + j * n.stride) = omega (arith, ints) in
    place_span-holds p m.region (m.low -ℤ high) (m.high -ℤ low) (gcd m.stride n.stride) i h.base (h.offset -ℤ (pos y +ℤ s.shift)) (apply_op Sub B32 x y) h.has_base
    (sum ∙ ap (λ u. m.low -ℤ high +ℤ pos u) e)
    (omega (arith, ints))
    (omega arith)
spread_down-stand p m n None x y g h k s = tt

-- one offset and one number are these
record AreOne (m : OffsetSpan) (n : NumberSpan) (o : ℤ) (y : ℕ) : Type 0 where
  offset : o ≡ m.low
  number : y ≡ n.low

one-tells : (m : OffsetSpan) (n : NumberSpan) (o : ℤ) (y : ℕ) → are_one m n ≡ true → IsOffsetOf m o → IsNumberOf n y → AreOne m n o y
one-tells m n o y t h k =
    let (a, b) = and_parts (int_eq m.low m.high) (n.low == n.high) t in
    let c = (Decides-int_eq m.low m.high).0 a in
    let d = eqb-true n.low n.high b in
    let e = offset-low_le m o h in
    let f = h.to_high in
    let g = low-le n y k in
    let i = k.to_high in
    record { offset = omega (arith, ints); number = omega arith }

one_place-holds : (p : Places) (r : Region) (b : ℕ) (o : ℤ) (z : ℕ) → HasBase p r b → z ≡ place_at b o → Stand p z (interval_place r o)
one_place-holds p r b o z base at = place_span-holds p r o o 0 0 b o z base (omega (arith, ints)) (omega (arith, ints)) at

moved_up-stand : (p : Places) (m : OffsetSpan) (n : NumberSpan) (x y : ℕ) → y < 2 ^ 32 → IsPlaceIn m p x → IsNumberOf n y → IfSome (moved_up m n) (Stand p (apply_op Add B32 x y))
moved_up-stand p m n x y g h k =
    when (Stand p (apply_op Add B32 x y)) (are_one m n) (interval_place m.region (offset_up m.low n.low)) (spread_up m n (signed_bounds n))
    (λ t. let one = one-tells m n h.offset y t h.of k in
    one_place-holds p m.region h.base (offset_up m.low n.low) (apply_op Add B32 x y) h.has_base (add-place h.base n.low x y m.low (h.is ∙ ap (place_at h.base) one.offset) one.number))
    (spread_up-stand p m n (signed_bounds n) x y g h k (bounds_shift n))

moved_down-stand : (p : Places) (m : OffsetSpan) (n : NumberSpan) (x y : ℕ) → y < 2 ^ 32 → IsPlaceIn m p x → IsNumberOf n y → IfSome (moved_down m n) (Stand p (apply_op Sub B32 x y))
moved_down-stand p m n x y g h k =
    when (Stand p (apply_op Sub B32 x y)) (are_one m n) (interval_place m.region (offset_down m.low n.low)) (spread_down m n (signed_bounds n))
    (λ t. let one = one-tells m n h.offset y t h.of k in
    one_place-holds p m.region h.base (offset_down m.low n.low) (apply_op Sub B32 x y) h.has_base (sub-place h.base n.low x y m.low (h.is ∙ ap (place_at h.base) one.offset) one.number g))
    (spread_down-stand p m n (signed_bounds n) x y g h k (bounds_shift n))

pub of_offsets_and_numbers-stand : (p : Places) (op : Op) (w : Width) (a b : Interval) (x y : ℕ) → x < 2 ^ bits_of w → y < 2 ^ bits_of w → interval_stands a p x → interval_stands b p y → IfSome (of_offsets_and_numbers op w a b) (Stand p (apply_op op w x y))
of_offsets_and_numbers-stand p Add B32 (Offsets m) (Numbers n) x y f g h k = moved_up-stand p m n x y g h k
of_offsets_and_numbers-stand p Add B32 (Numbers n) (Offsets m) x y f g h k = subst (λ z. IfSome (moved_up m n) (Stand p z)) (add-comm y x) (moved_up-stand p m n y x f k h)
of_offsets_and_numbers-stand p Sub B32 (Offsets m) (Numbers n) x y f g h k = moved_down-stand p m n x y g h k
of_offsets_and_numbers-stand p op w a b x y f g h k = tt

-- ---- 4

-- the difference of two places from one base is that of their offsets
sub_by : (b : ℕ) (o q d : ℤ) → o ≡ q +ℤ d → apply_op Sub B32 (place_at b o) (place_at b q) ≡ word_of B32 d
sub_by b o q (pos n) e =
    let low = place_at-lt b o in
    let high = place_at-lt b q in
    let at = ap (place_at b) e ∙ place_at-add b n q in
    let is = sub-is (place_at b o) (place_at b q) low high in
    omega arith
sub_by b o q (negsuc n) e =
    let low = place_at-lt b o in
    let high = place_at-lt b q in
    let f : q ≡ o +ℤ pos (suc n) = omega (arith, ints) in
    let at = ap (place_at b) f ∙ place_at-add b (suc n) o in
    let is = sub-is (place_at b o) (place_at b q) low high in
    omega arith

sub_places : (b x y : ℕ) (o q : ℤ) → x ≡ place_at b o → y ≡ place_at b q → apply_op Sub B32 x y ≡ word_of B32 (o -ℤ q)
sub_places b x y o q e f = ap (λ u. apply_op Sub B32 u y) e ∙ ap (λ u. apply_op Sub B32 (place_at b o) u) f ∙ sub_by b o q (o -ℤ q) (omega (arith, ints))

-- two places of a region with one base are places from that base
from_one_base : (p : Places) (m n : OffsetSpan) (x y : ℕ) → have_one_base m n ≡ true → (h : IsPlaceIn m p x) (k : IsPlaceIn n p y) → y ≡ place_at h.base k.offset
from_one_base p m n x y e h k =
    let (e0, e1) = and_parts (same_region m.region n.region) (has_one_base m.region) e in
    let same = same_region-is m.region n.region e0 in
    let base : HasBase p m.region k.base = subst (λ t. HasBase p t k.base) (sym same) k.has_base in
    let one : k.base ≡ h.base = one_base p m.region k.base h.base e1 base h.has_base in
    k.is ∙ ap (λ b. place_at b k.offset) one

signed-range : (z : ℤ) → is_signed B32 z ≡ true → (negsuc (2 ^ 31 - 1) ≤ℤ z) × (z <ℤ pos (2 ^ 31))
signed-range (pos n) e = let f = ltb-true n (2 ^ 31) e in (omega (arith, ints), omega (arith, ints))
signed-range (negsuc n) e = let f = ltb-true n (2 ^ 31) e in (omega (arith, ints), omega (arith, ints))

-- offsets are signed numbers of 32 bits, so their difference is less than 2 ^ 32
record IsNear (m : OffsetSpan) (o : ℤ) : Type 0 where
  from : negsuc (2 ^ 31 - 1) ≤ℤ m.low
  to : m.high <ℤ pos (2 ^ 31)
  low : m.low ≤ℤ o
  high : o ≤ℤ m.high

near : (m : OffsetSpan) (o : ℤ) → IsOffsetOf m o → IsNear m o
near m o h =
    let t = offset_span-tells m.low m.high m.stride m.formed in
    let (a, b) = signed-range m.low t.low_fits in
    let (c, d) = signed-range m.high t.high_fits in
    record { from = a; to = d; low = offset-low_le m o h; high = h.to_high }

offset_differences-stand : (p : Places) (m n : OffsetSpan) (x y : ℕ) → have_one_base m n ≡ true → IsPlaceIn m p x → IsPlaceIn n p y → IfSome (offset_differences m n) (Stand p (apply_op Sub B32 x y))
offset_differences-stand p m n x y e h k =
    let at = sub_places h.base x y h.offset k.offset h.is (from_one_base p m n x y e h k) in
    let a = near m h.offset h.of in
    let b = near n k.offset k.of in
    when (Stand p (apply_op Sub B32 x y)) (int_eq m.low m.high && int_eq n.low n.high) (interval_number (word_of B32 (m.low -ℤ n.low))) (if int_le n.high m.low then Some (span (distance n.high m.low) (distance n.low m.high) (gcd m.stride n.stride)) else None)
    (λ t.
    let (f, g) = and_parts (int_eq m.low m.high) (int_eq n.low n.high) t in
    let i = (Decides-int_eq m.low m.high).0 f in
    let j = (Decides-int_eq n.low n.high).0 g in
    let same : h.offset -ℤ k.offset ≡ m.low -ℤ n.low = omega (arith, ints) in
    number-holds p (word_of B32 (m.low -ℤ n.low)) (apply_op Sub B32 x y) (at ∙ ap (word_of B32) same))
    (when (Stand p (apply_op Sub B32 x y)) (int_le n.high m.low) (span (distance n.high m.low) (distance n.low m.high) (gcd m.stride n.stride)) None
    (λ t.
    let order = int_le-tells n.high m.low t in
    let (i, f) = offset_difference-steps m n h.offset k.offset h.of k.of in
    let least = distance-is n.high m.low order in
    let greatest = distance-is n.low m.high (omega (arith, ints)) in
    let d : h.offset -ℤ k.offset ≡ pos (distance n.high m.low + i * gcd m.stride n.stride) = omega (arith, ints) in
    let most : distance n.high m.low + i * gcd m.stride n.stride ≤ distance n.low m.high = omega (arith, ints) in
    let small : distance n.low m.high < 2 ^ 32 = omega (arith, ints) in
    let is : apply_op Sub B32 x y ≡ distance n.high m.low + i * gcd m.stride n.stride = at ∙ ap (word_of B32) d ∙ omega arith in
    span-holds p (distance n.high m.low) (distance n.low m.high) (gcd m.stride n.stride) i (apply_op Sub B32 x y) is (omega arith))
    tt)

-- 1 for one number twice, and 0 for two
pub eq-one : (w : Width) (x y : ℕ) → x ≡ y → apply_op Eq w x y ≡ 1
eq-one w x y e = apply-Eq w x y ∙ ap one_if (eq-eqb (cut w x) (cut w y) (ap (cut w) e))

pub eq-zero : (w : Width) (x y : ℕ) → x < 2 ^ bits_of w → y < 2 ^ bits_of w → (x ≡ y → ⊥) → apply_op Eq w x y ≡ 0
eq-zero w x y f g h = apply-Eq w x y ∙ ap one_if (ne_eqb (cut w x) (cut w y) (λ e. h (sym (cut_fit w x f) ∙ e ∙ cut_fit w y g)))

word-zero : (d : ℤ) → d <ℤ pos (2 ^ 32) → negsuc (2 ^ 32 - 1) <ℤ d → word_of B32 d ≡ 0 → d ≡ pos 0
word-zero (pos n) f g e = ap pos (omega (arith, ints))
word-zero (negsuc n) f g e = absurd (omega (arith, ints))

int_lt-tells : (a b : ℤ) → int_lt a b ≡ true → a <ℤ b
int_lt-tells a b e = grind (arith, ints, common_steps)

apart-places : (b x y : ℕ) (o q : ℤ) → x ≡ place_at b o → y ≡ place_at b q → (o -ℤ q) <ℤ pos (2 ^ 32) → negsuc (2 ^ 32 - 1) <ℤ (o -ℤ q) → (o -ℤ q ≡ pos 0 → ⊥) → apply_op Eq B32 x y ≡ 0
apart-places b x y o q e f low high g =
    let i = place_at-lt b o in
    let j = place_at-lt b q in
    eq-zero B32 x y (omega arith) (omega arith)
    (λ s. g (word-zero (o -ℤ q) low high (sym (sub_places b x y o q e f) ∙ ap (apply_op Sub B32 x) (sym s) ∙ sub-same B32 x)))

equal_offsets-stand : (p : Places) (m n : OffsetSpan) (x y : ℕ) → have_one_base m n ≡ true → IsPlaceIn m p x → IsPlaceIn n p y → IfSome (equal_offsets m n) (Stand p (apply_op Eq B32 x y))
equal_offsets-stand p m n x y e h k =
    let from = from_one_base p m n x y e h k in
    let a = near m h.offset h.of in
    let b = near n k.offset k.of in
    when (Stand p (apply_op Eq B32 x y)) (int_eq m.low m.high && (int_eq n.low n.high && int_eq m.low n.low)) (interval_number 1) (if int_lt m.high n.low || int_lt n.high m.low then Some (interval_number 0) else None)
    (λ t.
    let (f, g) = and_parts (int_eq m.low m.high) (int_eq n.low n.high && int_eq m.low n.low) t in
    let (i, j) = and_parts (int_eq n.low n.high) (int_eq m.low n.low) g in
    let one = (Decides-int_eq m.low m.high).0 f in
    let also = (Decides-int_eq n.low n.high).0 i in
    let both = (Decides-int_eq m.low n.low).0 j in
    let same : h.offset ≡ k.offset = omega (arith, ints) in
    number-holds p 1 (apply_op Eq B32 x y) (eq-one B32 x y (h.is ∙ ap (place_at h.base) same ∙ sym from)))
    (when (Stand p (apply_op Eq B32 x y)) (int_lt m.high n.low || int_lt n.high m.low) (interval_number 0) None
    (λ t. number-holds p 0 (apply_op Eq B32 x y) (⊎_elim
    (λ (f : int_lt m.high n.low ≡ true). let g = int_lt-tells m.high n.low f in apart-places h.base x y h.offset k.offset h.is from (omega (arith, ints)) (omega (arith, ints)) (λ s. omega (arith, ints)))
    (λ (f : int_lt n.high m.low ≡ true). let g = int_lt-tells n.high m.low f in apart-places h.base x y h.offset k.offset h.is from (omega (arith, ints)) (omega (arith, ints)) (λ s. omega (arith, ints)))
    (or_cases (int_lt m.high n.low) (int_lt n.high m.low) t)))
    tt)

-- a rule with a test before
pub only_if : (P : Interval → Type 0) (t : Bool) (o : Option Interval) → (t ≡ true → IfSome o P) → IfSome (if t then o else None) P
only_if P true o f = f refl
only_if P false o f = tt

pub of_offsets-stand : (p : Places) (op : Op) (w : Width) (a b : Interval) (x y : ℕ) → interval_stands a p x → interval_stands b p y → IfSome (of_offsets op w a b) (Stand p (apply_op op w x y))
of_offsets-stand p Sub B32 (Offsets m) (Offsets n) x y h k = only_if (Stand p (apply_op Sub B32 x y)) (have_one_base m n) (offset_differences m n) (λ e. offset_differences-stand p m n x y e h k)
of_offsets-stand p Eq B32 (Offsets m) (Offsets n) x y h k = only_if (Stand p (apply_op Eq B32 x y)) (have_one_base m n) (equal_offsets m n) (λ e. equal_offsets-stand p m n x y e h k)
of_offsets-stand p op w a b x y h k = tt

-- ---- 5

aligned_offset-stand : (p : Places) (m : OffsetSpan) (o : Option ℕ) (x y : ℕ) → IsValid p → y < 2 ^ 32 → IsPlaceIn m p x → Allows o y → IfSome (aligned_offset m o p.align) (Stand p (apply_op And B32 x y))
aligned_offset-stand p m (Some n) x y v g h e =
    when (Stand p (apply_op And B32 x y)) (same_region m.region Stack && (int_eq m.low m.high && is_stack_mask n p.align)) (interval_place Stack (rounded_down m.low (unit_of n))) None
    (λ t.
    let (a, b) = and_parts (same_region m.region Stack) (int_eq m.low m.high && is_stack_mask n p.align) t in
    let (c, d) = and_parts (int_eq m.low m.high) (is_stack_mask n p.align) b in
    let one = (Decides-int_eq m.low m.high).0 c in
    let from = offset-low_le m h.offset h.of in
    let to = h.of.to_high in
    let is : h.offset ≡ m.low = omega (arith, ints) in
    let base : HasBase p Stack h.base = subst (λ r. HasBase p r h.base) (same_region-is m.region Stack a) h.has_base in
    let multiple : h.base % p.align ≡ 0 = ap (λ u. u % p.align) base ∙ v.aligned in
    let at = mask-place h.base n x y p.align m.low g v.alignment multiple d (h.is ∙ ap (place_at h.base) is) e in
    one_place-holds p Stack h.base (rounded_down m.low (unit_of n)) (apply_op And B32 x y) base at)
    tt
aligned_offset-stand p m None x y v g h e = tt

in_extent-from : (r : Region) (o : ℤ) → low_of r ≤ℤ o → o <ℤ high_of r → is_in_extent r o ≡ true
in_extent-from r o l h = grind (arith, ints, common_steps)

outside_offsets-stand : (p : Places) (m : OffsetSpan) (o : Option ℕ) (x y : ℕ) → IsValid p → y < 2 ^ 32 → IsPlaceIn m p x → Allows o y → IfSome (outside_offsets m o) (Stand p (apply_op Eq B32 x y))
outside_offsets-stand p m (Some n) x y v g h e =
    when (Stand p (apply_op Eq B32 x y)) (is_outside n && (is_in_extent m.region m.low && is_in_extent m.region m.high)) (interval_number 0) None
    (λ t.
    let (a, b) = and_parts (is_outside n) (is_in_extent m.region m.low && is_in_extent m.region m.high) t in
    let (c, d) = and_parts (is_in_extent m.region m.low) (is_in_extent m.region m.high) b in
    let (i, j) = in_extent-tells m.region m.low c in
    let (k, l) = in_extent-tells m.region m.high d in
    let from = offset-low_le m h.offset h.of in
    let to = h.of.to_high in
    let (low, high) = byte_allowed p m.region h.base h.offset v h.has_base (in_extent-from m.region h.offset (omega (arith, ints)) (omega (arith, ints))) in
    let place = h.is in
    number-holds p 0 (apply_op Eq B32 x y) (eq-apart n x y g a (omega arith) (omega arith) e))
    tt
outside_offsets-stand p m None x y v g h e = tt

aligned-stand : (p : Places) (a b : Interval) (x y : ℕ) → IsValid p → x < 2 ^ 32 → y < 2 ^ 32 → interval_stands a p x → interval_stands b p y → IfSome (aligned a b p.align) (Stand p (apply_op And B32 x y))
aligned-stand p (Offsets m) b x y v f g h k = aligned_offset-stand p m (interval_number_of b) x y v g h (allows b p y k)
aligned-stand p (Numbers n) (Offsets m) x y v f g h k =
    subst (λ z. IfSome (aligned_offset m (interval_number_of (Numbers n)) p.align) (Stand p z)) (and-comm B32 y x) (aligned_offset-stand p m (interval_number_of (Numbers n)) y x v f k (allows (Numbers n) p x h))
aligned-stand p a b x y v f g h k = tt

outside-stand : (p : Places) (a b : Interval) (x y : ℕ) → IsValid p → x < 2 ^ 32 → y < 2 ^ 32 → interval_stands a p x → interval_stands b p y → IfSome (outside a b) (Stand p (apply_op Eq B32 x y))
outside-stand p (Offsets m) b x y v f g h k = outside_offsets-stand p m (interval_number_of b) x y v g h (allows b p y k)
outside-stand p (Numbers n) (Offsets m) x y v f g h k =
    subst (λ z. IfSome (outside_offsets m (interval_number_of (Numbers n))) (Stand p z)) (eq-comm y x) (outside_offsets-stand p m (interval_number_of (Numbers n)) y x v f k (allows (Numbers n) p x h))
outside-stand p a b x y v f g h k = tt

pub of_offsets_and_number-stand : (p : Places) (op : Op) (w : Width) (a b : Interval) (x y : ℕ) → IsValid p → x < 2 ^ bits_of w → y < 2 ^ bits_of w → interval_stands a p x → interval_stands b p y → IfSome (of_offsets_and_number op w a b p.align) (Stand p (apply_op op w x y))
of_offsets_and_number-stand p And B32 a b x y v f g h k = aligned-stand p a b x y v f g h k
of_offsets_and_number-stand p Eq B32 a b x y v f g h k = outside-stand p a b x y v f g h k
of_offsets_and_number-stand p op w a b x y v f g h k = tt

-- ---- 6

equal_numbers-stand : (p : Places) (w : Width) (m n : NumberSpan) (x y : ℕ) → x < 2 ^ bits_of w → y < 2 ^ bits_of w → IsNumberOf m x → IsNumberOf n y → IfSome (equal_numbers m n) (Stand p (apply_op Eq w x y))
equal_numbers-stand p w m n x y f g h k =
    let a = h.to_high in
    let b = k.to_high in
    let c = low-le m x h in
    let d = low-le n y k in
    when (Stand p (apply_op Eq w x y)) (nat_lt m.high n.low || nat_lt n.high m.low) (interval_number 0) None
    (λ t. number-holds p 0 (apply_op Eq w x y) (eq-zero w x y f g (λ e. ⊎_elim
    (λ (i : nat_lt m.high n.low ≡ true). let j = ltb-true m.high n.low i in omega arith)
    (λ (i : nat_lt n.high m.low ≡ true). let j = ltb-true n.high m.low i in omega arith)
    (or_cases (nat_lt m.high n.low) (nat_lt n.high m.low) t))))
    tt

pub ult-one : (w : Width) (x y : ℕ) → x < 2 ^ bits_of w → y < 2 ^ bits_of w → x < y → apply_op Ult w x y ≡ 1
ult-one w x y f g h = let a = cut_fit w x f in let b = cut_fit w y g in apply-Ult w x y ∙ ap one_if (lt-ltb (cut w x) (cut w y) (omega arith))

pub ult-zero : (w : Width) (x y : ℕ) → x < 2 ^ bits_of w → y < 2 ^ bits_of w → y ≤ x → apply_op Ult w x y ≡ 0
ult-zero w x y f g h = let a = cut_fit w x f in let b = cut_fit w y g in apply-Ult w x y ∙ ap one_if (le-ltb (cut w x) (cut w y) (omega arith))

below_numbers-stand : (p : Places) (w : Width) (m n : NumberSpan) (x y : ℕ) → x < 2 ^ bits_of w → y < 2 ^ bits_of w → IsNumberOf m x → IsNumberOf n y → IfSome (below_numbers m n) (Stand p (apply_op Ult w x y))
below_numbers-stand p w m n x y f g h k =
    let a = h.to_high in
    let b = k.to_high in
    let c = low-le m x h in
    let d = low-le n y k in
    when (Stand p (apply_op Ult w x y)) (nat_lt m.high n.low) (interval_number 1) (if nat_le n.high m.low then Some (interval_number 0) else None)
    (λ t. let i = ltb-true m.high n.low t in number-holds p 1 (apply_op Ult w x y) (ult-one w x y f g (omega arith)))
    (when (Stand p (apply_op Ult w x y)) (nat_le n.high m.low) (interval_number 0) None
    (λ t. let i = leb-true n.high m.low t in number-holds p 0 (apply_op Ult w x y) (ult-zero w x y f g (omega arith)))
    tt)

pub compared-stand : (p : Places) (op : Op) (w : Width) (a b : Interval) (x y : ℕ) → x < 2 ^ bits_of w → y < 2 ^ bits_of w → interval_stands a p x → interval_stands b p y → IfSome (compared op a b) (Stand p (apply_op op w x y))
compared-stand p Eq w (Numbers m) (Numbers n) x y f g h k = equal_numbers-stand p w m n x y f g h k
compared-stand p Ult w (Numbers m) (Numbers n) x y f g h k = below_numbers-stand p w m n x y f g h k
compared-stand p op w a b x y f g h k = tt

-- ---- 7

shl-is : (x c : ℕ) → x < 2 ^ 32 → c ≤ 31 → x * 2 ^ c < 2 ^ 32 → apply_op Shl B32 x c ≡ x * 2 ^ c
unfolding apply_op formula
shl-is x c f l g =
    let least : min c 32 ≡ c = omega arith in
    ap (λ u. cut B32 (u * 2 ^ min c 32)) (cut_fit B32 x f) ∙ ap (λ u. cut B32 (x * 2 ^ u)) least ∙ cut_fit B32 (x * 2 ^ c) g

shr-is : (x c : ℕ) → x < 2 ^ 32 → c ≤ 31 → apply_op Shr B32 x c ≡ x / 2 ^ c
unfolding apply_op formula
shr-is x c f l =
    let least : min c 32 ≡ c = omega arith in
    ap (λ u. u / 2 ^ min c 32) (cut_fit B32 x f) ∙ ap (λ u. x / 2 ^ u) least

shr-le : (x y c : ℕ) → x ≤ y → x / 2 ^ c ≤ y / 2 ^ c
shr-le x y c h = let e = shr_split x c in le-div (x / 2 ^ c) y (2 ^ c) (pow_pos c) (omega arith)

shifted_left-stand : (p : Places) (m : NumberSpan) (c x : ℕ) → x < 2 ^ 32 → IsNumberOf m x → IfSome (shifted_left m c) (Stand p (apply_op Shl B32 x c))
shifted_left-stand p m c x f h =
    when (Stand p (apply_op Shl B32 x c)) (nat_le 1 c && (nat_le c 31 && nat_lt (m.high * 2 ^ c) (2 ^ 32))) (span (m.low * 2 ^ c) (m.high * 2 ^ c) (m.stride * 2 ^ c)) None
    (λ t.
    let (e, g) = and_parts (nat_le 1 c) (nat_le c 31 && nat_lt (m.high * 2 ^ c) (2 ^ 32)) t in
    let (i, j) = and_parts (nat_le c 31) (nat_lt (m.high * 2 ^ c) (2 ^ 32)) g in
    let most = ltb-true (m.high * 2 ^ c) (2 ^ 32) j in
    let below = mul-le x (2 ^ c) m.high (2 ^ c) h.to_high (omega arith) in
    let is = shl-is x c f (leb-true c 31 i) (omega arith) in
    span-holds p (m.low * 2 ^ c) (m.high * 2 ^ c) (m.stride * 2 ^ c) h.steps (apply_op Shl B32 x c) (is ∙ ap (λ u. u * 2 ^ c) h.is ∙ omega arith) (omega arith))
    tt

shifted_right-stand : (p : Places) (m : NumberSpan) (c x : ℕ) → x < 2 ^ 32 → IsNumberOf m x → IfSome (shifted_right m c) (Stand p (apply_op Shr B32 x c))
shifted_right-stand p m c x f h =
    when (Stand p (apply_op Shr B32 x c)) (nat_le c 31) (span (m.low / 2 ^ c) (m.high / 2 ^ c) 1) None
    (λ t.
    let is = shr-is x c f (leb-true c 31 t) in
    let low = shr-le m.low x c (low-le m x h) in
    let high = shr-le x m.high c h.to_high in
    span-holds p (m.low / 2 ^ c) (m.high / 2 ^ c) 1 (x / 2 ^ c - m.low / 2 ^ c) (apply_op Shr B32 x c) (omega arith) (omega arith))
    tt

shifted_by-stand : (p : Places) (op : Op) (m : NumberSpan) (o : Option ℕ) (x y : ℕ) → x < 2 ^ 32 → IsNumberOf m x → Allows o y → IfSome (shifted_by op m o) (Stand p (apply_op op B32 x y))
shifted_by-stand p Shl m (Some c) x y f h e = subst (λ u. IfSome (shifted_left m c) (Stand p (apply_op Shl B32 x u))) (sym e) (shifted_left-stand p m c x f h)
shifted_by-stand p Shr m (Some c) x y f h e = subst (λ u. IfSome (shifted_right m c) (Stand p (apply_op Shr B32 x u))) (sym e) (shifted_right-stand p m c x f h)
shifted_by-stand p op m o x y f h e = tt

pub shifted-stand : (p : Places) (op : Op) (w : Width) (a b : Interval) (x y : ℕ) → x < 2 ^ bits_of w → interval_stands a p x → interval_stands b p y → IfSome (shifted op w a b) (Stand p (apply_op op w x y))
shifted-stand p op B32 (Numbers m) b x y f h k = shifted_by-stand p op m (interval_number_of b) x y f h (allows b p y k)
shifted-stand p op w a b x y f h k = tt

-- ---- 8

and-below : (w : Width) (x y : ℕ) → y < 2 ^ bits_of w → apply_op And w x y ≤ y
unfolding apply_op formula
and-below w x y g = let e = cut_fit w y g in let l = and_le_r (cut w x) (cut w y) in omega arith

masked_by-stand : (p : Places) (o : Option ℕ) (y z : ℕ) → Allows o y → z ≤ y → IfSome (masked_by o) (Stand p z)
masked_by-stand p (Some n) y z e l = when (Stand p z) (nat_le 1 n && nat_le n 65535) (span 0 n 1) None (λ t. span-holds p 0 n 1 z z (omega arith) (omega arith)) tt
masked_by-stand p None y z e l = tt

pub masked-stand : (p : Places) (op : Op) (w : Width) (a b : Interval) (x y : ℕ) → x < 2 ^ bits_of w → y < 2 ^ bits_of w → interval_stands a p x → interval_stands b p y → IfSome (masked op a b) (Stand p (apply_op op w x y))
masked-stand p And w a b x y f g h k =
    let turned : apply_op And w x y ≤ x = subst (λ u. u ≤ x) (and-comm w y x) (and-below w y x f) in
    after (Stand p (apply_op And w x y)) (masked_by (interval_number_of a)) (masked_by (interval_number_of b))
    (masked_by-stand p (interval_number_of a) x (apply_op And w x y) (allows a p x h) turned)
    (masked_by-stand p (interval_number_of b) y (apply_op And w x y) (allows b p y k) (and-below w x y g))
masked-stand p op w a b x y f g h k = tt

-- ---- 9

low_part-stand : (p : Places) (limit : ℕ) (a : Interval) (x z : ℕ) → z ≤ limit → (x ≤ limit → z ≡ x) → interval_stands a p x → Stand p z (low_part limit a)
low_part-stand p limit (Numbers m) x z l e h =
    cond_both (nat_le m.high limit) (Numbers m) (span 0 limit 1) (Stand p z)
    (λ t. let high = leb-true m.high limit t in let below = h.to_high in subst (λ u. IsNumberOf m u) (sym (e (omega arith))) h)
    (λ t. span-holds p 0 limit 1 z z (omega arith) l)
low_part-stand p limit (Offsets m) x z l e h = span-holds p 0 limit 1 z z (omega arith) l
low_part-stand p limit Any x z l e h = span-holds p 0 limit 1 z z (omega arith) l

low8-is : (w : Width) (x y : ℕ) → x < 2 ^ bits_of w → apply_op Low8 w x y ≡ x % 2 ^ 8
unfolding apply_op formula
low8-is w x y f = ap (λ u. u % 2 ^ 8) (cut_fit w x f)

low16-is : (w : Width) (x y : ℕ) → x < 2 ^ bits_of w → apply_op Low16 w x y ≡ x % 2 ^ 16
unfolding apply_op formula
low16-is w x y f = ap (λ u. u % 2 ^ 16) (cut_fit w x f)

pub low_bits-stand : (p : Places) (op : Op) (w : Width) (a : Interval) (x y : ℕ) → x < 2 ^ bits_of w → interval_stands a p x → IfSome (low_bits op a) (Stand p (apply_op op w x y))
low_bits-stand p Low8 w a x y f h = let is = low8-is w x y f in low_part-stand p 255 a x (apply_op Low8 w x y) (omega arith) (λ l. omega arith) h
low_bits-stand p Low16 w a x y f h = let is = low16-is w x y f in low_part-stand p 65535 a x (apply_op Low16 w x y) (omega arith) (λ l. omega arith) h
low_bits-stand p op w a x y f h = tt

-- ---- all of them

pub by_intervals-stands : (p : Places) (op : Op) (w : Width) (a b : Interval) (x y : ℕ) → IsValid p → x < 2 ^ bits_of w → y < 2 ^ bits_of w → interval_stands a p x → interval_stands b p y → interval_stands (by_intervals op w a b p.align) p (apply_op op w x y)
by_intervals-stands p op w a b x y v f g h k =
    in_order (Stand p (apply_op op w x y)) op w a b p.align
    (of_numbers-stand p op w a b x y f g h k)
    (of_offsets_and_numbers-stand p op w a b x y f g h k)
    (of_offsets-stand p op w a b x y h k)
    (of_offsets_and_number-stand p op w a b x y v f g h k)
    (compared-stand p op w a b x y f g h k)
    (shifted-stand p op w a b x y f h k)
    (masked-stand p op w a b x y f g h k)
    (low_bits-stand p op w a x y f h)
    tt
