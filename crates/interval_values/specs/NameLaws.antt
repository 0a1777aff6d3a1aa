-- What the rules of eval give names no further block region, and a number that it tells is one of the operator.
use Rattle.std.proofs.Common.{◌≡◌, ℕ, ◌+◌, ◌-◌, ◌*◌, ◌/◌, ◌%◌, ◌^◌, ◌<◌, ℤ, ◌+ℤ◌, ◌-ℤ◌, refl, sym, subst, arith, ◌&&◌, ◌||◌, if◌then◌else◌, Option, Some, None, IfSome, ◌⊎◌, inl, inr}
use Rattle.std.specs.Prelude.{nat_le, nat_lt, int_le, int_lt}
use Rattle.std.specs.Ordering.{int_eq}
use Rattle.std.proofs.lemmas.Bool.{and_parts, cond_both, leb-true}
use Rattle.std.proofs.lemmas.Nat.{pow_pos}
use Rattle.bit_words.specs.declared.op.Op.{Op}
use Rattle.bit_words.specs.declared.op.Op.TheVariants.{Add, Sub, And, Shl, Shr, Eq, Ult, Low8, Low16}
use Rattle.bit_words.specs.declared.width.Width.{Width}
use Rattle.bit_words.specs.declared.width.Width.TheVariants.{B8, B16, B32}
use Rattle.bit_words.specs.Width.{bits_of, word_of}
use Rattle.bit_words.specs.Operators.{apply_op, formula}
use Rattle.bit_words.proofs.Laws.{modulo-lt}
use Rattle.address_regions.specs.declared.region.Region.{Region}
use Rattle.address_regions.specs.declared.region.Region.TheVariants.{Stack}
use Rattle.address_regions.specs.Extents.{is_in_extent, block_of}
use Rattle.address_regions.specs.Same.{same_region}
use Rattle.domain_laws.specs.Laws.{IsValueOf}
use Rattle.domain_laws.specs.Reached.{named}
use Rattle.domain_laws.specs.Rules.{settled}
use Rattle.domain_laws.specs.ResultLaws.{apply-is_value}
use Rattle.bounded_values.specs.Rules.{offset_up, offset_down, unit_of, is_stack_mask, rounded_down, is_outside}
use Rattle.interval_values.specs.declared.value.NumberSpan.{NumberSpan}
use Rattle.interval_values.specs.declared.value.OffsetSpan.{OffsetSpan}
use Rattle.interval_values.specs.declared.value.Interval.{Interval}
use Rattle.interval_values.specs.declared.value.Interval.TheVariants.{Numbers, Offsets, Any}
use Rattle.interval_values.specs.Divisors.{gcd}
use Rattle.interval_values.specs.Forms.{distance}
use Rattle.interval_values.specs.Spans.{span, place_span, interval_number, interval_place}
use Rattle.interval_values.specs.Stands.{interval_number_of, interval_reach}
use Rattle.interval_values.specs.Rules.{of_numbers, signed_bounds, are_one, spread_up, spread_down, moved_up, moved_down, of_offsets_and_numbers, offset_differences, equal_offsets, have_one_base, of_offsets, aligned_offset, outside_offsets, aligned, outside, of_offsets_and_number, compared, shifted_by, shifted, masked_by, masked, low_part, low_bits, by_intervals}
use Rattle.interval_values.specs.SpanLaws.{span-cases}
use Rattle.interval_values.specs.MemberLaws.{span-number, place_span-none, span-named, place_span-named, number_of-tells}
use Rattle.interval_values.specs.StepLaws.{high-lt}
use Rattle.interval_values.specs.RuleLaws.{when, after, only_if, in_order, eq-zero, eq-one, ult-zero, ult-one}

-- a value names no block region but one of the operands', and a number that it tells, where the shared rules tell nothing, is one of the operator
abbrev pub Good : Op → Width → Interval → Interval → Region → ℕ → Interval → Type 0
Good op w a b s n v = (named (interval_reach v) ≡ Some s → (named (interval_reach a) ≡ Some s) ⊎ (named (interval_reach b) ≡ Some s)) × (interval_number_of v ≡ Some n → settled op w (interval_number_of a) (interval_number_of b) ≡ None → IsValueOf op w n)

-- ---- spans

span-fits : (l h k n : ℕ) → interval_number_of (span l h k) ≡ Some n → n < 2 ^ 32
span-fits l h k n =
    span-cases (λ v. interval_number_of v ≡ Some n → n < 2 ^ 32) l h k
    (λ m i j q e. let (one, is) = number_of-tells m n e in let f = high-lt m in omega arith)
    (λ g e. absurd (cc))

module _ (op : Op) (w : Width) (a b : Interval) (s : Region) (n : ℕ) where
  any-good : Good op w a b s n Any
  any-good = ((λ e. absurd (cc)), (λ e g. absurd (cc)))

  span-quiet : (l h k : ℕ) → named (interval_reach (span l h k)) ≡ Some s → (named (interval_reach a) ≡ Some s) ⊎ (named (interval_reach b) ≡ Some s)
  span-quiet l h k e = let f = span-named l h k in absurd (cc)

  -- where every number is one of the operator
  span-good : (l h k : ℕ) → ((i : ℕ) → i < 2 ^ 32 → IsValueOf op w i) → Good op w a b s n (span l h k)
  span-good l h k f = (span-quiet l h k, (λ e g. f n (span-fits l h k n e)))

  -- where there are two
  wide-good : (l h k : ℕ) → (l ≡ h → ⊥) → Good op w a b s n (span l h k)
  wide-good l h k f = (span-quiet l h k, (λ e g. let (one, is) = span-number l h k n e in absurd (f one)))

  number-good : (k : ℕ) → IsValueOf op w k → Good op w a b s n (interval_number k)
  number-good k f = (span-quiet k k 0, (λ e g. let (one, is) = span-number k k 0 n e in subst (λ i. IsValueOf op w i) (sym is) f))

  -- of a region of an operand's
  place-good : (r : Region) (l h : ℤ) (k : ℕ) → (block_of r ≡ Some s → (named (interval_reach a) ≡ Some s) ⊎ (named (interval_reach b) ≡ Some s)) → Good op w a b s n (place_span r l h k)
  place-good r l h k f = ((λ e. f (place_span-named r l h k s e)), (λ e i. let g = place_span-none r l h k in absurd (cc)))

-- ---- numbers of the operators

add-any : (n : ℕ) → n < 2 ^ 32 → IsValueOf Add B32 n
unfolding apply_op formula
add-any n f = record { first = n; second = 0; first_fits = f; second_fits = omega arith; is = omega arith }

sub-any : (n : ℕ) → n < 2 ^ 32 → IsValueOf Sub B32 n
unfolding apply_op formula
sub-any n f = record { first = n; second = 0; first_fits = f; second_fits = omega arith; is = omega arith }

shl-any : (n : ℕ) → n < 2 ^ 32 → IsValueOf Shl B32 n
unfolding apply_op formula
shl-any n f = record { first = n; second = 0; first_fits = f; second_fits = omega arith; is = omega arith }

shr-any : (n : ℕ) → n < 2 ^ 32 → IsValueOf Shr B32 n
unfolding apply_op formula
shr-any n f = record { first = n; second = 0; first_fits = f; second_fits = omega arith; is = omega arith }

one-fits : (w : Width) → 1 < 2 ^ bits_of w
one-fits B8 = omega arith
one-fits B16 = omega arith
one-fits B32 = omega arith

eq-zero_value : (w : Width) → IsValueOf Eq w 0
eq-zero_value w = subst (λ n. IsValueOf Eq w n) (eq-zero w 0 1 (pow_pos (bits_of w)) (one-fits w) (λ e. omega arith)) (apply-is_value Eq w 0 1)

eq-one_value : (w : Width) → IsValueOf Eq w 1
eq-one_value w = subst (λ n. IsValueOf Eq w n) (eq-one w 0 0 refl) (apply-is_value Eq w 0 0)

ult-zero_value : (w : Width) → IsValueOf Ult w 0
ult-zero_value w = subst (λ n. IsValueOf Ult w n) (ult-zero w 0 0 (pow_pos (bits_of w)) (pow_pos (bits_of w)) (omega arith)) (apply-is_value Ult w 0 0)

ult-one_value : (w : Width) → IsValueOf Ult w 1
ult-one_value w = subst (λ n. IsValueOf Ult w n) (ult-one w 0 1 (pow_pos (bits_of w)) (one-fits w) (omega arith)) (apply-is_value Ult w 0 1)

word-fits : (z : ℤ) → word_of B32 z < 2 ^ 32
word-fits z = modulo-lt z 32

-- ---- 2

of_numbers-good : (op : Op) (w : Width) (a b : Interval) (s : Region) (n : ℕ) → IfSome (of_numbers op w a b) (Good op w a b s n)
of_numbers-good Add B32 (Numbers m) (Numbers k) s n =
    when (Good Add B32 (Numbers m) (Numbers k) s n) (nat_lt (m.high + k.high) (2 ^ 32) || nat_le (2 ^ 32) (m.low + k.low)) (span ((m.low + k.low) % 2 ^ 32) ((m.high + k.high) % 2 ^ 32) (gcd m.stride k.stride)) None
    (λ t. span-good Add B32 (Numbers m) (Numbers k) s n ((m.low + k.low) % 2 ^ 32) ((m.high + k.high) % 2 ^ 32) (gcd m.stride k.stride) add-any) tt
of_numbers-good Sub B32 (Numbers m) (Numbers k) s n =
    when (Good Sub B32 (Numbers m) (Numbers k) s n) (nat_le k.high m.low || nat_lt m.high k.low) (span ((m.low + (2 ^ 32 - k.high)) % 2 ^ 32) ((m.high + (2 ^ 32 - k.low)) % 2 ^ 32) (gcd m.stride k.stride)) None
    (λ t. span-good Sub B32 (Numbers m) (Numbers k) s n ((m.low + (2 ^ 32 - k.high)) % 2 ^ 32) ((m.high + (2 ^ 32 - k.low)) % 2 ^ 32) (gcd m.stride k.stride) sub-any) tt
of_numbers-good op w a b s n = tt

-- ---- 3

spread_up-good : (op : Op) (w : Width) (a b : Interval) (s : Region) (n : ℕ) (m : OffsetSpan) (k : NumberSpan) (o : Option (ℤ × ℤ)) → (block_of m.region ≡ Some s → (named (interval_reach a) ≡ Some s) ⊎ (named (interval_reach b) ≡ Some s)) → IfSome (spread_up m k o) (Good op w a b s n)
spread_up-good op w a b s n m k (Some (low, high)) f = place-good op w a b s n m.region (m.low +ℤ low) (m.high +ℤ high) (gcd m.stride k.stride) f
spread_up-good op w a b s n m k None f = tt

spread_down-good : (op : Op) (w : Width) (a b : Interval) (s : Region) (n : ℕ) (m : OffsetSpan) (k : NumberSpan) (o : Option (ℤ × ℤ)) → (block_of m.region ≡ Some s → (named (interval_reach a) ≡ Some s) ⊎ (named (interval_reach b) ≡ Some s)) → IfSome (spread_down m k o) (Good op w a b s n)
spread_down-good op w a b s n m k (Some (low, high)) f = place-good op w a b s n m.region (m.low -ℤ high) (m.high -ℤ low) (gcd m.stride k.stride) f
spread_down-good op w a b s n m k None f = tt

moved_up-good : (op : Op) (w : Width) (a b : Interval) (s : Region) (n : ℕ) (m : OffsetSpan) (k : NumberSpan) → (block_of m.region ≡ Some s → (named (interval_reach a) ≡ Some s) ⊎ (named (interval_reach b) ≡ Some s)) → IfSome (moved_up m k) (Good op w a b s n)
moved_up-good op w a b s n m k f =
    when (Good op w a b s n) (are_one m k) (interval_place m.region (offset_up m.low k.low)) (spread_up m k (signed_bounds k))
    (λ t. place-good op w a b s n m.region (offset_up m.low k.low) (offset_up m.low k.low) 0 f)
    (spread_up-good op w a b s n m k (signed_bounds k) f)

moved_down-good : (op : Op) (w : Width) (a b : Interval) (s : Region) (n : ℕ) (m : OffsetSpan) (k : NumberSpan) → (block_of m.region ≡ Some s → (named (interval_reach a) ≡ Some s) ⊎ (named (interval_reach b) ≡ Some s)) → IfSome (moved_down m k) (Good op w a b s n)
moved_down-good op w a b s n m k f =
    when (Good op w a b s n) (are_one m k) (interval_place m.region (offset_down m.low k.low)) (spread_down m k (signed_bounds k))
    (λ t. place-good op w a b s n m.region (offset_down m.low k.low) (offset_down m.low k.low) 0 f)
    (spread_down-good op w a b s n m k (signed_bounds k) f)

of_offsets_and_numbers-good : (op : Op) (w : Width) (a b : Interval) (s : Region) (n : ℕ) → IfSome (of_offsets_and_numbers op w a b) (Good op w a b s n)
of_offsets_and_numbers-good Add B32 (Offsets m) (Numbers k) s n = moved_up-good Add B32 (Offsets m) (Numbers k) s n m k (λ e. inl e)
of_offsets_and_numbers-good Add B32 (Numbers k) (Offsets m) s n = moved_up-good Add B32 (Numbers k) (Offsets m) s n m k (λ e. inr e)
of_offsets_and_numbers-good Sub B32 (Offsets m) (Numbers k) s n = moved_down-good Sub B32 (Offsets m) (Numbers k) s n m k (λ e. inl e)
of_offsets_and_numbers-good op w a b s n = tt

-- ---- 4

offset_differences-good : (a b : Interval) (s : Region) (n : ℕ) (m k : OffsetSpan) → IfSome (offset_differences m k) (Good Sub B32 a b s n)
offset_differences-good a b s n m k =
    when (Good Sub B32 a b s n) (int_eq m.low m.high && int_eq k.low k.high) (interval_number (word_of B32 (m.low -ℤ k.low))) (if int_le k.high m.low then Some (span (distance k.high m.low) (distance k.low m.high) (gcd m.stride k.stride)) else None)
    (λ t. number-good Sub B32 a b s n (word_of B32 (m.low -ℤ k.low)) (sub-any (word_of B32 (m.low -ℤ k.low)) (word-fits (m.low -ℤ k.low))))
    (when (Good Sub B32 a b s n) (int_le k.high m.low) (span (distance k.high m.low) (distance k.low m.high) (gcd m.stride k.stride)) None
    (λ t. span-good Sub B32 a b s n (distance k.high m.low) (distance k.low m.high) (gcd m.stride k.stride) sub-any) tt)

equal_offsets-good : (a b : Interval) (s : Region) (n : ℕ) (m k : OffsetSpan) → IfSome (equal_offsets m k) (Good Eq B32 a b s n)
equal_offsets-good a b s n m k =
    when (Good Eq B32 a b s n) (int_eq m.low m.high && (int_eq k.low k.high && int_eq m.low k.low)) (interval_number 1) (if int_lt m.high k.low || int_lt k.high m.low then Some (interval_number 0) else None)
    (λ t. number-good Eq B32 a b s n 1 (eq-one_value B32))
    (when (Good Eq B32 a b s n) (int_lt m.high k.low || int_lt k.high m.low) (interval_number 0) None (λ t. number-good Eq B32 a b s n 0 (eq-zero_value B32)) tt)

of_offsets-good : (op : Op) (w : Width) (a b : Interval) (s : Region) (n : ℕ) → IfSome (of_offsets op w a b) (Good op w a b s n)
of_offsets-good Sub B32 (Offsets m) (Offsets k) s n = only_if (Good Sub B32 (Offsets m) (Offsets k) s n) (have_one_base m k) (offset_differences m k) (λ e. offset_differences-good (Offsets m) (Offsets k) s n m k)
of_offsets-good Eq B32 (Offsets m) (Offsets k) s n = only_if (Good Eq B32 (Offsets m) (Offsets k) s n) (have_one_base m k) (equal_offsets m k) (λ e. equal_offsets-good (Offsets m) (Offsets k) s n m k)
of_offsets-good op w a b s n = tt

-- ---- 5

aligned_offset-good : (op : Op) (w : Width) (a b : Interval) (s : Region) (n : ℕ) (m : OffsetSpan) (o : Option ℕ) (align : ℕ) → IfSome (aligned_offset m o align) (Good op w a b s n)
aligned_offset-good op w a b s n m (Some k) align =
    when (Good op w a b s n) (same_region m.region Stack && (int_eq m.low m.high && is_stack_mask k align)) (interval_place Stack (rounded_down m.low (unit_of k))) None
    (λ t. place-good op w a b s n Stack (rounded_down m.low (unit_of k)) (rounded_down m.low (unit_of k)) 0 (λ e. absurd (cc))) tt
aligned_offset-good op w a b s n m None align = tt

outside_offsets-good : (a b : Interval) (s : Region) (n : ℕ) (m : OffsetSpan) (o : Option ℕ) → IfSome (outside_offsets m o) (Good Eq B32 a b s n)
outside_offsets-good a b s n m (Some k) =
    when (Good Eq B32 a b s n) (is_outside k && (is_in_extent m.region m.low && is_in_extent m.region m.high)) (interval_number 0) None
    (λ t. number-good Eq B32 a b s n 0 (eq-zero_value B32)) tt
outside_offsets-good a b s n m None = tt

aligned-good : (a b : Interval) (align : ℕ) (s : Region) (n : ℕ) → IfSome (aligned a b align) (Good And B32 a b s n)
aligned-good (Offsets m) b align s n = aligned_offset-good And B32 (Offsets m) b s n m (interval_number_of b) align
aligned-good (Numbers k) (Offsets m) align s n = aligned_offset-good And B32 (Numbers k) (Offsets m) s n m (interval_number_of (Numbers k)) align
aligned-good a b align s n = tt

outside-good : (a b : Interval) (s : Region) (n : ℕ) → IfSome (outside a b) (Good Eq B32 a b s n)
outside-good (Offsets m) b s n = outside_offsets-good (Offsets m) b s n m (interval_number_of b)
outside-good (Numbers k) (Offsets m) s n = outside_offsets-good (Numbers k) (Offsets m) s n m (interval_number_of (Numbers k))
outside-good a b s n = tt

of_offsets_and_number-good : (op : Op) (w : Width) (a b : Interval) (align : ℕ) (s : Region) (n : ℕ) → IfSome (of_offsets_and_number op w a b align) (Good op w a b s n)
of_offsets_and_number-good And B32 a b align s n = aligned-good a b align s n
of_offsets_and_number-good Eq B32 a b align s n = outside-good a b s n
of_offsets_and_number-good op w a b align s n = tt

-- ---- 6

compared-good : (op : Op) (w : Width) (a b : Interval) (s : Region) (n : ℕ) → IfSome (compared op a b) (Good op w a b s n)
compared-good Eq w (Numbers m) (Numbers k) s n =
    when (Good Eq w (Numbers m) (Numbers k) s n) (nat_lt m.high k.low || nat_lt k.high m.low) (interval_number 0) None (λ t. number-good Eq w (Numbers m) (Numbers k) s n 0 (eq-zero_value w)) tt
compared-good Ult w (Numbers m) (Numbers k) s n =
    when (Good Ult w (Numbers m) (Numbers k) s n) (nat_lt m.high k.low) (interval_number 1) (if nat_le k.high m.low then Some (interval_number 0) else None)
    (λ t. number-good Ult w (Numbers m) (Numbers k) s n 1 (ult-one_value w))
    (when (Good Ult w (Numbers m) (Numbers k) s n) (nat_le k.high m.low) (interval_number 0) None (λ t. number-good Ult w (Numbers m) (Numbers k) s n 0 (ult-zero_value w)) tt)
compared-good op w a b s n = tt

-- ---- 7

shifted_by-good : (op : Op) (a b : Interval) (s : Region) (n : ℕ) (m : NumberSpan) (o : Option ℕ) → IfSome (shifted_by op m o) (Good op B32 a b s n)
shifted_by-good Shl a b s n m (Some c) =
    when (Good Shl B32 a b s n) (nat_le 1 c && (nat_le c 31 && nat_lt (m.high * 2 ^ c) (2 ^ 32))) (span (m.low * 2 ^ c) (m.high * 2 ^ c) (m.stride * 2 ^ c)) None
    (λ t. span-good Shl B32 a b s n (m.low * 2 ^ c) (m.high * 2 ^ c) (m.stride * 2 ^ c) shl-any) tt
shifted_by-good Shr a b s n m (Some c) =
    when (Good Shr B32 a b s n) (nat_le c 31) (span (m.low / 2 ^ c) (m.high / 2 ^ c) 1) None
    (λ t. span-good Shr B32 a b s n (m.low / 2 ^ c) (m.high / 2 ^ c) 1 shr-any) tt
shifted_by-good op a b s n m o = tt

shifted-good : (op : Op) (w : Width) (a b : Interval) (s : Region) (n : ℕ) → IfSome (shifted op w a b) (Good op w a b s n)
shifted-good op B32 (Numbers m) b s n = shifted_by-good op (Numbers m) b s n m (interval_number_of b)
shifted-good op w a b s n = tt

-- ---- 8

masked_by-good : (op : Op) (w : Width) (a b : Interval) (s : Region) (n : ℕ) (o : Option ℕ) → IfSome (masked_by o) (Good op w a b s n)
masked_by-good op w a b s n (Some k) =
    when (Good op w a b s n) (nat_le 1 k && nat_le k 65535) (span 0 k 1) None
    (λ t. let (e, f) = and_parts (nat_le 1 k) (nat_le k 65535) t in let g = leb-true 1 k e in wide-good op w a b s n 0 k 1 (λ i. omega arith)) tt
masked_by-good op w a b s n None = tt

masked-good : (op : Op) (w : Width) (a b : Interval) (s : Region) (n : ℕ) → IfSome (masked op a b) (Good op w a b s n)
masked-good And w a b s n =
    after (Good And w a b s n) (masked_by (interval_number_of a)) (masked_by (interval_number_of b))
    (masked_by-good And w a b s n (interval_number_of a))
    (masked_by-good And w a b s n (interval_number_of b))
masked-good op w a b s n = tt

-- ---- 9: where the shared rules tell nothing, the operand is no one number

low_part-good : (op : Op) (w : Width) (a b : Interval) (s : Region) (n limit : ℕ) → 0 < limit → (interval_number_of a ≡ Some n → settled op w (interval_number_of a) (interval_number_of b) ≡ None → ⊥) → Good op w a b s n (low_part limit a)
low_part-good op w (Numbers m) b s n limit p f =
    cond_both (nat_le m.high limit) (Numbers m) (span 0 limit 1) (Good op w (Numbers m) b s n)
    (λ t. ((λ e. absurd (cc)), (λ e g. absurd (f e g))))
    (λ t. wide-good op w (Numbers m) b s n 0 limit 1 (λ i. omega arith))
low_part-good op w (Offsets m) b s n limit p f = wide-good op w (Offsets m) b s n 0 limit 1 (λ i. omega arith)
low_part-good op w Any b s n limit p f = wide-good op w Any b s n 0 limit 1 (λ i. omega arith)

low8-unsettled : (w : Width) (o q : Option ℕ) (n : ℕ) → settled Low8 w o q ≡ None → o ≡ Some n → ⊥
unfolding settled
low8-unsettled w (Some k) (Some i) n e f = absurd (cc)
low8-unsettled w (Some k) None n e f = absurd (cc)
low8-unsettled w None q n e f = absurd (cc)

low16-unsettled : (w : Width) (o q : Option ℕ) (n : ℕ) → settled Low16 w o q ≡ None → o ≡ Some n → ⊥
unfolding settled
low16-unsettled w (Some k) (Some i) n e f = absurd (cc)
low16-unsettled w (Some k) None n e f = absurd (cc)
low16-unsettled w None q n e f = absurd (cc)

low_bits-good : (op : Op) (w : Width) (a b : Interval) (s : Region) (n : ℕ) → IfSome (low_bits op a) (Good op w a b s n)
low_bits-good Low8 w a b s n = low_part-good Low8 w a b s n 255 (omega arith) (λ f e. low8-unsettled w (interval_number_of a) (interval_number_of b) n e f)
low_bits-good Low16 w a b s n = low_part-good Low16 w a b s n 65535 (omega arith) (λ f e. low16-unsettled w (interval_number_of a) (interval_number_of b) n e f)
low_bits-good op w a b s n = tt

-- ---- all of them

pub by_intervals-good : (op : Op) (w : Width) (a b : Interval) (align : ℕ) (s : Region) (n : ℕ) → Good op w a b s n (by_intervals op w a b align)
by_intervals-good op w a b align s n =
    in_order (Good op w a b s n) op w a b align
    (of_numbers-good op w a b s n)
    (of_offsets_and_numbers-good op w a b s n)
    (of_offsets-good op w a b s n)
    (of_offsets_and_number-good op w a b align s n)
    (compared-good op w a b s n)
    (shifted-good op w a b s n)
    (masked-good op w a b s n)
    (low_bits-good op w a b s n)
    (any-good op w a b s n)
