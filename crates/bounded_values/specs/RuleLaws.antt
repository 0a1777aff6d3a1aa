-- Rules 4 to 8 of bounded eval: what they give stands for the operator's value, names no further block region, and is a number of the operator.
use Rattle.std.proofs.Common.{◌≡◌, ℕ, ◌%◌, ◌^◌, ◌<◌, ◌≤◌, ℤ, refl, sym, ap, ◌∙◌, subst, arith, Bool, true, false, ◌&&◌, Option, Some, None, IfSome, unwrap_or, if◌then◌else◌, ◌⊎◌, inl, inr}
use Rattle.std.specs.Option.{option_or}
use Rattle.bit_words.specs.declared.op.Op.{Op}
use Rattle.bit_words.specs.declared.op.Op.TheVariants.{Add, Sub, And, Eq}
use Rattle.bit_words.specs.declared.width.Width.{Width}
use Rattle.bit_words.specs.declared.width.Width.TheVariants.{B32}
use Rattle.bit_words.specs.Width.{bits_of, word_of}
use Rattle.bit_words.specs.Operators.{apply_op}
use Rattle.address_regions.specs.declared.region.Region.{Region}
use Rattle.address_regions.specs.declared.region.Region.TheVariants.{Stack}
use Rattle.address_regions.specs.Extents.{has_one_base, has_room}
use Rattle.address_regions.specs.Places.{Places, HasBase, place_at, IsValid}
use Rattle.address_regions.specs.Same.{same_region}
use Rattle.address_regions.proofs.RegionLaws.{same_region-is, one_base, byte_allowed, inside-in_extent, inside-from}
use Rattle.domain_laws.specs.Laws.{IsValueOf}
use Rattle.domain_laws.specs.Reached.{named}
use Rattle.domain_laws.specs.ResultLaws.{apply-is_value}
use Rattle.domain_laws.specs.RuleLaws.{and-comm}
use Rattle.bounded_values.specs.declared.value.Bounded.{Bounded}
use Rattle.bounded_values.specs.declared.value.Bounded.TheVariants.{Number, Exact, Inside, Any}
use Rattle.bounded_values.specs.Stands.{IsAt, IsWithin, bounded_stands, bounded_number_of, bounded_reach}
use Rattle.bounded_values.specs.Rules.{rounded_down, unit_of, is_stack_mask, is_outside, lies_in_region, moved_place, place_plus, place_less, between, between_places, masked_at, masked_place, aligned_place, outside_place, number_and_place, apart, by_places}
use Rattle.bounded_values.specs.NumberLaws.{add-place, add-comm, sub-place, sub-places, eq-places, mask-place, eq-apart, eq-comm}
use Rattle.std.proofs.lemmas.Bool.{and_parts}

-- ---- rules in order

-- a rule with a test
when : (P : Bounded → Type 0) (t : Bool) (v : Bounded) → (t ≡ true → P v) → IfSome (if t then Some v else None) P
when P true v f = f refl
when P false v f = tt

after : (P : Bounded → Type 0) (o q : Option Bounded) → IfSome o P → IfSome q P → IfSome (option_or o q) P
after P (Some v) q f g = f
after P None q f g = g

or_any : (P : Bounded → Type 0) (o : Option Bounded) → IfSome o P → P Any → P (unwrap_or o Any)
or_any P (Some v) f g = f
or_any P None f g = g

-- what each rule gives, and any, have a property: so does what they give in order
in_order : (P : Bounded → Type 0) (op : Op) (w : Width) (a b : Bounded) (align : ℕ) → IfSome (moved_place op w a b) P → IfSome (between_places op w a b) P → IfSome (aligned_place op w a b align) P → IfSome (apart op w a b) P → P Any → P (by_places op w a b align)
unfolding by_places
in_order P op w a b align f g h i j =
    or_any P (option_or (moved_place op w a b) (option_or (between_places op w a b) (option_or (aligned_place op w a b align) (apart op w a b))))
    (after P (moved_place op w a b) (option_or (between_places op w a b) (option_or (aligned_place op w a b align) (apart op w a b))) f
    (after P (between_places op w a b) (option_or (aligned_place op w a b align) (apart op w a b)) g
    (after P (aligned_place op w a b align) (apart op w a b) h i)))
    j

-- ---- what they stand for

abbrev Stand : Places → ℕ → Bounded → Type 0
Stand p z v = bounded_stands v p z

plus-stands : (p : Places) (a b : Bounded) (x y : ℕ) → bounded_stands a p x → bounded_stands b p y → IfSome (place_plus a b) (Stand p (apply_op Add B32 x y))
plus-stands p (Exact r o) (Number n) x y h k = record { base = h.base; has_base = h.has_base; is = add-place h.base n x y o h.is k }
plus-stands p (Number n) (Exact r o) x y h k = record { base = k.base; has_base = k.has_base; is = add-comm x y ∙ add-place k.base n y x o k.is h }
plus-stands p a b x y h k = tt

less-stands : (p : Places) (a b : Bounded) (x y : ℕ) → y < 2 ^ 32 → bounded_stands a p x → bounded_stands b p y → IfSome (place_less a b) (Stand p (apply_op Sub B32 x y))
less-stands p (Exact r o) (Number n) x y f h k = record { base = h.base; has_base = h.has_base; is = sub-place h.base n x y o h.is k f }
less-stands p a b x y f h k = tt

moved-stands : (p : Places) (op : Op) (w : Width) (a b : Bounded) (x y : ℕ) → y < 2 ^ bits_of w → bounded_stands a p x → bounded_stands b p y → IfSome (moved_place op w a b) (Stand p (apply_op op w x y))
moved-stands p Add B32 a b x y f h k = plus-stands p a b x y h k
moved-stands p Sub B32 a b x y f h k = less-stands p a b x y f h k
moved-stands p op w a b x y f h k = tt

-- two places of a region with one base are places from that base
from_one_base : (p : Places) (r s : Region) (o q : ℤ) (x y : ℕ) → (same_region r s && has_one_base r) ≡ true → IsAt p r o x → IsAt p s q y → (b : ℕ) × (x ≡ place_at b o) × (y ≡ place_at b q)
from_one_base p r s o q x y e h k =
    let (e0, e1) = and_parts (same_region r s) (has_one_base r) e in
    let same = same_region-is r s e0 in
    let base : HasBase p r k.base = subst (λ t. HasBase p t k.base) (sym same) k.has_base in
    let one : k.base ≡ h.base = one_base p r k.base h.base e1 base h.has_base in
    (h.base, h.is, k.is ∙ ap (λ b. place_at b q) one)

sub_between : (p : Places) (a b : Bounded) (x y : ℕ) → bounded_stands a p x → bounded_stands b p y → IfSome (between Sub a b) (Stand p (apply_op Sub B32 x y))
sub_between p (Exact r o) (Exact s q) x y h k =
    when (Stand p (apply_op Sub B32 x y)) (same_region r s && has_one_base r) (Number (apply_op Sub B32 (word_of B32 o) (word_of B32 q)))
    (λ e. let (b, f, g) = from_one_base p r s o q x y e h k in sub-places b x y o q f g)
sub_between p a b x y h k = tt

eq_between : (p : Places) (a b : Bounded) (x y : ℕ) → bounded_stands a p x → bounded_stands b p y → IfSome (between Eq a b) (Stand p (apply_op Eq B32 x y))
eq_between p (Exact r o) (Exact s q) x y h k =
    when (Stand p (apply_op Eq B32 x y)) (same_region r s && has_one_base r) (Number (apply_op Eq B32 (word_of B32 o) (word_of B32 q)))
    (λ e. let (b, f, g) = from_one_base p r s o q x y e h k in eq-places b x y o q f g)
eq_between p a b x y h k = tt

between-stands : (p : Places) (op : Op) (w : Width) (a b : Bounded) (x y : ℕ) → bounded_stands a p x → bounded_stands b p y → IfSome (between_places op w a b) (Stand p (apply_op op w x y))
between-stands p Sub B32 a b x y h k = sub_between p a b x y h k
between-stands p Eq B32 a b x y h k = eq_between p a b x y h k
between-stands p op w a b x y h k = tt

masked-stands : (p : Places) (o : ℤ) (n x y : ℕ) → IsValid p → y < 2 ^ 32 → IsAt p Stack o x → y ≡ n → IfSome (masked_at o n p.align) (Stand p (apply_op And B32 x y))
masked-stands p o n x y v f h k =
    when (Stand p (apply_op And B32 x y)) (is_stack_mask n p.align) (Exact Stack (rounded_down o (unit_of n)))
    (λ e. let base : h.base % p.align ≡ 0 = ap (λ b. b % p.align) h.has_base ∙ v.aligned in
    record { base = h.base; has_base = h.has_base; is = mask-place h.base n x y p.align o f v.alignment base e h.is k })

masked-stands_turned : (p : Places) (o : ℤ) (n x y : ℕ) → IsValid p → x < 2 ^ 32 → IsAt p Stack o y → x ≡ n → IfSome (masked_at o n p.align) (Stand p (apply_op And B32 x y))
masked-stands_turned p o n x y v f h k = subst (λ z. IfSome (masked_at o n p.align) (Stand p z)) (and-comm B32 y x) (masked-stands p o n y x v f h k)

place_masked : (p : Places) (a b : Bounded) (x y : ℕ) → IsValid p → x < 2 ^ 32 → y < 2 ^ 32 → bounded_stands a p x → bounded_stands b p y → IfSome (masked_place a b p.align) (Stand p (apply_op And B32 x y))
place_masked p (Exact Stack o) (Number n) x y v f g h k = masked-stands p o n x y v g h k
place_masked p (Number n) (Exact Stack o) x y v f g h k = masked-stands_turned p o n x y v f k h
place_masked p a b x y v f g h k = tt

aligned-stands : (p : Places) (op : Op) (w : Width) (a b : Bounded) (x y : ℕ) → IsValid p → x < 2 ^ bits_of w → y < 2 ^ bits_of w → bounded_stands a p x → bounded_stands b p y → IfSome (aligned_place op w a b p.align) (Stand p (apply_op op w x y))
aligned-stands p And B32 a b x y v f g h k = place_masked p a b x y v f g h k
aligned-stands p op w a b x y v f g h k = tt

-- what lies in a region is no low or high number
within-allowed : (p : Places) (r : Region) (t : Bool) (x : ℕ) → IsValid p → has_room r ≡ t → t ≡ true → IsWithin t p r x → (4096 ≤ x) × (x < 0xF0000000)
within-allowed p r true x v e f h =
    let in_extent = inside-in_extent r h.offset (inside-from r h.offset e h.from_low h.to_high) in
    subst (λ n. (4096 ≤ n) × (n < 0xF0000000)) (sym h.is) (byte_allowed p r h.base h.offset v h.has_base in_extent)
within-allowed p r false x v e f h = absurd (cc)

lies-allowed : (p : Places) (u : Bounded) (x : ℕ) → IsValid p → lies_in_region u ≡ true → bounded_stands u p x → (4096 ≤ x) × (x < 0xF0000000)
lies-allowed p (Exact r o) x v e h = subst (λ n. (4096 ≤ n) × (n < 0xF0000000)) (sym h.is) (byte_allowed p r h.base o v h.has_base e)
lies-allowed p (Inside r) x v e h = within-allowed p r (has_room r) x v refl e h
lies-allowed p (Number n) x v e h = absurd (cc)
lies-allowed p Any x v e h = absurd (cc)

outside-stands : (p : Places) (n : ℕ) (u : Bounded) (x y : ℕ) → IsValid p → y < 2 ^ 32 → y ≡ n → bounded_stands u p x → IfSome (outside_place n u) (Stand p (apply_op Eq B32 x y))
outside-stands p n u x y v f k h =
    when (Stand p (apply_op Eq B32 x y)) (is_outside n && lies_in_region u) (Number 0)
    (λ e. let (e0, e1) = and_parts (is_outside n) (lies_in_region u) e in let (low, high) = lies-allowed p u x v e1 h in eq-apart n x y f e0 low high k)

outside-stands_turned : (p : Places) (n : ℕ) (u : Bounded) (x y : ℕ) → IsValid p → x < 2 ^ 32 → x ≡ n → bounded_stands u p y → IfSome (outside_place n u) (Stand p (apply_op Eq B32 x y))
outside-stands_turned p n u x y v f k h = subst (λ z. IfSome (outside_place n u) (Stand p z)) (eq-comm y x) (outside-stands p n u y x v f k h)

number_apart : (p : Places) (a b : Bounded) (x y : ℕ) → IsValid p → x < 2 ^ 32 → y < 2 ^ 32 → bounded_stands a p x → bounded_stands b p y → IfSome (number_and_place a b) (Stand p (apply_op Eq B32 x y))
number_apart p (Number n) b x y v f g h k = outside-stands_turned p n b x y v f h k
number_apart p (Exact r o) (Number n) x y v f g h k = outside-stands p n (Exact r o) x y v g k h
number_apart p (Inside r) (Number n) x y v f g h k = outside-stands p n (Inside r) x y v g k h
number_apart p Any (Number n) x y v f g h k = outside-stands p n Any x y v g k h
number_apart p a b x y v f g h k = tt

apart-stands : (p : Places) (op : Op) (w : Width) (a b : Bounded) (x y : ℕ) → IsValid p → x < 2 ^ bits_of w → y < 2 ^ bits_of w → bounded_stands a p x → bounded_stands b p y → IfSome (apart op w a b) (Stand p (apply_op op w x y))
apart-stands p Eq B32 a b x y v f g h k = number_apart p a b x y v f g h k
apart-stands p op w a b x y v f g h k = tt

pub by_places-stands : (p : Places) (op : Op) (w : Width) (a b : Bounded) (x y : ℕ) → IsValid p → x < 2 ^ bits_of w → y < 2 ^ bits_of w → bounded_stands a p x → bounded_stands b p y → bounded_stands (by_places op w a b p.align) p (apply_op op w x y)
by_places-stands p op w a b x y v f g h k =
    in_order (Stand p (apply_op op w x y)) op w a b p.align
    (moved-stands p op w a b x y g h k)
    (between-stands p op w a b x y h k)
    (aligned-stands p op w a b x y v f g h k)
    (apart-stands p op w a b x y v f g h k)
    tt

-- ---- which block region they name

abbrev pub NamedBy : Bounded → Bounded → Region → Bounded → Type 0
NamedBy a b s v = named (bounded_reach v) ≡ Some s → (named (bounded_reach a) ≡ Some s) ⊎ (named (bounded_reach b) ≡ Some s)

plus-named : (a b : Bounded) (s : Region) → IfSome (place_plus a b) (NamedBy a b s)
plus-named (Exact r o) (Number n) s = λ e. inl e
plus-named (Number n) (Exact r o) s = λ e. inr e
plus-named a b s = tt

less-named : (a b : Bounded) (s : Region) → IfSome (place_less a b) (NamedBy a b s)
less-named (Exact r o) (Number n) s = λ e. inl e
less-named a b s = tt

moved-named : (op : Op) (w : Width) (a b : Bounded) (s : Region) → IfSome (moved_place op w a b) (NamedBy a b s)
moved-named Add B32 a b s = plus-named a b s
moved-named Sub B32 a b s = less-named a b s
moved-named op w a b s = tt

none_some : {A : Type 0} (s : Region) → None ≡ Some s → A
none_some s e = absurd (cc)

between-named : (op : Op) (a b c d : Bounded) (s : Region) → IfSome (between op a b) (NamedBy c d s)
between-named op (Exact r o) (Exact t q) c d s =
    when (NamedBy c d s) (same_region r t && has_one_base r) (Number (apply_op op B32 (word_of B32 o) (word_of B32 q))) (λ e. none_some s)
between-named op a b c d s = tt

places-named : (op : Op) (w : Width) (a b c d : Bounded) (s : Region) → IfSome (between_places op w a b) (NamedBy c d s)
places-named Sub B32 a b c d s = between-named Sub a b c d s
places-named Eq B32 a b c d s = between-named Eq a b c d s
places-named op w a b c d s = tt

masked-named : (o : ℤ) (n align : ℕ) (c d : Bounded) (s : Region) → IfSome (masked_at o n align) (NamedBy c d s)
masked-named o n align c d s = when (NamedBy c d s) (is_stack_mask n align) (Exact Stack (rounded_down o (unit_of n))) (λ e. none_some s)

mask-named : (a b c d : Bounded) (align : ℕ) (s : Region) → IfSome (masked_place a b align) (NamedBy c d s)
mask-named (Exact Stack o) (Number n) c d align s = masked-named o n align c d s
mask-named (Number n) (Exact Stack o) c d align s = masked-named o n align c d s
mask-named a b c d align s = tt

aligned-named : (op : Op) (w : Width) (a b c d : Bounded) (align : ℕ) (s : Region) → IfSome (aligned_place op w a b align) (NamedBy c d s)
aligned-named And B32 a b c d align s = mask-named a b c d align s
aligned-named op w a b c d align s = tt

outside-named : (n : ℕ) (u c d : Bounded) (s : Region) → IfSome (outside_place n u) (NamedBy c d s)
outside-named n u c d s = when (NamedBy c d s) (is_outside n && lies_in_region u) (Number 0) (λ e. none_some s)

number-named : (a b c d : Bounded) (s : Region) → IfSome (number_and_place a b) (NamedBy c d s)
number-named (Number n) b c d s = outside-named n b c d s
number-named (Exact r o) (Number n) c d s = outside-named n (Exact r o) c d s
number-named (Inside r) (Number n) c d s = outside-named n (Inside r) c d s
number-named Any (Number n) c d s = outside-named n Any c d s
number-named a b c d s = tt

apart-named : (op : Op) (w : Width) (a b c d : Bounded) (s : Region) → IfSome (apart op w a b) (NamedBy c d s)
apart-named Eq B32 a b c d s = number-named a b c d s
apart-named op w a b c d s = tt

pub by_places-named : (op : Op) (w : Width) (a b : Bounded) (align : ℕ) (s : Region) → NamedBy a b s (by_places op w a b align)
by_places-named op w a b align s =
    in_order (NamedBy a b s) op w a b align
    (moved-named op w a b s)
    (places-named op w a b a b s)
    (aligned-named op w a b a b align s)
    (apart-named op w a b a b s)
    (none_some s)

-- ---- which numbers they tell

abbrev pub NumberOf : Op → Width → ℕ → Bounded → Type 0
NumberOf op w n v = bounded_number_of v ≡ Some n → IsValueOf op w n

no_number : {A : Type 0} (n : ℕ) → None ≡ Some n → A
no_number n e = absurd (cc)

the_number : (op : Op) (w : Width) (k n : ℕ) → IsValueOf op w k → NumberOf op w n (Number k)
the_number op w k n h e = let same : k ≡ n = cc in subst (λ j. IsValueOf op w j) same h

plus-number : (op : Op) (w : Width) (n : ℕ) (a b : Bounded) → IfSome (place_plus a b) (NumberOf op w n)
plus-number op w n (Exact r o) (Number k) = no_number n
plus-number op w n (Number k) (Exact r o) = no_number n
plus-number op w n a b = tt

less-number : (op : Op) (w : Width) (n : ℕ) (a b : Bounded) → IfSome (place_less a b) (NumberOf op w n)
less-number op w n (Exact r o) (Number k) = no_number n
less-number op w n a b = tt

moved-number : (op : Op) (w : Width) (n : ℕ) (a b : Bounded) → IfSome (moved_place op w a b) (NumberOf op w n)
moved-number Add B32 n a b = plus-number Add B32 n a b
moved-number Sub B32 n a b = less-number Sub B32 n a b
moved-number op w n a b = tt

between-number : (op : Op) (n : ℕ) (a b : Bounded) → IfSome (between op a b) (NumberOf op B32 n)
between-number op n (Exact r o) (Exact s q) =
    when (NumberOf op B32 n) (same_region r s && has_one_base r) (Number (apply_op op B32 (word_of B32 o) (word_of B32 q)))
    (λ e. the_number op B32 (apply_op op B32 (word_of B32 o) (word_of B32 q)) n (apply-is_value op B32 (word_of B32 o) (word_of B32 q)))
between-number op n a b = tt

places-number : (op : Op) (w : Width) (n : ℕ) (a b : Bounded) → IfSome (between_places op w a b) (NumberOf op w n)
places-number Sub B32 n a b = between-number Sub n a b
places-number Eq B32 n a b = between-number Eq n a b
places-number op w n a b = tt

masked-number : (op : Op) (w : Width) (n : ℕ) (o : ℤ) (k align : ℕ) → IfSome (masked_at o k align) (NumberOf op w n)
masked-number op w n o k align = when (NumberOf op w n) (is_stack_mask k align) (Exact Stack (rounded_down o (unit_of k))) (λ e. no_number n)

mask-number : (op : Op) (w : Width) (n : ℕ) (a b : Bounded) (align : ℕ) → IfSome (masked_place a b align) (NumberOf op w n)
mask-number op w n (Exact Stack o) (Number k) align = masked-number op w n o k align
mask-number op w n (Number k) (Exact Stack o) align = masked-number op w n o k align
mask-number op w n a b align = tt

aligned-number : (op : Op) (w : Width) (n : ℕ) (a b : Bounded) (align : ℕ) → IfSome (aligned_place op w a b align) (NumberOf op w n)
aligned-number And B32 n a b align = mask-number And B32 n a b align
aligned-number op w n a b align = tt

-- 0 is a result of Eq, as at 0 and 4096
zero-is_value : IsValueOf Eq B32 0
zero-is_value = subst (λ n. IsValueOf Eq B32 n) (eq-apart 0 4096 0 (omega arith) refl (omega arith) (omega arith) refl) (apply-is_value Eq B32 4096 0)

outside-number : (n k : ℕ) (u : Bounded) → IfSome (outside_place k u) (NumberOf Eq B32 n)
outside-number n k u = when (NumberOf Eq B32 n) (is_outside k && lies_in_region u) (Number 0) (λ e. the_number Eq B32 0 n zero-is_value)

number-number : (n : ℕ) (a b : Bounded) → IfSome (number_and_place a b) (NumberOf Eq B32 n)
number-number n (Number k) b = outside-number n k b
number-number n (Exact r o) (Number k) = outside-number n k (Exact r o)
number-number n (Inside r) (Number k) = outside-number n k (Inside r)
number-number n Any (Number k) = outside-number n k Any
number-number n a b = tt

apart-number : (op : Op) (w : Width) (n : ℕ) (a b : Bounded) → IfSome (apart op w a b) (NumberOf op w n)
apart-number Eq B32 n a b = number-number n a b
apart-number op w n a b = tt

pub by_places-number : (op : Op) (w : Width) (a b : Bounded) (align n : ℕ) → NumberOf op w n (by_places op w a b align)
by_places-number op w a b align n =
    in_order (NumberOf op w n) op w a b align
    (moved-number op w n a b)
    (places-number op w n a b)
    (aligned-number op w n a b align)
    (apart-number op w n a b)
    (no_number n)
