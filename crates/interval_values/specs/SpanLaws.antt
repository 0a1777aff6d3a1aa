-- What a span by its bounds and stride is.
use Rattle.std.proofs.Common.{◌≡◌, ℕ, ◌+◌, ◌-◌, ◌*◌, ◌/◌, ◌%◌, ◌^◌, ◌<◌, ◌≤◌, ℤ, pos, negsuc, ◌+ℤ◌, ◌-ℤ◌, ◌≤ℤ◌, refl, sym, ap, ◌∙◌, arith, Bool, true, false, ◌&&◌, ◌==◌, if◌then◌else◌, unsigned_abs, ⊎_elim}
use Rattle.std.specs.Prelude.{nat_le, nat_lt, int_le}
use Rattle.std.proofs.lemmas.Int.{ints}
use Rattle.std.proofs.lemmas.Bool.{and_parts, eqb-true, eq-eqb, ne_eqb, cond-true, cond-false, cases_eq, leb-true, ltb-true}
use Rattle.std.proofs.lemmas.Nat.{div-add-mod'}
use Rattle.std.proofs.Math.Nat.{mul-mod_left}
use Rattle.std.proofs.lemmas.Grind.{common_steps}
use Rattle.bit_words.specs.declared.width.Width.TheVariants.{B32}
use Rattle.bit_words.specs.Width.{is_signed}
use mathlib.Core.Bool.{Bool-set}
use Rattle.std.specs.Ordering.{int_eq}
use Rattle.address_regions.specs.declared.region.Region.{Region}
use Rattle.interval_values.specs.declared.value.NumberSpan.{NumberSpan}
use Rattle.interval_values.specs.declared.value.OffsetSpan.{OffsetSpan}
use Rattle.interval_values.specs.declared.value.Interval.{Interval}
use Rattle.interval_values.specs.declared.value.Interval.TheVariants.{Numbers, Offsets, Any}
use Rattle.interval_values.specs.Forms.{is_multiple, distance, is_stride, is_number_span, is_offset_span}
use Rattle.interval_values.specs.Spans.{numbers_if, numbers, span, offsets_if, offsets, place_span}

-- ---- numbers

numbers_if-cases : (P : Interval → Type 0) (l h s : ℕ) (t : Bool) (e : is_number_span l h s ≡ t) → ((m : NumberSpan) → m.low ≡ l → m.high ≡ h → m.stride ≡ s → P (Numbers m)) → (t ≡ false → P Any) → P (numbers_if l h s t e)
numbers_if-cases P l h s true e f g = f (record { low = l; high = h; stride = s; formed = e }) refl refl refl
numbers_if-cases P l h s false e f g = g refl

-- a span is one of these bounds, or any where they are not well-formed
pub span-cases : (P : Interval → Type 0) (l h s : ℕ) → ((m : NumberSpan) → m.low ≡ l → m.high ≡ h → m.stride ≡ (if l == h then 0 else s) → P (Numbers m)) → (is_number_span l h (if l == h then 0 else s) ≡ false → P Any) → P (span l h s)
unfolding span numbers
span-cases P l h s f g = numbers_if-cases P l h (if l == h then 0 else s) (is_number_span l h (if l == h then 0 else s)) refl f g

formed_same : (l h s : ℕ) (e f : is_number_span l h s ≡ true) → e ≡ f
formed_same l h s e f = Bool-set (is_number_span l h s) true e f

made_same : (l h s : ℕ) (t : Bool) (e : is_number_span l h s ≡ t) (f : is_number_span l h s ≡ true) → numbers_if l h s t e ≡ Numbers (record { low = l; high = h; stride = s; formed = f })
made_same l h s true e f = ap (λ g. Numbers (record { low = l; high = h; stride = s; formed = g })) (formed_same l h s e f)
made_same l h s false e f = absurd (cc)

-- the value of well-formed bounds and stride
pub numbers-is : (m : NumberSpan) → numbers m.low m.high m.stride ≡ Numbers m
unfolding numbers
numbers-is m = made_same m.low m.high m.stride (is_number_span m.low m.high m.stride) refl m.formed

none_made : (l h s : ℕ) (t : Bool) (e : is_number_span l h s ≡ t) → t ≡ false → numbers_if l h s t e ≡ Any
none_made l h s true e f = absurd (cc)
none_made l h s false e f = refl

pub numbers-any : (l h s : ℕ) → is_number_span l h s ≡ false → numbers l h s ≡ Any
unfolding numbers
numbers-any l h s e = none_made l h s (is_number_span l h s) refl e

-- ---- offsets

offsets_if-cases : (P : Interval → Type 0) (r : Region) (l h : ℤ) (s : ℕ) (t : Bool) (e : is_offset_span l h s ≡ t) → ((m : OffsetSpan) → m.region ≡ r → m.low ≡ l → m.high ≡ h → m.stride ≡ s → P (Offsets m)) → (t ≡ false → P Any) → P (offsets_if r l h s t e)
offsets_if-cases P r l h s true e f g = f (record { region = r; low = l; high = h; stride = s; formed = e }) refl refl refl refl
offsets_if-cases P r l h s false e f g = g refl

pub place_span-cases : (P : Interval → Type 0) (r : Region) (l h : ℤ) (s : ℕ) → ((m : OffsetSpan) → m.region ≡ r → m.low ≡ l → m.high ≡ h → m.stride ≡ (if int_eq l h then 0 else s) → P (Offsets m)) → (is_offset_span l h (if int_eq l h then 0 else s) ≡ false → P Any) → P (place_span r l h s)
unfolding place_span offsets
place_span-cases P r l h s f g = offsets_if-cases P r l h (if int_eq l h then 0 else s) (is_offset_span l h (if int_eq l h then 0 else s)) refl f g

offset-formed_same : (l h : ℤ) (s : ℕ) (e f : is_offset_span l h s ≡ true) → e ≡ f
offset-formed_same l h s e f = Bool-set (is_offset_span l h s) true e f

offset-made_same : (r : Region) (l h : ℤ) (s : ℕ) (t : Bool) (e : is_offset_span l h s ≡ t) (f : is_offset_span l h s ≡ true) → offsets_if r l h s t e ≡ Offsets (record { region = r; low = l; high = h; stride = s; formed = f })
offset-made_same r l h s true e f = ap (λ g. Offsets (record { region = r; low = l; high = h; stride = s; formed = g })) (offset-formed_same l h s e f)
offset-made_same r l h s false e f = absurd (cc)

pub offsets-is : (m : OffsetSpan) → offsets m.region m.low m.high m.stride ≡ Offsets m
unfolding offsets
offsets-is m = offset-made_same m.region m.low m.high m.stride (is_offset_span m.low m.high m.stride) refl m.formed

no_offset-made : (r : Region) (l h : ℤ) (s : ℕ) (t : Bool) (e : is_offset_span l h s ≡ t) → t ≡ false → offsets_if r l h s t e ≡ Any
no_offset-made r l h s true e f = absurd (cc)
no_offset-made r l h s false e f = refl

pub offsets-any : (r : Region) (l h : ℤ) (s : ℕ) → is_offset_span l h s ≡ false → offsets r l h s ≡ Any
unfolding offsets
offsets-any r l h s e = no_offset-made r l h s (is_offset_span l h s) refl e

-- ---- multiples

pub multiple-of : (n s : ℕ) → is_multiple n s ≡ true → (k : ℕ) × (n ≡ k * s)
multiple-of n s e = (n / s, sym (div-add-mod' n s) ∙ ap (λ r. n / s * s + r) (eqb-true (n % s) 0 e) ∙ omega arith)

pub multiple-from : (n k s : ℕ) → n ≡ k * s → is_multiple n s ≡ true
multiple-from n k s e = eq-eqb (n % s) 0 (ap (λ m. m % s) e ∙ mul-mod_left k s)

pub stride-zero : (d s : ℕ) → is_stride d s ≡ true → d ≡ 0 → s ≡ 0
stride-zero d s e f = eqb-true s 0 (sym (cond-true (d == 0) (s == 0) (is_multiple d s) (eq-eqb d 0 f)) ∙ e)

pub stride-divides : (d s : ℕ) → is_stride d s ≡ true → (k : ℕ) × (d ≡ k * s)
stride-divides d s e =
    ⊎_elim
    (λ (f : d ≡ 0). (0, omega arith))
    (λ (f : d ≡ 0 → ⊥). multiple-of d s (sym (cond-false (d == 0) (s == 0) (is_multiple d s) (ne_eqb d 0 f)) ∙ e))
    (cases_eq d 0)

-- ---- what the tests tell

pub record IsNumberSpan (l h s : ℕ) : Type 0 where
  pub ordered : l ≤ h
  pub fits : h < 2 ^ 32
  pub stride : is_stride (h - l) s ≡ true

pub number_span-tells : (l h s : ℕ) → is_number_span l h s ≡ true → IsNumberSpan l h s
number_span-tells l h s e =
    let (a, b) = and_parts (nat_le l h) (nat_lt h (2 ^ 32) && is_stride (h - l) s) e in
    let (c, d) = and_parts (nat_lt h (2 ^ 32)) (is_stride (h - l) s) b in
    record { ordered = leb-true l h a; fits = ltb-true h (2 ^ 32) c; stride = d }

pub record IsOffsetSpan (l h : ℤ) (s : ℕ) : Type 0 where
  pub ordered : l ≤ℤ h
  pub low_fits : is_signed B32 l ≡ true
  pub high_fits : is_signed B32 h ≡ true
  pub stride : is_stride (distance l h) s ≡ true

pub int_le-tells : (l h : ℤ) → int_le l h ≡ true → l ≤ℤ h
int_le-tells l h e = grind (arith, ints, common_steps)

pub int_le-from : (l h : ℤ) → l ≤ℤ h → int_le l h ≡ true
int_le-from l h e = grind (arith, ints, common_steps)

pub offset_span-tells : (l h : ℤ) (s : ℕ) → is_offset_span l h s ≡ true → IsOffsetSpan l h s
offset_span-tells l h s e =
    let (a, b) = and_parts (int_le l h) (is_signed B32 l && (is_signed B32 h && is_stride (distance l h) s)) e in
    let (c, d) = and_parts (is_signed B32 l) (is_signed B32 h && is_stride (distance l h) s) b in
    let (f, g) = and_parts (is_signed B32 h) (is_stride (distance l h) s) d in
    record { ordered = int_le-tells l h a; low_fits = c; high_fits = f; stride = g }

-- ---- distances

natural : (z : ℤ) → pos 0 ≤ℤ z → z ≡ pos (unsigned_abs z)
natural (pos n) h = refl
natural (negsuc n) h = absurd (omega (arith, ints))

pub distance-is : (l h : ℤ) → l ≤ℤ h → h ≡ l +ℤ pos (distance l h)
distance-is l h e = let n = natural (h -ℤ l) (omega (arith, ints)) in omega (arith, ints)

pub distance-of : (l h : ℤ) (n : ℕ) → h ≡ l +ℤ pos n → distance l h ≡ n
distance-of l h n e = let f : h -ℤ l ≡ pos n = omega (arith, ints) in ap unsigned_abs f
