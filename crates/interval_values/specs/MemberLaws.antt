-- For which numbers a span stands, what it tells of them, and what it names.
use Rattle.std.proofs.Common.{◌≡◌, ℕ, ◌+◌, ◌-◌, ◌*◌, ◌/◌, ◌≤◌, min, ℤ, pos, ◌+ℤ◌, ◌≤ℤ◌, refl, sym, ap, ◌∙◌, subst, arith, true, false, ◌==◌, if◌then◌else◌, Some, None, ◌⊎◌, inl, inr, ⊎_elim}
use Rattle.std.specs.Prelude.{nat_le}
use Rattle.std.specs.Ordering.{int_eq}
use Rattle.std.proofs.lemmas.Int.{ints}
use Rattle.std.proofs.lemmas.Bool.{eqb-true, eq-eqb, ne_eqb, cond-true, cond-false, cond_both, cases_eq, cases_Bool, leb-true}
use Rattle.std.proofs.lemmas.Bool.Decides.{Decides-int_eq}
use Rattle.std.proofs.lemmas.Nat.{mul-le, le-div}
use Rattle.address_regions.specs.declared.region.Region.{Region}
use Rattle.address_regions.specs.Extents.{block_of}
use Rattle.address_regions.specs.Places.{Places, HasBase, place_at, SameWindows, KeepsBases}
use Rattle.address_regions.proofs.RegionLaws.{base_kept}
use Rattle.domain_laws.specs.Reached.{IsReached, IsProper, named}
use Rattle.domain_laws.specs.RuleLaws.{Allows}
use Rattle.interval_values.specs.declared.value.NumberSpan.{NumberSpan}
use Rattle.interval_values.specs.declared.value.Interval.{Interval}
use Rattle.interval_values.specs.declared.value.Interval.TheVariants.{Numbers, Offsets, Any}
use Rattle.interval_values.specs.Spans.{span, place_span}
use Rattle.interval_values.specs.Stands.{interval_stands, interval_number_of, interval_reach, greatest_to, interval_up_to}
use Rattle.interval_values.specs.SpanLaws.{span-cases, place_span-cases, number_span-tells, offset_span-tells}

-- ---- what a span stands for

-- the steps are the same by the stride of a span
same_steps : (l h s t k : ℕ) → t ≡ (if l == h then 0 else s) → l + k * s ≤ h → k * s ≡ k * t
same_steps l h s t k e f =
    ⊎_elim
    (λ (g : l ≡ h). let z : t ≡ 0 = e ∙ cond-true (l == h) 0 s (eq-eqb l h g) in let none : k * s ≡ 0 = omega arith in none ∙ sym (ap (λ u. k * u) z ∙ omega arith))
    (λ (g : l ≡ h → ⊥). ap (λ u. k * u) (sym (e ∙ cond-false (l == h) 0 s (ne_eqb l h g))))
    (cases_eq l h)

pub span-holds : (p : Places) (l h s k x : ℕ) → x ≡ l + k * s → x ≤ h → interval_stands (span l h s) p x
span-holds p l h s k x e f =
    span-cases (λ v. interval_stands v p x) l h s
    (λ m i j q. record { steps = k; is = e ∙ ap (λ n. n + k * s) (sym i) ∙ ap (λ n. m.low + n) (same_steps l h s m.stride k q (subst (λ n. n ≤ h) e f)); to_high = subst (λ n. x ≤ n) (sym j) f })
    (λ g. tt)

same_offset-steps : (l h : ℤ) (s t k : ℕ) → t ≡ (if int_eq l h then 0 else s) → (l +ℤ pos (k * s)) ≤ℤ h → k * s ≡ k * t
same_offset-steps l h s t k e f =
    ⊎_elim
    (λ (g : int_eq l h ≡ true).
    let same : l ≡ h = (Decides-int_eq l h).0 g in
    let z : t ≡ 0 = e ∙ cond-true (int_eq l h) 0 s g in
    let none : k * s ≡ 0 = omega (arith, ints) in
    none ∙ sym (ap (λ u. k * u) z ∙ omega arith))
    (λ (g : int_eq l h ≡ false). ap (λ u. k * u) (sym (e ∙ cond-false (int_eq l h) 0 s g)))
    (cases_Bool (int_eq l h))

pub place_span-holds : (p : Places) (r : Region) (l h : ℤ) (s k b : ℕ) (o : ℤ) (x : ℕ) → HasBase p r b → o ≡ l +ℤ pos (k * s) → o ≤ℤ h → x ≡ place_at b o → interval_stands (place_span r l h s) p x
place_span-holds p r l h s k b o x base e f at =
    place_span-cases (λ v. interval_stands v p x) r l h s
    (λ m g i j q. record {
      base = b;
      offset = o;
      has_base = subst (λ t. HasBase p t b) (sym g) base;
      of = record {
        steps = k;
        is = e ∙ ap (λ z. z +ℤ pos (k * s)) (sym i) ∙ ap (λ n. m.low +ℤ pos n) (same_offset-steps l h s m.stride k q (subst (λ z. z ≤ℤ h) e f));
        to_high = subst (λ z. o ≤ℤ z) (sym j) f;
      };
      is = at;
    })
    (λ g. tt)

-- ---- one number alone

pub number_of-tells : (m : NumberSpan) (n : ℕ) → interval_number_of (Numbers m) ≡ Some n → (m.low ≡ m.high) × (m.low ≡ n)
number_of-tells m n = cond_both (m.low == m.high) (Some m.low) None (λ o. o ≡ Some n → (m.low ≡ m.high) × (m.low ≡ n)) (λ t e. (eqb-true m.low m.high t, cc)) (λ t e. absurd (cc))

pub allows : (v : Interval) (p : Places) (x : ℕ) → interval_stands v p x → Allows (interval_number_of v) x
allows (Numbers m) p x h = cond_both (m.low == m.high) (Some m.low) None (λ o. Allows o x) (λ t. let same = eqb-true m.low m.high t in let i = h.is in let j = h.to_high in omega arith) (λ t. tt)
allows (Offsets m) p x h = tt
allows Any p x h = tt

pub known : (v : Interval) (n : ℕ) (p : Places) → interval_number_of v ≡ Some n → interval_stands v p n
known (Numbers m) n p e = let (one, is) = number_of-tells m n e in record { steps = 0; is = omega arith; to_high = omega arith }
known (Offsets m) n p e = absurd (cc)
known Any n p e = tt

pub alone : (v : Interval) (n : ℕ) (p : Places) (x : ℕ) → interval_number_of v ≡ Some n → interval_stands v p x → x ≡ n
alone (Numbers m) n p x e h = let (one, is) = number_of-tells m n e in let i = h.is in let j = h.to_high in omega arith
alone (Offsets m) n p x e h = absurd (cc)
alone Any n p x e h = absurd (cc)

pub span-number : (l h s n : ℕ) → interval_number_of (span l h s) ≡ Some n → (l ≡ h) × (n ≡ l)
span-number l h s n =
    span-cases (λ v. interval_number_of v ≡ Some n → (l ≡ h) × (n ≡ l)) l h s
    (λ m i j q e. let (one, is) = number_of-tells m n e in (sym i ∙ one ∙ j, sym is ∙ i))
    (λ g e. absurd (cc))

pub span-none : (l h s : ℕ) → (l ≡ h → ⊥) → interval_number_of (span l h s) ≡ None
span-none l h s f =
    span-cases (λ v. interval_number_of v ≡ None) l h s
    (λ m i j q. cond-false (m.low == m.high) (Some m.low) None (ne_eqb m.low m.high (λ e. f (sym i ∙ e ∙ j))))
    (λ g. refl)

pub place_span-none : (r : Region) (l h : ℤ) (s : ℕ) → interval_number_of (place_span r l h s) ≡ None
place_span-none r l h s = place_span-cases (λ v. interval_number_of v ≡ None) r l h s (λ m g i j q. refl) (λ g. refl)

-- ---- the reach

pub reached : (v : Interval) (p : Places) (x : ℕ) → interval_stands v p x → IsReached (interval_reach v) p x
reached (Numbers m) p x h = let i = h.is in (omega arith, h.to_high)
reached (Offsets m) p x h = let i = h.of.is in record { base = h.base; offset = h.offset; has_base = h.has_base; from_low = omega (arith, ints); to_high = h.of.to_high; is = h.is }
reached Any p x h = tt

pub proper : (v : Interval) → IsProper (interval_reach v)
proper (Numbers m) = (number_span-tells m.low m.high m.stride m.formed).ordered
proper (Offsets m) = (offset_span-tells m.low m.high m.stride m.formed).ordered
proper Any = tt

-- ---- other places

pub moved : (v : Interval) (p q : Places) (x : ℕ) → SameWindows p q → KeepsBases (named (interval_reach v)) p q → interval_stands v p x → interval_stands v q x
moved (Numbers m) p q x s k h = h
moved (Offsets m) p q x s k h = record { base = h.base; offset = h.offset; has_base = base_kept p q m.region h.base s k h.has_base; of = h.of; is = h.is }
moved Any p q x s k h = tt

-- ---- names

pub span-named : (l h s : ℕ) → named (interval_reach (span l h s)) ≡ None
span-named l h s = span-cases (λ v. named (interval_reach v) ≡ None) l h s (λ m i j q. refl) (λ g. refl)

pub place_span-named : (r : Region) (l h : ℤ) (s : ℕ) (t : Region) → named (interval_reach (place_span r l h s)) ≡ Some t → block_of r ≡ Some t
place_span-named r l h s t =
    place_span-cases (λ v. named (interval_reach v) ≡ Some t → block_of r ≡ Some t) r l h s
    (λ m g i j q e. ap block_of (sym g) ∙ e)
    (λ g e. absurd (cc))

-- ---- cut to what is at most c

multiple_below : (k s n : ℕ) → k * s ≤ n → k * s ≤ n / s * s
multiple_below k s n e =
    ⊎_elim
    (λ (f : s ≡ 0). let z : k * s ≡ 0 = ap (λ u. k * u) f ∙ omega arith in omega arith)
    (λ (f : s ≡ 0 → ⊥). mul-le k s (n / s) s (le-div k n s (omega arith) e) (omega arith))
    (cases_eq s 0)

pub cut_holds : (v : Interval) (c : ℕ) (p : Places) (x : ℕ) → x ≤ c → interval_stands v p x → interval_stands (interval_up_to v c) p x
cut_holds (Numbers m) c p x l h =
    let i = h.is in
    let j = h.to_high in
    cond_both (nat_le m.low c) (span m.low (greatest_to m c) m.stride) (Numbers m) (λ v. interval_stands v p x)
    (λ t. span-holds p m.low (greatest_to m c) m.stride h.steps x h.is (let b = multiple_below h.steps m.stride (min m.high c - m.low) (omega arith) in omega arith))
    (λ t. h)
cut_holds (Offsets m) c p x l h = h
cut_holds Any c p x l h = span-holds p 0 c 1 x x (omega arith) l

pub cut_named : (v : Interval) (c : ℕ) (s : Region) → named (interval_reach (interval_up_to v c)) ≡ Some s → named (interval_reach v) ≡ Some s
cut_named (Numbers m) c s = cond_both (nat_le m.low c) (span m.low (greatest_to m c) m.stride) (Numbers m) (λ v. named (interval_reach v) ≡ Some s → None ≡ Some s) (λ t e. let n = span-named m.low (greatest_to m c) m.stride in cc) (λ t e. e)
cut_named (Offsets m) c s = λ e. e
cut_named Any c s = λ e. let n = span-named 0 c 1 in absurd (cc)

pub cut_number : (v : Interval) (c n : ℕ) → interval_number_of (interval_up_to v c) ≡ Some n → (interval_number_of v ≡ Some n) ⊎ (n ≤ c)
cut_number (Numbers m) c n =
    cond_both (nat_le m.low c) (span m.low (greatest_to m c) m.stride) (Numbers m) (λ v. interval_number_of v ≡ Some n → (interval_number_of (Numbers m) ≡ Some n) ⊎ (n ≤ c))
    (λ t e. let below = leb-true m.low c t in let (i, j) = span-number m.low (greatest_to m c) m.stride n e in inr (omega arith))
    (λ t e. inl e)
cut_number (Offsets m) c n = λ e. inl e
cut_number Any c n = λ e. let (i, j) = span-number 0 c 1 n e in inr (omega arith)
