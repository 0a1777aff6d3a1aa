-- Bounded values keep every law of a domain.
use Rattle.std.proofs.Common.{◌≡◌, ℕ, ◌<◌, ℤ, pos, ◌-ℤ◌, ◌≤ℤ◌, refl, sym, ap, ◌∙◌, subst, arith, Bool, true, false, ◌&&◌, ◌||◌, Some, None, if◌then◌else◌, ◌⊎◌, inl, inr, ⊎_elim}
use Rattle.std.proofs.lemmas.Int.{ints}
use Rattle.std.specs.Ordering.{int_eq}
use Rattle.std.proofs.lemmas.Bool.Decides.{nat_tests, Decides-int_eq}
use Rattle.std.proofs.lemmas.Grind.{common_steps}
use Rattle.address_regions.specs.declared.region.Region.{Region}
use Rattle.address_regions.specs.declared.region.Region.TheVariants.{Stack, Fs, Gs, Block}
use Rattle.address_regions.specs.Extents.{has_room, is_inside, low_of, high_of, block_of}
use Rattle.address_regions.specs.Places.{Places, HasBase, place_at, SameWindows, KeepsBases}
use Rattle.address_regions.specs.Same.{same_region}
use Rattle.address_regions.proofs.RegionLaws.{same_region-is, same_region-refl, base_kept, inside-tells}
use Rattle.domain_laws.specs.declared.reach.Reach.TheVariants as reaches
use Rattle.domain_laws.specs.Laws.{Values, IsLawful}
use Rattle.domain_laws.specs.Reached.{IsReached, IsProper, named}
use Rattle.domain_laws.specs.RuleLaws.{Allows}
use Rattle.domain_laws.specs.SharedLaws.{shared-stands, shared-names, shared-number}
use Rattle.domain_laws.specs.Rules.{settled}
use Rattle.bounded_values.specs.declared.value.Bounded.{Bounded}
use Rattle.bounded_values.specs.declared.value.Bounded.TheVariants.{Number, Exact, Inside, Any}
use Rattle.bounded_values.specs.Stands.{IsAt, IsWithin, bounded_stands, bounded_inside, bounded_number_of, bounded_reach}
use Rattle.bounded_values.specs.Order.{same_value, is_within, bounded_leq, bounded_rank, bounded_raise}
use Rattle.bounded_values.specs.Rules.{by_places, bounded_eval}
use Rattle.bounded_values.specs.RuleLaws.{by_places-stands, by_places-named, by_places-number}
use Rattle.bounded_values.specs.contracts.value.BoundedPartialEq.TheImpl as equality
use Rattle.std.proofs.lemmas.Bool.{and_parts, and_from}

-- ---- equality

same_exact : (r s : Region) (o q : ℤ) → same_value (Exact r o) (Exact s q) ≡ (same_region r s && int_eq o q)
unfolding same_value same_region
same_exact r s o q = refl

same_inside : (r s : Region) → same_value (Inside r) (Inside s) ≡ same_region r s
unfolding same_value same_region
same_inside r s = refl

either : (s t : Bool) → (s || t) ≡ true → (s ≡ true) ⊎ (t ≡ true)
either true t e = inl refl
either false t e = inr e

second_true : (s t : Bool) → t ≡ true → (s || t) ≡ true
second_true true t e = refl
second_true false t e = e

first_true : (s t : Bool) → s ≡ true → (s || t) ≡ true
first_true true t e = refl
first_true false t e = absurd (cc)

exact-is : (r s : Region) (o q : ℤ) → same_value (Exact r o) (Exact s q) ≡ true → Exact r o ≡ Exact s q
exact-is r s o q e =
    let (f, g) = and_parts (same_region r s) (int_eq o q) (sym (same_exact r s o q) ∙ e) in
    let same = same_region-is r s f in
    let equal : o ≡ q = (Decides-int_eq o q).0 g in
    cc

exact-refl : (r : Region) (o : ℤ) → same_value (Exact r o) (Exact r o) ≡ true
exact-refl r o = same_exact r r o o ∙ and_from (same_region r r) (int_eq o o) (same_region-refl r) ((Decides-int_eq o o).1 refl)

pub same_value-is : (a b : Bounded) → same_value a b ≡ true → a ≡ b
unfolding same_value
same_value-is (Number m) (Number n) e = grind (arith, nat_tests, common_steps)
same_value-is (Exact r o) (Exact s q) e = exact-is r s o q e
same_value-is (Inside r) (Inside s) e = ap Inside (same_region-is r s (sym (same_inside r s) ∙ e))
same_value-is Any Any e = refl
same_value-is a b e = absurd (cc)

pub same_value-refl : (a : Bounded) → same_value a a ≡ true
unfolding same_value
same_value-refl (Number n) = grind (arith, nat_tests, common_steps)
same_value-refl (Exact r o) = exact-refl r o
same_value-refl (Inside r) = same_inside r r ∙ same_region-refl r
same_value-refl Any = refl

-- ---- inside

chosen : (P : Bounded → Type 0) (t : Bool) (v w : Bounded) → (t ≡ true → P v) → P w → P (if t then v else w)
chosen P true v w f g = f refl
chosen P false v w f g = g

-- Inside, where the region has room, and else Any
inside-cases : (P : Bounded → Type 0) (r : Region) → (has_room r ≡ true → P (Inside r)) → P Any → P (bounded_inside r)
inside-cases P r f g = chosen P (has_room r) (Inside r) Any f g

-- a place inside stands for Inside
within-from : (p : Places) (r : Region) (t : Bool) (b : ℕ) (o : ℤ) (x : ℕ) → HasBase p r b → low_of r ≤ℤ o → o ≤ℤ (high_of r -ℤ pos 4) → x ≡ place_at b o → IsWithin t p r x
within-from p r true b o x h l k e = record { base = b; offset = o; has_base = h; from_low = l; to_high = k; is = e }
within-from p r false b o x h l k e = tt

-- ---- numbers and reaches

allows : (v : Bounded) (p : Places) (x : ℕ) → bounded_stands v p x → Allows (bounded_number_of v) x
allows (Number n) p x h = h
allows (Exact r o) p x h = tt
allows (Inside r) p x h = tt
allows Any p x h = tt

known : (v : Bounded) (n : ℕ) (p : Places) → bounded_number_of v ≡ Some n → bounded_stands v p n
known (Number m) n p e = cc
known (Exact r o) n p e = absurd (cc)
known (Inside r) n p e = absurd (cc)
known Any n p e = tt

alone : (v : Bounded) (n : ℕ) (p : Places) (x : ℕ) → bounded_number_of v ≡ Some n → bounded_stands v p x → x ≡ n
alone (Number m) n p x e h = cc
alone (Exact r o) n p x e h = absurd (cc)
alone (Inside r) n p x e h = absurd (cc)
alone Any n p x e h = absurd (cc)

within_reach : (t : Bool) (r : Region) (p : Places) (x : ℕ) → IsWithin t p r x → IsReached (if t then reaches.Place r (low_of r) (high_of r -ℤ pos 4) else reaches.Anywhere) p x
within_reach true r p x h = h
within_reach false r p x h = tt

reached : (v : Bounded) (p : Places) (x : ℕ) → bounded_stands v p x → IsReached (bounded_reach v) p x
reached (Number n) p x h = (omega arith, omega arith)
reached (Exact r o) p x h = record { base = h.base; offset = o; has_base = h.has_base; from_low = omega (arith, ints); to_high = omega (arith, ints); is = h.is }
reached (Inside r) p x h = within_reach (has_room r) r p x h
reached Any p x h = tt

room-proper : (r : Region) → has_room r ≡ true → low_of r ≤ℤ (high_of r -ℤ pos 4)
room-proper Stack e = omega (arith, ints)
room-proper Fs e = omega (arith, ints)
room-proper Gs e = omega (arith, ints)
room-proper (Block site size zeroed) e = grind (arith, ints, nat_tests, common_steps)

inside-proper : (r : Region) (t : Bool) → (t ≡ true → low_of r ≤ℤ (high_of r -ℤ pos 4)) → IsProper (if t then reaches.Place r (low_of r) (high_of r -ℤ pos 4) else reaches.Anywhere)
inside-proper r true f = f refl
inside-proper r false f = tt

proper : (v : Bounded) → IsProper (bounded_reach v)
proper (Number n) = omega arith
proper (Exact r o) = omega (arith, ints)
proper (Inside r) = inside-proper r (has_room r) (room-proper r)
proper Any = tt

-- ---- the order

within-stands : (p : Places) (r : Region) (o : ℤ) (x : ℕ) → is_inside r o ≡ true → IsAt p r o x → bounded_stands (Inside r) p x
within-stands p r o x e h = let (room, low, high) = inside-tells r o e in within-from p r (has_room r) h.base o x h.has_base low high h.is

within : (p : Places) (a b : Bounded) (x : ℕ) → is_within a b ≡ true → bounded_stands a p x → bounded_stands b p x
within p a Any x e h = tt
within p (Exact r o) (Inside s) x e h =
    let (f, g) = and_parts (same_region r s) (is_inside s o) e in
    within-stands p s o x g (subst (λ t. IsAt p t o x) (same_region-is r s f) h)
within p a b x e h = absurd (cc)

below : (a b : Bounded) (p : Places) (x : ℕ) → bounded_leq a b ≡ true → bounded_stands a p x → bounded_stands b p x
below a b p x e h =
    ⊎_elim
    (λ (f : same_value a b ≡ true). subst (λ v. bounded_stands v p x) (same_value-is a b f) h)
    (λ (f : is_within a b ≡ true). within p a b x f h)
    (either (same_value a b) (is_within a b) e)

below-refl : (a : Bounded) → bounded_leq a a ≡ true
below-refl a = first_true (same_value a a) (is_within a a) (same_value-refl a)

within-trans : (a b c : Bounded) → is_within a b ≡ true → is_within b c ≡ true → is_within a c ≡ true
within-trans a b Any e f = refl
within-trans a Any (Inside s) e f = absurd (cc)
within-trans a (Inside r) (Inside s) e f = absurd (cc)
within-trans (Exact r o) (Exact s q) (Inside t) e f = absurd (cc)
within-trans a b c e f = absurd (cc)

below-trans : (a b c : Bounded) → bounded_leq a b ≡ true → bounded_leq b c ≡ true → bounded_leq a c ≡ true
below-trans a b c e f =
    ⊎_elim
    (λ (g : same_value a b ≡ true). subst (λ v. bounded_leq v c ≡ true) (sym (same_value-is a b g)) f)
    (λ (g : is_within a b ≡ true). ⊎_elim
    (λ (h : same_value b c ≡ true). subst (λ v. bounded_leq a v ≡ true) (same_value-is b c h) e)
    (λ (h : is_within b c ≡ true). second_true (same_value a c) (is_within a c) (within-trans a b c g h))
    (either (same_value b c) (is_within b c) f))
    (either (same_value a b) (is_within a b) e)

-- ---- raising

raised : (v : Bounded) → 0 < bounded_rank v → bounded_leq v (bounded_raise v) ≡ true
raised (Number n) h = second_true (same_value (Number n) Any) true refl
raised (Exact r o) h =
    chosen (λ v. bounded_leq (Exact r o) v ≡ true) (is_inside r o) (Inside r) Any
    (λ e. second_true (same_value (Exact r o) (Inside r)) (is_within (Exact r o) (Inside r)) (and_from (same_region r r) (is_inside r o) (same_region-refl r) e))
    (second_true (same_value (Exact r o) Any) true refl)
raised (Inside r) h = second_true (same_value (Inside r) Any) true refl
raised Any h = absurd (omega arith)

lower : (v : Bounded) → 0 < bounded_rank v → bounded_rank (bounded_raise v) < bounded_rank v
lower (Number n) h = omega arith
lower (Exact r o) h = chosen (λ v. bounded_rank v < 2) (is_inside r o) (Inside r) Any (λ e. omega arith) (omega arith)
lower (Inside r) h = omega arith
lower Any h = h

zero_rank : (v : Bounded) (p : Places) (x : ℕ) → bounded_rank v ≡ 0 → bounded_stands v p x
zero_rank (Number n) p x e = absurd (omega arith)
zero_rank (Exact r o) p x e = absurd (omega arith)
zero_rank (Inside r) p x e = absurd (omega arith)
zero_rank Any p x e = tt

-- ---- other places

moved_within : (t : Bool) (p q : Places) (r : Region) (x : ℕ) → SameWindows p q → KeepsBases (named (if t then reaches.Place r (low_of r) (high_of r -ℤ pos 4) else reaches.Anywhere)) p q → IsWithin t p r x → IsWithin t q r x
moved_within true p q r x s k h = record { base = h.base; offset = h.offset; has_base = base_kept p q r h.base s k h.has_base; from_low = h.from_low; to_high = h.to_high; is = h.is }
moved_within false p q r x s k h = tt

moved : (v : Bounded) (p q : Places) (x : ℕ) → SameWindows p q → KeepsBases (named (bounded_reach v)) p q → bounded_stands v p x → bounded_stands v q x
moved (Number n) p q x s k h = h
moved (Exact r o) p q x s k h = record { base = h.base; has_base = base_kept p q r h.base s k h.has_base; is = h.is }
moved (Inside r) p q x s k h = moved_within (has_room r) p q r x s k h
moved Any p q x s k h = tt

-- ---- names

block-is : (r s : Region) → block_of r ≡ Some s → s ≡ r
block-is Stack s e = absurd (cc)
block-is Fs s e = absurd (cc)
block-is Gs s e = absurd (cc)
block-is (Block site size zeroed) s e = cc

inside-named : (t : Bool) (r s : Region) → named (if t then reaches.Place r (low_of r) (high_of r -ℤ pos 4) else reaches.Anywhere) ≡ Some s → block_of r ≡ Some s
inside-named true r s e = e
inside-named false r s e = absurd (cc)

makes_inside : (r s : Region) → named (bounded_reach (bounded_inside r)) ≡ Some s → s ≡ r
makes_inside r s e = inside-cases (λ v. named (bounded_reach v) ≡ Some s → s ≡ r) r (λ f g. block-is r s (inside-named (has_room r) r s g)) (λ g. absurd (cc)) e

raise-named : (v : Bounded) (s : Region) → named (bounded_reach (bounded_raise v)) ≡ Some s → named (bounded_reach v) ≡ Some s
raise-named (Number n) s e = e
raise-named (Exact r o) s e =
    chosen (λ v. named (bounded_reach v) ≡ Some s → block_of r ≡ Some s) (is_inside r o) (Inside r) Any
    (λ f g. inside-named (has_room r) r s g) (λ g. absurd (cc)) e
raise-named (Inside r) s e = absurd (cc)
raise-named Any s e = e

raise-number : (v : Bounded) → bounded_number_of (bounded_raise v) ≡ None
raise-number (Number n) = refl
raise-number (Exact r o) = chosen (λ v. bounded_number_of v ≡ None) (is_inside r o) (Inside r) Any (λ e. refl) refl
raise-number (Inside r) = refl
raise-number Any = refl

abbrev pub bounded : Values Bounded
bounded = record { stands = bounded_stands; number = Number; place = Exact; inside = bounded_inside; any = Any; eval = bounded_eval; number_of = bounded_number_of; reach = bounded_reach; up_to = λ v c. v; leq = bounded_leq; rank = bounded_rank; raise = bounded_raise; eq = equality.ghosts.eq }

pub bounded-lawful : IsLawful bounded
unfolding same_value
bounded-lawful = record {
  number_stands = λ n p v. refl;
  place_stands = λ r o b p v h. record { base = b; has_base = h; is = refl };
  inside_stands = λ r o b p v h l k. inside-cases (λ u. bounded_stands u p (place_at b o)) r (λ e. within-from p r (has_room r) b o (place_at b o) h l k refl) tt;
  any_stands = λ p x v. tt;
  eval_stands = λ op w a b p x y v i j g h. shared-stands Number a b (by_places op w a b p.align) (λ d n. bounded_stands d p n) op w (bounded_number_of a) (bounded_number_of b) x y (λ n. refl) (allows a p x g) (allows b p y h) i j g h (by_places-stands p op w a b x y v i j g h);
  number_of_stands = λ v n p q e. known v n p e;
  number_of_alone = λ v n p x q e h. alone v n p x e h;
  reach_holds = λ v p x q h. reached v p x h;
  reach_proper = proper;
  up_to_stands = λ v c p x q l h. h;
  leq_stands = λ a b p x q e h. below a b p x e h;
  leq_refl = below-refl;
  leq_trans = below-trans;
  eq_is = same_value-is;
  eq_refl = same_value-refl;
  rank_zero = λ v p x q e. zero_rank v p x e;
  raise_leq = raised;
  raise_rank = lower;
  moves = λ v p q x i j s k h. moved v p q x s k h;
  number_names = λ n. refl;
  place_names = λ r o s e. block-is r s e;
  inside_names = makes_inside;
  any_names = refl;
  eval_names = λ op w a b align s e. shared-names Number a b (by_places op w a b align) (λ v. named (bounded_reach v)) (settled op w (bounded_number_of a) (bounded_number_of b)) s (λ n. refl) (by_places-named op w a b align s) e;
  up_to_names = λ v c s e. e;
  raise_names = raise-named;
  eval_number = λ op w a b align n e. shared-number Number a b (by_places op w a b align) bounded_number_of op w n (λ k. refl) (by_places-number op w a b align n) e;
  up_to_number = λ v c n e. inl e;
  raise_number = raise-number;
}
