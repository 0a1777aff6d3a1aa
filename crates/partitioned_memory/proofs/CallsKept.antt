-- Forgetting, reading and covering, against a description.
use Rattle.std.proofs.Common.{◌≡◌, ℕ, ◌+◌, ◌*◌, Bool, true, false, cond, List, [], ◌∷◌, Option, Some, None, refl, sym, ap, ◌∙◌, subst, arith, ℤ, pos, ◌+ℤ◌, ◌≤ℤ◌, ◌<ℤ◌, inl, inr}
use Rattle.std.specs.Prelude.{◌||◌, ◌&&◌, not, int_le, int_lt, ◌==◌, find}
use Rattle.std.specs.List.{list_any, list_all}
use Rattle.std.specs.Option.{option_map}
use Rattle.std.specs.Ordering.{int_eq}
use Rattle.std.proofs.lemmas.Bool.{false≢true, and_parts, and_from, or_cases, or_left, or_right, false_from_ne_true, not-true}
use Rattle.std.proofs.lemmas.Int.{ints}
use Rattle.bit_words.specs.declared.width.Width.{Width}
use Rattle.bit_words.specs.declared.width.Width.TheVariants.{B8, B16, B32}
use Rattle.bit_words.specs.Width.{bytes_of}
use Rattle.memory_map.specs.declared.span.Span.{Span}
use Rattle.memory_map.specs.Range.{Range}
use Rattle.address_regions.specs.declared.region.Region.{Region}
use Rattle.address_regions.specs.declared.region.Region.TheVariants.{Stack}
use Rattle.address_regions.specs.Extents.{is_in_extent}
use Rattle.address_regions.specs.Places.{Places, IsValid, place_at}
use Rattle.address_regions.specs.Same.{same_region}
use Rattle.address_regions.proofs.RegionLaws.{same_region-is}
use Rattle.domain_laws.specs.Laws.{IsLawful, Values}
use Rattle.partitioned_memory.specs.declared.area.Area.{Area}
use Rattle.partitioned_memory.specs.declared.area.Area.TheVariants.{In}
use Rattle.partitioned_memory.specs.declared.fact.Fact.{Fact}
use Rattle.partitioned_memory.specs.declared.fact.Dirty.{Dirty}
use Rattle.partitioned_memory.specs.declared.fact.Counted.{Counted}
use Rattle.partitioned_memory.specs.Areas.{has_byte, interval_at, is_marked, same_area}
use Rattle.partitioned_memory.specs.Lists.{Every}
use Rattle.partitioned_memory.specs.Held.{PartsHeld, after_forgetting, counts_below, covers_count, covers_fact, covers_held, found, interval_of_dirty, interval_of_fact, is_at, is_below, is_dirty, is_stack_below, low_with_high, known_byte, known_half, known_number, lies_in, lies_in_one, read_of, value_read}
use Rattle.partitioned_memory.specs.Describes.{AreBytes, IsApart, IsDescribed, IsTrueOf, IsWritten, StartsAt, counts_one, half_in, is_byte_of, number_in, stack_bytes_below}
use Rattle.partitioned_memory.proofs.ListLaws.{Every-both, Every-weaker}
use Rattle.partitioned_memory.proofs.Orders.{int_le-true, int_lt-false, int_lt-true, same_area-is, same_area-refl, int_eq-true}
use Rattle.partitioned_memory.proofs.Kept.{same_width}
use Rattle.partitioned_memory.proofs.Bytes.{IsWrite, byte-from, byte-is, byte-kept, first-marked, known-from, known-is}
use Rattle.partitioned_memory.proofs.FactsKept.{AreTrue, facts-kept}

-- ---- forgetting

pub forget-keeps : {D : Type 0} (d : Values D) (ranges : List Range) (unset : List Span) (p : Places) (b c : ℕ → ℕ) (h : PartsHeld D) (high : ℤ) → IsApart ranges p → IsWritten p.stack (stack_bytes_below high) b c → IsDescribed d ranges unset p h b → IsDescribed d ranges unset p (after_forgetting high h) c
forget-keeps {D} d ranges unset p b c h high apart written x =
    let w : IsWrite ranges p (In Stack) p.stack (stack_bytes_below high) b c = record {
      apart = apart;
      starts = refl;
      bytes = λ o e. (and_parts (is_in_extent Stack o) (int_lt o high) e).0;
      written = written;
    } in
    let facts = facts-kept d ranges p (In Stack) p.stack (stack_bytes_below high) b c (λ f. not (is_stack_below high f)) h.facts w
    (λ (f : Fact D) keep o own same new.
    let below = (and_parts (is_in_extent Stack o) (int_lt o high) new).1 in
    let kept = not-true (is_stack_below high f) keep in
    let stack : same_area f.area (In Stack) ≡ true = ap (λ k. same_area k (In Stack)) same ∙ same_area-refl (In Stack) in
    let above : int_lt f.low high ≡ false = ap (λ t. t && int_lt f.low high) (sym stack) ∙ kept in
    omega (arith, ints, int_lt-false f.low high above, int_lt-true o high below, (byte-is (interval_of_fact f) f.area o own).low))
    (record { true_of = x.facts; within = x.within }) in
    record {
      facts = facts.true_of;
      within = facts.within;
      clean = λ a other o n s e known.
          let k = known-is ranges unset h.dirty a o n known in
          let marked = first-marked ranges unset a o n k.first in
          byte-kept ranges p (In Stack) p.stack (stack_bytes_below high) b c w a other o s e (λ same _ new. false≢true (ap is_marked (sym same) ∙ marked))
          ∙ x.clean a other o n s e known;
      single = x.single;
    }

-- ---- reading

-- a fact is that of a spot and a width
pub record IsOfSpot {D : Type 0} (a : Area) (low : ℤ) (w : Width) (f : Fact D) : Type 0 where
  pub area : f.area ≡ a
  pub low_is : f.low ≡ low
  pub width : f.w ≡ w

pub spot-is : {D : Type 0} (a : Area) (low : ℤ) (w : Width) (f : Fact D) → is_at a low w f ≡ true → IsOfSpot a low w f
spot-is a low w f e =
    let x = and_parts (same_area f.area a) (int_eq f.low low && (bytes_of f.w == bytes_of w)) e in
    let y = and_parts (int_eq f.low low) (bytes_of f.w == bytes_of w) x.1 in
    record { area = same_area-is f.area a x.0; low_is = int_eq-true f.low low y.0; width = same_width f.w w y.1 }

-- the value that is found is a fact's of that spot
pub record IsFound {D : Type 0} (P : Fact D → Type 0) (a : Area) (low : ℤ) (w : Width) (v : D) : Type 0 where
  pub fact : Fact D
  pub holds : P fact
  pub at : is_at a low w fact ≡ true
  pub value : fact.value ≡ v

found-is : {D : Type 0} (P : Fact D → Type 0) (a : Area) (low : ℤ) (w : Width) (facts : List (Fact D)) (v : D) → found a low w facts ≡ Some v → Every P facts → IsFound P a low w v
found-is P a low w [] v e h = absurd (cc)
found-is P a low w (f ∷ fs) v e h =
    elim (is_at a low w f) as (λ t. is_at a low w f ≡ t → option_map (λ g. g.value) (cond t (Some f) (find (is_at a low w) fs)) ≡ Some v → IsFound P a low w v) [
      | true ↦ λ k q. record { fact = f; holds = h.0; at = k; value = cc }
      | false ↦ λ k q. found-is P a low w fs v q h.1
    ] refl e

-- a fact of the spot says what number is there
stands-at : {D : Type 0} (d : Values D) (p : Places) (b : ℕ → ℕ) (a : Area) (base : ℕ) (low : ℤ) (w : Width) (f : Fact D) → IsOfSpot a low w f → StartsAt p a base → IsTrueOf d p b f → d.stands f.value p (number_in b base low w)
stands-at d p b a base low w f s start t =
    let first = t base (subst (λ (k : Area). StartsAt p k base) (sym s.area) start) in
    let second = subst (λ (z : ℤ). d.stands f.value p (number_in b base z f.w)) s.low_is first in
    subst (λ (k : Width). d.stands f.value p (number_in b base low k)) s.width second

record IsJoined (n : ℕ) (x y : Option ℕ) (m : ℕ) : Type 0 where
  pub low : ℕ
  pub high : ℕ
  pub low_is : x ≡ Some low
  pub high_is : y ≡ Some high
  pub sum : low + n * high ≡ m

low_with_high-is : (n : ℕ) (x y : Option ℕ) (m : ℕ) → low_with_high n x y ≡ Some m → IsJoined n x y m
low_with_high-is n (Some l) (Some h) m e = record { low = l; high = h; low_is = refl; high_is = refl; sum = cc }
low_with_high-is n (Some l) None m e = absurd (cc)
low_with_high-is n None y m e = absurd (cc)

Tells : (ℤ → Option ℕ) → (ℕ → ℕ) → ℕ → ℤ → ℤ → Type 0
Tells look b base low end = (o : ℤ) (m : ℕ) → low ≤ℤ o → o <ℤ end → look o ≡ Some m → b (place_at base o) ≡ m

half-known : (look : ℤ → Option ℕ) (b : ℕ → ℕ) (base : ℕ) (low end o : ℤ) (n : ℕ) → Tells look b base low end → low ≤ℤ o → (o +ℤ pos 1) <ℤ end → known_half look o ≡ Some n → half_in b base o ≡ n
unfolding Tells
half-known look b base low end o n tells above below e =
    let j = low_with_high-is 256 (look o) (look (o +ℤ pos 1)) n e in
    let first = tells o j.low above (omega (arith, ints)) j.low_is in
    let second = tells (o +ℤ pos 1) j.high (omega (arith, ints)) below j.high_is in
    ap (λ k. k + 256 * b (place_at base (o +ℤ pos 1))) first ∙ ap (λ k. j.low + 256 * k) second ∙ j.sum

number-known : (look : ℤ → Option ℕ) (b : ℕ → ℕ) (base : ℕ) (low : ℤ) (w : Width) (n : ℕ) → Tells look b base low (low +ℤ pos (bytes_of w)) → known_number look low w ≡ Some n → number_in b base low w ≡ n
unfolding Tells
number-known look b base low B8 n tells e = tells low n (omega (arith, ints)) (omega (arith, ints)) e
number-known look b base low B16 n tells e = half-known look b base low (low +ℤ pos 2) low n tells (omega (arith, ints)) (omega (arith, ints)) e
number-known look b base low B32 n tells e =
    let j = low_with_high-is 65536 (known_half look low) (known_half look (low +ℤ pos 2)) n e in
    let first = half-known look b base low (low +ℤ pos 4) low j.low tells (omega (arith, ints)) (omega (arith, ints)) j.low_is in
    let second = half-known look b base low (low +ℤ pos 4) (low +ℤ pos 2) j.high tells (omega (arith, ints)) (omega (arith, ints)) j.high_is in
    ap (λ k. k + 65536 * half_in b base (low +ℤ pos 2)) first ∙ ap (λ k. j.low + 65536 * k) second ∙ j.sum

-- an interval's bytes from its low end on
interval-bytes : (ranges : List Range) (a : Area) (low size o : ℤ) → AreBytes ranges (interval_at a low size) → low ≤ℤ o → o <ℤ (low +ℤ size) → is_byte_of ranges a o ≡ true
interval-bytes ranges a low size o h above below = h.each o (byte-from (interval_at a low size) a o (record { area = refl; low = above; high = below }))

pub read-stands : {D : Type 0} (d : Values D) (laws : IsLawful d) (ranges : List Range) (unset : List Span) (p : Places) (b : ℕ → ℕ) (h : PartsHeld D) (a : Area) (base : ℕ) (low : ℤ) (w : Width) → IsValid p → StartsAt p a base → AreBytes ranges (interval_at a low (pos (bytes_of w))) → IsDescribed d ranges unset p h b → d.stands (read_of d ranges unset a low w h) p (number_in b base low w)
unfolding Tells
read-stands {D} d laws ranges unset p b h a base low w valid start bytes x =
    let known = known_number (known_byte ranges unset h.dirty a) low w in
    elim (found a low w h.facts) as (λ o. found a low w h.facts ≡ o → d.stands (value_read d o known) p (number_in b base low w)) [
      | Some v ↦ λ e.
          let f = found-is (IsTrueOf d p b) a low w h.facts v e x.facts in
          subst (λ (z : D). d.stands z p (number_in b base low w)) f.value (stands-at d p b a base low w f.fact (spot-is a low w f.fact f.at) start f.holds)
      | None ↦ λ e.
          elim known as (λ o. known ≡ o → d.stands (value_read d None o) p (number_in b base low w)) [
            | Some n ↦ λ k.
                let same : number_in b base low w ≡ n = number-known (known_byte ranges unset h.dirty a) b base low w n (λ o m above below q. x.clean a base o m start (interval-bytes ranges a low (pos (bytes_of w)) o bytes above below) q) k in
                subst (λ (z : ℕ). d.stands (d.number n) p z) (sym same) (laws.number_stands n p valid)
            | None ↦ λ k. laws.any_stands p (number_in b base low w) valid
          ] refl
    ] refl

-- ---- covering

pub pick : {X : Type 0} (P : X → Type 0) (G : Type 0) (t : X → Bool) (xs : List X) → list_any t xs ≡ true → Every P xs → ((x : X) → P x → t x ≡ true → G) → G
pick P G t [] e h f = absurd (false≢true e)
pick P G t (x ∷ xs) e h f =
    elim (or_cases (t x) (list_any t xs) e) [ inl k ↦ f x h.0 k | inr k ↦ pick P G t xs k h.1 f ]

pub all-every : {X : Type 0} (t : X → Bool) (xs : List X) → list_all t xs ≡ true → Every (λ x. t x ≡ true) xs
all-every t [] e = tt
all-every t (x ∷ xs) e = let k = and_parts (t x) (list_all t xs) e in (k.0, all-every t xs k.1)

-- an element that passes is one that some element is
pub every-any : {X : Type 0} (t : X → Bool) (xs : List X) → Every (λ x. t x ≡ true → list_any t xs ≡ true) xs
every-any t [] = tt
every-any t (x ∷ xs) =
    (λ e. or_left (t x) (list_any t xs) e, Every-weaker (λ y. t y ≡ true → list_any t xs ≡ true) (λ y. t y ≡ true → list_any t (x ∷ xs) ≡ true) xs (λ y f e. or_right (t x) (list_any t xs) (f e)) (every-any t xs))

-- a dirty byte of ranges that lie in others is dirty there
dirty-lies : (rs qs : List Dirty) (a : Area) (o : ℤ) → list_all (lies_in qs) rs ≡ true → is_dirty a o rs ≡ true → is_dirty a o qs ≡ true
dirty-lies rs qs a o all e =
    pick (λ r. lies_in qs r ≡ true) (is_dirty a o qs ≡ true) (λ r. has_byte (interval_of_dirty r) a o) rs e (all-every (lies_in qs) rs all) (λ r lies own.
    pick (λ q. has_byte (interval_of_dirty q) a o ≡ true → is_dirty a o qs ≡ true) (is_dirty a o qs ≡ true) (lies_in_one r) qs lies (every-any (λ q. has_byte (interval_of_dirty q) a o) qs) (λ q found_in in_one.
    let x = and_parts (same_area q.area r.area) (int_le q.low r.low && int_le (r.low +ℤ r.size) (q.low +ℤ q.size)) in_one in
    let y = and_parts (int_le q.low r.low) (int_le (r.low +ℤ r.size) (q.low +ℤ q.size)) x.1 in
    let b = byte-is (interval_of_dirty r) a o own in
    found_in (byte-from (interval_of_dirty q) a o (record {
      area = same_area-is q.area r.area x.0 ∙ b.area;
      low = omega (arith, ints, int_le-true q.low r.low y.0, b.low);
      high = omega (arith, ints, int_le-true (r.low +ℤ r.size) (q.low +ℤ q.size) y.1, b.high);
    }))))

one-below : (r : Region) (c e : Counted) → (same_region c.region r && not c.many) ≡ true → counts_below c e ≡ true → (same_region e.region r && not e.many) ≡ true
one-below r c e x y =
    let p = and_parts (same_region c.region r) (not c.many) x in
    let q = and_parts (same_region e.region c.region) (c.many || not e.many) y in
    let few : not e.many ≡ true = ap (λ t. t || not e.many) (sym (not-true c.many p.1)) ∙ q.1 in
    let same : same_region e.region r ≡ true = ap (λ k. same_region k r) (same_region-is e.region c.region q.0) ∙ p.0 in
    and_from (same_region e.region r) (not e.many) same few

covers-fact : {D : Type 0} (d : Values D) (laws : IsLawful d) (ranges : List Range) (p : Places) (b : ℕ → ℕ) (valid : IsValid p) (facts : List (Fact D)) (f : Fact D) → AreTrue d ranges p b facts → covers_fact d facts f ≡ true → IsTrueOf d p b f × AreBytes ranges (interval_of_fact f)
covers-fact d laws ranges p b valid facts f h e =
    let both = Every-both (IsTrueOf d p b) (λ g. AreBytes ranges (interval_of_fact g)) (λ g. IsTrueOf d p b g × AreBytes ranges (interval_of_fact g)) facts (λ g k l. (k, l)) h.true_of h.within in
    pick (λ g. IsTrueOf d p b g × AreBytes ranges (interval_of_fact g)) (IsTrueOf d p b f × AreBytes ranges (interval_of_fact f)) (is_below d f) facts e both (λ g k t.
    let parts = and_parts (is_at f.area f.low f.w g) (d.leq g.value f.value) t in
    let spot = spot-is f.area f.low f.w g parts.0 in
    let same : interval_of_fact g ≡ interval_of_fact f =
    ap (λ z. interval_at z g.low (pos (bytes_of g.w))) spot.area ∙ ap (λ z. interval_at f.area z (pos (bytes_of g.w))) spot.low_is ∙ ap (λ z. interval_at f.area f.low (pos (bytes_of z))) spot.width in (
      λ base s. laws.leq_stands g.value f.value p (number_in b base f.low f.w) valid parts.1 (stands-at d p b f.area base f.low f.w g spot s k.0),
      subst (AreBytes ranges) same k.1,
    ))

pub covers-describes : {D : Type 0} (d : Values D) (laws : IsLawful d) (ranges : List Range) (unset : List Span) (p : Places) (b : ℕ → ℕ) (t s : PartsHeld D) → IsValid p → covers_held d t s ≡ true → IsDescribed d ranges unset p s b → IsDescribed d ranges unset p t b
covers-describes d laws ranges unset p b t s valid e x =
    let first = and_parts (list_all (covers_fact d s.facts) t.facts) (list_all (lies_in t.dirty) s.dirty && list_all (covers_count s.blocks) t.blocks) e in
    let second = and_parts (list_all (lies_in t.dirty) s.dirty) (list_all (covers_count s.blocks) t.blocks) first.1 in
    let below = all-every (covers_fact d s.facts) t.facts first.0 in
    let truth : AreTrue d ranges p b s.facts = record { true_of = x.facts; within = x.within } in
    record {
      facts = Every-weaker (λ f. covers_fact d s.facts f ≡ true) (IsTrueOf d p b) t.facts (λ f k. (covers-fact d laws ranges p b valid s.facts f truth k).0) below;
      within = Every-weaker (λ f. covers_fact d s.facts f ≡ true) (λ f. AreBytes ranges (interval_of_fact f)) t.facts (λ f k. (covers-fact d laws ranges p b valid s.facts f truth k).1) below;
      clean = λ a base o n start byte known.
          let k = known-is ranges unset t.dirty a o n known in
          let clean = false_from_ne_true (is_dirty a o s.dirty) (λ q. false≢true (sym k.clean ∙ dirty-lies s.dirty t.dirty a o second.0 q)) in
          x.clean a base o n start byte (known-from ranges unset s.dirty a o n (record { clean = clean; first = k.first }));
      single = λ r base other one h k.
          x.single r base other
          (pick (λ c. covers_count s.blocks c ≡ true) (counts_one r s.blocks ≡ true) (λ c. same_region c.region r && not c.many) t.blocks one (all-every (covers_count s.blocks) t.blocks second.1) (λ c below_c own.
          pick (λ q. (same_region q.region r && not q.many) ≡ true → counts_one r s.blocks ≡ true) (counts_one r s.blocks ≡ true) (counts_below c) s.blocks below_c (every-any (λ q. same_region q.region r && not q.many) s.blocks) (λ q f g. f (one-below r c q own g))))
          h k;
    }
