-- What a write leaves of the facts and of the other parts of a description.
use Rattle.std.proofs.Common.{◌≡◌, ℕ, Bool, true, false, cond, List, [], ◌∷◌, filter, Some, refl, sym, ap, ◌∙◌, subst, arith, ℤ, pos, inl, inr}
use Rattle.std.specs.Prelude.{◌||◌, ◌&&◌, not, int_lt, ◌==◌}
use Rattle.std.specs.List.{list_any}
use Rattle.std.proofs.lemmas.Bool.{false≢true, or_cases, or_left, or_right, or_parts}
use Rattle.std.proofs.lemmas.Int.{ints}
use Rattle.bit_words.specs.declared.width.Width.{Width}
use Rattle.bit_words.specs.Width.{bytes_of}
use Rattle.memory_map.specs.declared.span.Span.{Span}
use Rattle.memory_map.specs.Range.{Range}
use Rattle.address_regions.specs.declared.region.Region.{Region}
use Rattle.address_regions.specs.declared.region.Region.TheVariants.{Stack, Fs, Gs, Block}
use Rattle.address_regions.specs.Places.{Places, place_at}
use Rattle.address_regions.specs.Same.{same_region}
use Rattle.domain_laws.specs.Laws.{Values}
use Rattle.partitioned_memory.specs.declared.area.Area.{Area}
use Rattle.partitioned_memory.specs.declared.area.Area.TheVariants.{Image, In}
use Rattle.partitioned_memory.specs.declared.area.Interval.{Interval}
use Rattle.partitioned_memory.specs.declared.fact.Fact.{Fact}
use Rattle.partitioned_memory.specs.declared.fact.Counted.{Counted}
use Rattle.partitioned_memory.specs.Areas.{block_in, has_byte, interval_at, interval_to, is_marked, is_off}
use Rattle.partitioned_memory.specs.Lists.{Every, placed}
use Rattle.partitioned_memory.specs.Held.{PartsHeld, after_exact, after_inside, after_interval, dirty_after, fact_before, facts_off, facts_with, interval_of_fact, is_counted, is_many, known_byte}
use Rattle.partitioned_memory.specs.Well.{HasCount}
use Rattle.partitioned_memory.specs.Describes.{AreBytes, IsApart, IsDescribed, IsTrueOf, IsWritten, SameInAreas, StartsAt, bytes_in, counts_one, is_byte_of, number_in}
use Rattle.partitioned_memory.proofs.ListLaws.{Every-both, Every-filter, Every-kept, Every-placed}
use Rattle.partitioned_memory.proofs.Orders.{int_lt-true}
use Rattle.partitioned_memory.proofs.Bytes.{IsWrite, byte-from, byte-is, byte-kept, clean-after, first-marked, known-from, known-is, number-kept, off-no_byte}

-- ---- facts

-- a fact none of whose bytes were written is as true as before
pub fact-kept : {D : Type 0} (d : Values D) (ranges : List Range) (p : Places) (a : Area) (base : ℕ) (test : ℤ → Bool) (b c : ℕ → ℕ) (f : Fact D) → IsWrite ranges p a base test b c → AreBytes ranges (interval_of_fact f) → ((o : ℤ) → has_byte (interval_of_fact f) f.area o ≡ true → f.area ≡ a → test o ≡ true → ⊥) → IsTrueOf d p b f → IsTrueOf d p c f
fact-kept d ranges p a base test b c f w bytes differs true_of =
    λ other s.
    let same = number-kept b c other f.low f.w (λ o low high.
    let own : has_byte (interval_of_fact f) f.area o ≡ true = byte-from (interval_of_fact f) f.area o (record { area = refl; low = low; high = high }) in
    byte-kept ranges p a base test b c w f.area other o s (bytes.each o own) (λ same _. differs o own same)) in
    subst (λ (n : ℕ). d.stands f.value p n) (sym same) (true_of other s)

-- facts that a description has
pub record AreTrue {D : Type 0} (d : Values D) (ranges : List Range) (p : Places) (b : ℕ → ℕ) (facts : List (Fact D)) : Type 0 where
  pub true_of : Every (IsTrueOf d p b) facts
  pub within : Every (λ f. AreBytes ranges (interval_of_fact f)) facts

-- the facts that pass a test, where that says that none of their bytes were written
pub facts-kept : {D : Type 0} (d : Values D) (ranges : List Range) (p : Places) (a : Area) (base : ℕ) (test : ℤ → Bool) (b c : ℕ → ℕ) (keep : Fact D → Bool) (facts : List (Fact D)) → IsWrite ranges p a base test b c → ((f : Fact D) → keep f ≡ true → (o : ℤ) → has_byte (interval_of_fact f) f.area o ≡ true → f.area ≡ a → test o ≡ true → ⊥) → AreTrue d ranges p b facts → AreTrue d ranges p c (filter keep facts)
facts-kept d ranges p a base test b c keep facts w differs h =
    let within = Every-filter (λ f. AreBytes ranges (interval_of_fact f)) keep facts h.within in
    let both = Every-both (λ f. keep f ≡ true) (λ f. AreBytes ranges (interval_of_fact f)) (λ f. (keep f ≡ true) × AreBytes ranges (interval_of_fact f)) (filter keep facts) (λ f k l. (k, l)) (Every-kept keep facts) within in
    record {
      true_of = Every-both (λ f. (keep f ≡ true) × AreBytes ranges (interval_of_fact f)) (IsTrueOf d p b) (IsTrueOf d p c) (filter keep facts) (λ f k t. fact-kept d ranges p a base test b c f w k.1 (differs f k.0) t) both (Every-filter (IsTrueOf d p b) keep facts h.true_of);
      within = within;
    }

-- the facts off an interval that is written
pub off-kept : {D : Type 0} (d : Values D) (ranges : List Range) (p : Places) (i : Interval) (base : ℕ) (b c : ℕ → ℕ) (facts : List (Fact D)) → IsWrite ranges p i.area base (bytes_in i) b c → AreTrue d ranges p b facts → AreTrue d ranges p c (facts_off i facts)
off-kept d ranges p i base b c facts w h =
    facts-kept d ranges p i.area base (bytes_in i) b c (λ f. is_off (interval_of_fact f) i) facts w
    (λ f off o own s new. off-no_byte (interval_of_fact f) i i.area o off (subst (λ (k : Area). has_byte (interval_of_fact f) k o ≡ true) s own) new)
    h

-- ---- the base of an area whose region does not count many

here : (s m : Bool) → s ≡ true → (s && m) ≡ false → (s && not m) ≡ true
here true true e f = absurd (false≢true (sym f))
here true false e f = refl
here false m e f = absurd (false≢true e)

not_many-one : (r : Region) (blocks : List Counted) → is_counted r blocks ≡ true → list_any (λ c. same_region c.region r && c.many) blocks ≡ false → counts_one r blocks ≡ true
not_many-one r [] e f = absurd (false≢true e)
not_many-one r (c ∷ cs) e f =
    let parts = or_parts (same_region c.region r && c.many) (list_any (λ k. same_region k.region r && k.many) cs) f in
    elim (or_cases (same_region c.region r) (is_counted r cs) e) [
      | inl x ↦
          let one : (same_region c.region r && not c.many) ≡ true = here (same_region c.region r) c.many x parts.0 in
          or_left (same_region c.region r && not c.many) (counts_one r cs) one
      | inr x ↦ or_right (same_region c.region r && not c.many) (counts_one r cs) (not_many-one r cs x parts.1)
    ]

pub one-base : {D : Type 0} (d : Values D) (ranges : List Range) (unset : List Span) (p : Places) (h : PartsHeld D) (b : ℕ → ℕ) (a : Area) (base other : ℕ) → IsDescribed d ranges unset p h b → HasCount h.blocks (block_in a) → is_many a h.blocks ≡ false → StartsAt p a base → StartsAt p a other → other ≡ base
one-base d ranges unset p h b Image base other w counted many s t = t ∙ sym s
one-base d ranges unset p h b (In Stack) base other w counted many s t = t ∙ sym s
one-base d ranges unset p h b (In Fs) base other w counted many s t = t ∙ sym s
one-base d ranges unset p h b (In Gs) base other w counted many s t = t ∙ sym s
one-base d ranges unset p h b (In (Block site size zeroed)) base other w counted many s t =
    w.single (Block site size zeroed) other base (not_many-one (Block site size zeroed) h.blocks counted many) t s

-- ---- clean bytes

-- bytes that are known after a write of an interval are as they are known
pub clean-kept : {D : Type 0} (d : Values D) (ranges : List Range) (unset : List Span) (p : Places) (h : PartsHeld D) (i : Interval) (base : ℕ) (b c : ℕ → ℕ) → IsWrite ranges p i.area base (bytes_in i) b c → IsDescribed d ranges unset p h b → (a : Area) (other : ℕ) (o : ℤ) (n : ℕ) → StartsAt p a other → is_byte_of ranges a o ≡ true → known_byte ranges unset (dirty_after i h.dirty) a o ≡ Some n → c (place_at other o) ≡ n
clean-kept d ranges unset p h i base b c w x a other o n s e known =
    let k = known-is ranges unset (dirty_after i h.dirty) a o n known in
    let after = clean-after i h.dirty a o k.clean in
    let before = x.clean a other o n s e (known-from ranges unset h.dirty a o n (record { clean = after.before; first = k.first })) in
    let marked = first-marked ranges unset a o n k.first in
    byte-kept ranges p i.area base (bytes_in i) b c w a other o s e (λ same _ new.
    let m : is_marked i.area ≡ true = ap is_marked (sym same) ∙ marked in
    let own : has_byte i a o ≡ true = ap (λ z. has_byte i z o) same ∙ new in
    false≢true (sym (after.unwritten m) ∙ own))
    ∙ before

-- ---- the calls

interval-keeps : {D : Type 0} (d : Values D) (ranges : List Range) (unset : List Span) (p : Places) (h : PartsHeld D) (i : Interval) (base : ℕ) (b c : ℕ → ℕ) → IsWrite ranges p i.area base (bytes_in i) b c → IsDescribed d ranges unset p h b → IsDescribed d ranges unset p (after_interval i h) c
interval-keeps d ranges unset p h i base b c w x =
    let facts = off-kept d ranges p i base b c h.facts w (record { true_of = x.facts; within = x.within }) in
    record { facts = facts.true_of; within = facts.within; clean = clean-kept d ranges unset p h i base b c w x; single = x.single }

-- a fact whose bytes are the same is as true as before
fact-same : {D : Type 0} (d : Values D) (ranges : List Range) (p : Places) (b c : ℕ → ℕ) (f : Fact D) → SameInAreas ranges p b c → AreBytes ranges (interval_of_fact f) → IsTrueOf d p b f → IsTrueOf d p c f
fact-same d ranges p b c f same bytes true_of base s =
    let number = number-kept b c base f.low f.w (λ o low high. same f.area base o s (bytes.each o (byte-from (interval_of_fact f) f.area o (record { area = refl; low = low; high = high })))) in
    subst (λ (n : ℕ). d.stands f.value p n) (sym number) (true_of base s)

-- the parts describe what is the same in all areas
pub beside-keeps : {D : Type 0} (d : Values D) (ranges : List Range) (unset : List Span) (p : Places) (b c : ℕ → ℕ) (h : PartsHeld D) → SameInAreas ranges p b c → IsDescribed d ranges unset p h b → IsDescribed d ranges unset p h c
beside-keeps d ranges unset p b c h same x = record {
  facts = Every-both (λ f. AreBytes ranges (interval_of_fact f)) (IsTrueOf d p b) (IsTrueOf d p c) h.facts (λ f bytes t. fact-same d ranges p b c f same bytes t) x.within x.facts;
  within = x.within;
  clean = λ a base o n s e known. same a base o s e ∙ x.clean a base o n s e known;
  single = x.single;
}

pub inside-keeps : {D : Type 0} (d : Values D) (ranges : List Range) (unset : List Span) (p : Places) (b c : ℕ → ℕ) (h : PartsHeld D) (a : Area) (base : ℕ) (low high : ℤ) → IsApart ranges p → StartsAt p a base → AreBytes ranges (interval_to a low high) → IsWritten base (bytes_in (interval_to a low high)) b c → IsDescribed d ranges unset p h b → IsDescribed d ranges unset p (after_inside a low high h) c
inside-keeps {D} d ranges unset p b c h a base low high apart start bytes written x =
    elim (int_lt high low) as (λ t. int_lt high low ≡ t → (let k : PartsHeld D = cond t h (after_interval (interval_to a low high) h) in IsDescribed d ranges unset p k c)) [
      | true ↦ λ e.
          beside-keeps d ranges unset p b c h (λ k other q s _. written (place_at other q) (λ o in_it same.
          let y = byte-is (interval_to a low high) a o in_it in
          omega (arith, ints, int_lt-true high low e, y.low, y.high))) x
      | false ↦ λ e. interval-keeps d ranges unset p h (interval_to a low high) base b c (record { apart = apart; starts = start; bytes = bytes.each; written = written }) x
    ] refl

pub exact-keeps : {D : Type 0} (d : Values D) (ranges : List Range) (unset : List Span) (p : Places) (b c : ℕ → ℕ) (h : PartsHeld D) (a : Area) (base : ℕ) (low : ℤ) (w : Width) (v : D) → IsApart ranges p → StartsAt p a base → AreBytes ranges (interval_at a low (pos (bytes_of w))) → HasCount h.blocks (block_in a) → IsWritten base (bytes_in (interval_at a low (pos (bytes_of w)))) b c → d.stands v p (number_in c base low w) → IsDescribed d ranges unset p h b → IsDescribed d ranges unset p (after_exact d a low w v h) c
exact-keeps {D} d ranges unset p b c h a base low w v apart start bytes counted written stands x =
    let i = interval_at a low (pos (bytes_of w)) in
    let write : IsWrite ranges p a base (bytes_in i) b c = record { apart = apart; starts = start; bytes = bytes.each; written = written } in
    let f : Fact D = record { area = a; low = low; w = w; value = v } in
    let others = off-kept d ranges p i base b c h.facts write (record { true_of = x.facts; within = x.within }) in
    let facts : AreTrue d ranges p c (facts_with d h.blocks f (facts_off i h.facts)) =
    elim (d.rank v == 0 || is_many a h.blocks) as (λ t. (d.rank v == 0 || is_many a h.blocks) ≡ t → AreTrue d ranges p c (cond t (facts_off i h.facts) (placed fact_before f (facts_off i h.facts)))) [
      | true ↦ λ e. others
      | false ↦ λ e.
          let parts = or_parts (d.rank v == 0) (is_many a h.blocks) e in
          let new : IsTrueOf d p c f = λ other s. subst (λ (z : ℕ). d.stands v p (number_in c z low w)) (sym (one-base d ranges unset p h b a base other x counted parts.1 write.starts s)) stands in
          record {
            true_of = Every-placed (IsTrueOf d p c) fact_before f (facts_off i h.facts) new others.true_of;
            within = Every-placed (λ g. AreBytes ranges (interval_of_fact g)) fact_before f (facts_off i h.facts) bytes others.within;
          }
    ] refl in
    record { facts = facts.true_of; within = facts.within; clean = clean-kept d ranges unset p h i base b c write x; single = x.single }
