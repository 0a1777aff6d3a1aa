-- A widened state covers the one that it was, and is well.
use Rattle.std.proofs.Common.{◌≡◌, ℕ, zero, suc, ◌+◌, ◌<◌, Bool, true, false, cond, List, [], ◌∷◌, map, filter, Option, Some, None, refl, sym, subst, arith, ℤ, ◌+ℤ◌}
use Rattle.std.specs.Prelude.{◌&&◌, ◌||◌, ◌==◌, not, nat_lt, count_by, find, unwrap_or, int_le}
use Rattle.std.specs.List.{list_all, list_any}
use Rattle.std.specs.Ordering.{int_eq}
use Rattle.std.proofs.lemmas.Bool.{or_left, or_right, or_parts, and_from, not-true}
use Rattle.std.proofs.lemmas.Grind.{common_steps}
use Rattle.std.proofs.lemmas.Int.{ints}
use Rattle.bit_words.specs.declared.width.Width.{Width}
use Rattle.bit_words.specs.declared.width.Width.TheVariants.{B32}
use Rattle.bit_words.specs.Width.{bytes_of}
use Rattle.address_regions.specs.declared.region.Region.{Region}
use Rattle.address_regions.proofs.RegionLaws.{same_region-refl}
use Rattle.domain_laws.specs.Laws.{Values, IsLawful}
use Rattle.domain_laws.specs.Reached.{named}
use Rattle.memory_map.specs.declared.registers.Regs.{Regs}
use Rattle.memory_map.specs.Registers.{register, with_register}
use Rattle.partitioned_memory.specs.declared.fact.Counted.{Counted}
use Rattle.partitioned_memory.specs.declared.fact.Dirty.{Dirty}
use Rattle.partitioned_memory.specs.declared.fact.Fact.{Fact}
use Rattle.partitioned_memory.specs.Lists.{Every}
use Rattle.partitioned_memory.specs.Held.{PartsHeld, covers_count, covers_fact, covers_held, counts_below, fact_before, is_below, lies_in, lies_in_one}
use Rattle.partitioned_memory.specs.Well.{HasCount, IsWell, IsWellFact, MayHold}
use Rattle.partitioned_memory.proofs.Holding.{any-holds}
use Rattle.partitioned_memory.proofs.ListLaws.{Ascends-filter, Ascends-map, Every-both, Every-filter, Every-kept, Every-map, Every-weaker}
use Rattle.partitioned_memory.proofs.Orders.{same_area-refl}
use Rattle.abstract_state.specs.declared.flags.Truths.{Truths}
use Rattle.abstract_state.specs.declared.note.Note.{Note}
use Rattle.abstract_state.specs.declared.note.Note.TheVariants as notes
use Rattle.abstract_state.specs.declared.seen.Holder.{Holder}
use Rattle.abstract_state.specs.declared.seen.Holder.TheVariants.{Register}
use Rattle.abstract_state.specs.Flags.{covers_flags}
use Rattle.abstract_state.specs.Notes.{covers_note}
use Rattle.abstract_state.specs.Registers.{covers_registers}
use Rattle.abstract_state.specs.State.{IsWellState, covers_state}
use Rattle.abstract_state.specs.Widening.{holder_of, is_pair, is_rival, raises, stays, widened_fact, widened_facts, widened_registers, widened_state, widened_value}
use Rattle.abstract_state.specs.Laws.{WideningIsSound, WideningKeepsWell}
use Rattle.abstract_state.proofs.Keeping.{each-register}
use Rattle.abstract_state.proofs.Logic.{covers_refl}

flags_refl : (t : Truths) → covers_flags t t ≡ true
flags_refl t =
    and_from _ _ (and_from _ _ (and_from _ _ (and_from _ _ (and_from _ _ (and_from _ _ (covers_refl t.carry) (covers_refl t.parity)) (covers_refl t.adjust)) (covers_refl t.zero)) (covers_refl t.sign)) (covers_refl t.overflow)) (covers_refl t.direction)

pub nat-refl : (a : ℕ) → (a == a) ≡ true
nat-refl a = grind (arith, common_steps)

pub int-refl : (a : ℤ) → int_eq a a ≡ true
int-refl a = grind (arith, ints, common_steps)

le-refl : (a : ℤ) → int_le a a ≡ true
le-refl a = grind (arith, ints, common_steps)

note_refl : (n : Option Note) → covers_note n n ≡ true
note_refl None = refl
note_refl (Some (notes.Register r c)) = and_from _ _ (nat-refl r) (nat-refl c)
note_refl (Some (notes.Word o c)) = and_from _ _ (int-refl o) (nat-refl c)

-- ---- lists in which each element has its own

any-self : {X : Type 0} (q : X → X → Bool) → ((x : X) → q x x ≡ true) → (xs : List X) → Every (λ x. list_any (q x) xs ≡ true) xs
any-self q own [] = tt
any-self q own (x ∷ xs) = (
  or_left (q x x) (list_any (q x) xs) (own x),
  Every-weaker (λ y. list_any (q y) xs ≡ true) (λ y. list_any (q y) (x ∷ xs) ≡ true) xs (λ y h. or_right (q y x) (list_any (q y) xs) h) (any-self q own xs),
)

all-from : {X : Type 0} (p : X → Bool) (xs : List X) → Every (λ x. p x ≡ true) xs → list_all p xs ≡ true
all-from p [] h = refl
all-from p (x ∷ xs) h = and_from (p x) (list_all p xs) h.0 (all-from p xs h.1)

lies-refl : (r : Dirty) → lies_in_one r r ≡ true
lies-refl r = and_from _ _ (same_area-refl r.area) (and_from _ _ (le-refl r.low) (le-refl (r.low +ℤ r.size)))

many-refl : (b : Bool) → (b || not b) ≡ true
many-refl true = refl
many-refl false = refl

counts-refl : (c : Counted) → counts_below c c ≡ true
counts-refl c = and_from _ _ (same_region-refl c.region) (many-refl c.many)

found : {D : Type 0} (P : D → Type 0) (t : D → Bool) (z : D) (xs : List D) → P z → Every P xs → P (unwrap_or (find t xs) z)
found P t z [] p h = p
found P t z (x ∷ xs) p h =
    elim (t x) as (λ b. P (unwrap_or (cond b (Some x) (find t xs)) z)) [ true ↦ h.0 | false ↦ found P t z xs p h.1 ]

none-some : (x : ℕ) (o : Option ℕ) → o ≡ None → o ≡ Some x → ⊥
none-some x o e f = cc

-- what names no other block needs no other count
pub count-named : (blocks : List Counted) (o old : Option Region) → ((s : Region) → o ≡ Some s → old ≡ Some s) → HasCount blocks old → HasCount blocks o
count-named blocks None old f h = tt
count-named blocks (Some s) old f h = subst (HasCount blocks) (f s refl) h

module _ {D : Type 0} (d : Values D) (l : IsLawful d) (k : ℕ) (seen : List (Holder × D)) where
  ranked : (v : D) (a b : Bool) → (d.rank v == 0 || (a || b)) ≡ false → 0 < d.rank v
  ranked v a b e = above (d.rank v) (or_parts (d.rank v == 0) (a || b) e).0
    where
      above : (r : ℕ) → (r == 0) ≡ false → 0 < r
      above zero h = absurd (cc)
      above (suc r) h = omega arith

  -- ---- above

  -- so many turns as the rank and one more reach a value that stays, which is above
  first-above : (times : ℕ) (h : Holder) (u v : D) → d.rank v < times → d.leq u v ≡ true → d.leq u (unwrap_or (find (stays d k seen h) (raises d k seen times v)) d.any) ≡ true
  first-above zero h u v few below = absurd (omega arith)
  first-above (suc times) h u v few below =
      elim (stays d k seen h v) as (λ b. stays d k seen h v ≡ b → d.leq u (unwrap_or (cond b (Some v) (find (stays d k seen h) (raises d k seen times (d.raise v)))) d.any) ≡ true) [
        | true ↦ λ e. below
        | false ↦ λ e.
            let rank : 0 < d.rank v = ranked v (list_any (is_pair d h v) seen) (nat_lt (count_by (is_rival d h (d.rank v)) seen) k) e in
            let less : d.rank (d.raise v) < d.rank v = l.raise_rank v rank in
            first-above times h u (d.raise v) (omega arith) (l.leq_trans u v (d.raise v) below (l.raise_leq v rank))
      ] refl

  pub value-above : (h : Holder) (v : D) → d.leq v (widened_value d k seen h v) ≡ true
  value-above h v = first-above (d.rank v + 1) h v v (omega arith) (l.leq_refl v)

  registers-above : (g : Regs D) → covers_registers d (widened_registers d k seen g) g ≡ true
  unfolding register with_register
  registers-above g =
      and_from _ _ (and_from _ _ (and_from _ _ (and_from _ _ (and_from _ _ (and_from _ _ (and_from _ _ (value-above (Register 0) g.eax) (value-above (Register 1) g.ecx)) (value-above (Register 2) g.edx)) (value-above (Register 3) g.ebx))
      (value-above (Register 4) g.esp)) (value-above (Register 5) g.ebp)) (value-above (Register 6) g.esi)) (value-above (Register 7) g.edi)

  fact-below : (f : Fact D) → is_below d (widened_fact d k seen f) f ≡ true
  fact-below f = and_from _ _ (and_from _ _ (same_area-refl f.area) (and_from _ _ (int-refl f.low) (nat-refl (bytes_of f.w)))) (value-above (holder_of f) f.value)

  facts-covered : (facts : List (Fact D)) → list_all (covers_fact d facts) (widened_facts d k seen facts) ≡ true
  facts-covered facts =
      let own = any-self (λ f g. is_below d (widened_fact d k seen f) g) fact-below facts in
      let each = Every-map (λ f. list_any (is_below d (widened_fact d k seen f)) facts ≡ true) (λ f. covers_fact d facts f ≡ true) (widened_fact d k seen) facts (λ f h. h) own in
      all-from (covers_fact d facts) (widened_facts d k seen facts) (Every-filter (λ f. covers_fact d facts f ≡ true) (λ f. not (d.rank f.value == 0)) (map (widened_fact d k seen) facts) each)

  parts-covered : (h : PartsHeld D) → covers_held d (record h { facts = widened_facts d k seen h.facts }) h ≡ true
  parts-covered h =
      and_from _ _ (facts-covered h.facts) (and_from _ _ (all-from (lies_in h.dirty) h.dirty (any-self lies_in_one lies-refl h.dirty)) (all-from (covers_count h.blocks) h.blocks (any-self counts_below counts-refl h.blocks)))

  -- ---- well

  raise-holds : (blocks : List Counted) (w : Width) (v : D) → MayHold d blocks w v → MayHold d blocks w (d.raise v)
  raise-holds blocks w v h = record {
    fits = λ n e. absurd (none-some n (d.number_of (d.raise v)) (l.raise_number v) e);
    counted = count-named blocks (named (d.reach (d.raise v))) (named (d.reach v)) (l.raise_names v) h.counted;
  }

  raises-hold : (blocks : List Counted) (w : Width) (times : ℕ) (v : D) → MayHold d blocks w v → Every (MayHold d blocks w) (raises d k seen times v)
  raises-hold blocks w zero v h = tt
  raises-hold blocks w (suc times) v h = (h, raises-hold blocks w times (d.raise v) (raise-holds blocks w v h))

  pub widened-holds : (blocks : List Counted) (w : Width) (h : Holder) (v : D) → MayHold d blocks w v → MayHold d blocks w (widened_value d k seen h v)
  widened-holds blocks w h v holds =
      found (MayHold d blocks w) (stays d k seen h) d.any (raises d k seen (d.rank v + 1) v) (any-holds d l blocks w) (raises-hold blocks w (d.rank v + 1) v holds)

  fact-well : (blocks : List Counted) (f : Fact D) → IsWellFact d blocks f → (d.rank (widened_fact d k seen f).value == 0) ≡ false → IsWellFact d blocks (widened_fact d k seen f)
  fact-well blocks f h rank = record {
    inside = h.inside;
    counted = h.counted;
    ranked = rank;
    holds = widened-holds blocks f.w (holder_of f) f.value h.holds;
  }

  facts-well : (blocks : List Counted) (facts : List (Fact D)) → Every (IsWellFact d blocks) facts → Every (IsWellFact d blocks) (widened_facts d k seen facts)
  facts-well blocks facts h =
      let keep = λ (f : Fact D). not (d.rank f.value == 0) in
      let raised = map (widened_fact d k seen) facts in
      let WellIf : Fact D → Type 0 = λ f. (d.rank f.value == 0) ≡ false → IsWellFact d blocks f in
      Every-both (λ f. keep f ≡ true) WellIf (IsWellFact d blocks) (filter keep raised) (λ f q r. r (not-true (d.rank f.value == 0) q)) (Every-kept keep raised)
      (Every-filter WellIf keep raised (Every-map (IsWellFact d blocks) WellIf (widened_fact d k seen) facts (λ f q. fact-well blocks f q) h))

  pub parts-well : (h : PartsHeld D) → IsWell d h → IsWell d (record h { facts = widened_facts d k seen h.facts })
  parts-well h w = record {
    facts_ascend = Ascends-filter fact_before (λ f. not (d.rank f.value == 0)) (map (widened_fact d k seen) h.facts) (Ascends-map fact_before (widened_fact d k seen) h.facts (λ f g e. e) w.facts_ascend);
    facts = facts-well h.blocks h.facts w.facts;
    dirty_ascends = w.dirty_ascends;
    dirty = w.dirty;
    blocks_ascend = w.blocks_ascend;
    blocks = w.blocks;
  }

  pub registers-well : (blocks : List Counted) (g : Regs D) → ((r : ℕ) → MayHold d blocks B32 (register g r)) → (r : ℕ) → MayHold d blocks B32 (register (widened_registers d k seen g) r)
  unfolding register with_register
  registers-well blocks g h =
      let each = λ (i : ℕ) (v : D) (q : MayHold d blocks B32 v). widened-holds blocks B32 (Register i) v q in
      each-register (MayHold d blocks B32) (widened_registers d k seen g) (each 0 g.eax (h 0)) (each 1 g.ecx (h 1)) (each 2 g.edx (h 2)) (each 3 g.ebx (h 3)) (each 4 g.esp (h 4)) (each 5 g.ebp (h 5)) (each 6 g.esi (h 6)) (each 7 g.edi (h 7))

module _ {D : Type 0} (d : Values D) (l : IsLawful d) where
  pub widening-is_sound : WideningIsSound d
  unfolding covers_state widened_state
  widening-is_sound k seen s well = and_from _ _ (registers-above d l k seen s.regs) (and_from _ _ (flags_refl s.flags) (and_from _ _ (note_refl s.note) (parts-covered d l k seen s.parts)))

  pub widening-keeps_well : WideningKeepsWell d
  unfolding widened_state
  widening-keeps_well k seen s well = record {
    parts = parts-well d l k seen s.parts well.parts;
    registers = registers-well d l k seen s.parts.blocks s.regs well.registers;
    small = well.small;
    note = well.note;
  }

  -- by the fields
  pub widened-fields : (k : ℕ) (seen : List (Holder × D)) (g new : Regs D) (t : Truths) (n : Option Note) (h parts : PartsHeld D) → new ≡ widened_registers d k seen g → parts ≡ record h { facts = widened_facts d k seen h.facts } → IsWellState d (record { regs = g; flags = t; note = n; parts = h }) → IsWellState d (record { regs = new; flags = t; note = n; parts = parts })
  widened-fields k seen g new t n h parts e f w =
      subst (λ (x : Regs D). IsWellState d (record { regs = x; flags = t; note = n; parts = parts })) (sym e)
      (subst (λ (x : PartsHeld D). IsWellState d (record { regs = widened_registers d k seen g; flags = t; note = n; parts = x })) (sym f)
      (record { parts = parts-well d l k seen h w.parts; registers = registers-well d l k seen h.blocks g w.registers; small = w.small; note = w.note }))
