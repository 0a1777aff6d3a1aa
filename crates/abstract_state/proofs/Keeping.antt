-- Each change keeps what is always so of a state.
use Rattle.std.proofs.Common.{◌≡◌, ℕ, Bool, true, false, cond, not, List, map, Option, Some, None, refl, sym, subst, arith, ℤ, pos, ◌+ℤ◌, ◌≤ℤ◌, ◌<ℤ◌}
use Rattle.std.specs.Prelude.{◌==◌, ◌^◌, int_le, int_lt, neg_ℤ}
use Rattle.std.proofs.lemmas.Bool.{and_parts}
use Rattle.std.specs.Option.{ForSome}
use Rattle.std.proofs.lemmas.Int.{ints}
use Rattle.bit_words.specs.declared.width.Width.{Width}
use Rattle.bit_words.specs.declared.width.Width.TheVariants.{B8, B16, B32}
use Rattle.bit_words.specs.Width.{bytes_of}
use Rattle.address_regions.specs.declared.region.Region.{Region}
use Rattle.address_regions.specs.Extents.{extent_of, has_one_base, high_of, low_of}
use Rattle.address_regions.specs.Same.{same_region}
use Rattle.domain_laws.specs.Laws.{Values}
use Rattle.domain_laws.specs.Reached.{named}
use Rattle.memory_map.specs.declared.registers.Regs.{Regs}
use Rattle.memory_map.specs.Registers.{register, with_register}
use Rattle.partitioned_memory.specs.declared.area.Area.{Area}
use Rattle.partitioned_memory.specs.declared.area.Area.TheVariants.{In}
use Rattle.partitioned_memory.specs.declared.fact.Counted.{Counted}
use Rattle.partitioned_memory.specs.Areas.{IsInside, block_in, interval_at, interval_between, interval_to}
use Rattle.partitioned_memory.specs.Held.{PartsHeld, after_block, after_exact, after_forgetting, after_inside, after_interval, count_before, counted_again, counted_more, is_counted, is_stack_below, one_block}
use Rattle.partitioned_memory.specs.Lists.{Every, placed}
use Rattle.partitioned_memory.specs.Well.{HasCount, IsWell, MayHold}
use Rattle.partitioned_memory.proofs.ListLaws.{Every-map, Every-placed}
use Rattle.partitioned_memory.proofs.Kept.{HasCount-more, block-kept, exact-kept, filtered-kept, inside-kept}
use Rattle.partitioned_memory.proofs.Orders.{int_le-true, int_lt-false}
use Rattle.abstract_state.specs.Accessing.{lies_in_extent}
use Rattle.abstract_state.specs.declared.flags.Truths.{Truths}
use Rattle.abstract_state.specs.declared.note.Note.{Note}
use Rattle.abstract_state.specs.Notes.{IsWellNote, note_unless}
use Rattle.abstract_state.specs.State.{AreSmall, IsSmall, IsWellState, Known}

-- ---- the registers

either : {D : Type 0} (P : D → Type 0) (b : Bool) (v u : D) → P v → P u → P (cond b v u)
either P true v u p q = p
either P false v u p q = q

-- what holds of each register's value holds of that of any number
pub each-register : {D : Type 0} (P : D → Type 0) (g : Regs D) → P g.eax → P g.ecx → P g.edx → P g.ebx → P g.esp → P g.ebp → P g.esi → P g.edi → (r : ℕ) → P (register g r)
unfolding register
each-register P g a c x b s p i e r =
    either P (r == 0) _ _ a (either P (r == 1) _ _ c (either P (r == 2) _ _ x (either P (r == 3) _ _ b (either P (r == 4) _ _ s (either P (r == 5) _ _ p (either P (r == 6) _ _ i e))))))

pub with_register-each : {D : Type 0} (P : D → Type 0) (g : Regs D) (r : ℕ) (v : D) → P v → ((q : ℕ) → P (register g q)) → (q : ℕ) → P (register (with_register g r v) q)
unfolding register with_register
with_register-each P g r v new old =
    each-register P (with_register g r v) (either P (r == 0) _ _ new (old 0)) (either P (r == 1) _ _ new (old 1)) (either P (r == 2) _ _ new (old 2)) (either P (r == 3) _ _ new (old 3)) (either P (r == 4) _ _ new (old 4)) (either P (r == 5) _ _ new (old 5)) (either P (r == 6) _ _ new (old 6)) (either P (r == 7) _ _ new (old 7))

-- ---- the note

pub no-note : ForSome None IsWellNote
no-note x e = absurd (cc)

pub note-kept : (test : Note → Bool) (n : Option Note) → ForSome n IsWellNote → ForSome (note_unless test n) IsWellNote
note-kept test None h = no-note
note-kept test (Some n) h =
    elim (test n) as (λ b. ForSome (cond b None (Some n)) IsWellNote) [ true ↦ no-note | false ↦ h ]

-- ---- the parts

low-first : (low high : ℤ) → int_lt high low ≡ false → low <ℤ (high +ℤ pos 1)
low-first low high e = let le : low ≤ℤ high = int_lt-false high low e in omega (arith, ints)

-- a further block of a region whose size is a word
small-more : (r : Region) (blocks : List Counted) → IsSmall r → AreSmall blocks → AreSmall (counted_more r blocks)
small-more r blocks own small =
    let P : Counted → Type 0 = λ c. IsSmall c.region in
    elim (is_counted r blocks) as (λ b. Every P (cond b (map (counted_again r) blocks) (placed count_before (one_block r) blocks))) [
      | true ↦ Every-map P P (counted_again r) blocks (λ c q. again c q) small
      | false ↦ Every-placed P count_before (one_block r) blocks own small
    ]
  where
    again : (c : Counted) → IsSmall c.region → IsSmall (counted_again r c).region
    again c q = elim (same_region c.region r) as (λ b. IsSmall (let k : Counted = cond b (record { region = c.region; many = true }) c in k).region) [ true ↦ q | false ↦ q ]

module _ {D : Type 0} (d : Values D) where
  abbrev known : Regs D → Truths → Option Note → PartsHeld D → Known D
  known g t n h = record { regs = g; flags = t; note = n; parts = h }

  pub exact-well : (h : PartsHeld D) (a : Area) (low : ℤ) (w : Width) (v : D) → IsInside (interval_at a low (pos (bytes_of w))) → HasCount h.blocks (block_in a) → MayHold d h.blocks w v → IsWell d h → IsWell d (after_exact d a low w v h)
  exact-well h a low w v inside counted holds k =
      exact-kept d (record { area = a; low = low; w = w; value = v }) h.facts _ h.dirty _ h.blocks (record { inside = inside; counted = counted; holds = holds }) k refl refl

  pub inside-well : (h : PartsHeld D) (a : Area) (low high : ℤ) → (low ≤ℤ high → IsInside (interval_to a low high)) → HasCount h.blocks (block_in a) → IsWell d h → IsWell d (after_inside a low high h)
  inside-well h a low high inside counted k =
      elim (int_lt high low) as (λ b. int_lt high low ≡ b → IsWell d (cond b h (after_interval (interval_to a low high) h))) [
        | true ↦ λ e. k
        | false ↦ λ e. inside-kept d (interval_to a low high) h.facts _ h.dirty _ h.blocks (low-first low high e) (inside (int_lt-false high low e)) counted k refl refl
      ] refl

  pub inside-blocks : (h : PartsHeld D) (a : Area) (low high : ℤ) → (after_inside a low high h).blocks ≡ h.blocks
  inside-blocks h a low high =
      elim (int_lt high low) as (λ b. (let k : PartsHeld D = cond b h (after_interval (interval_to a low high) h) in k).blocks ≡ h.blocks) [ true ↦ refl | false ↦ refl ]

  -- other parts with the same counts
  pub parts-kept : (g : Regs D) (t : Truths) (n : Option Note) (h new : PartsHeld D) → IsWell d new → new.blocks ≡ h.blocks → IsWellState d (record { regs = g; flags = t; note = n; parts = h }) → IsWellState d (record { regs = g; flags = t; note = n; parts = new })
  parts-kept g t n h new w same k = record {
    parts = w;
    registers = λ r. subst (λ (bs : List Counted). MayHold d bs B32 (register g r)) (sym same) (k.registers r);
    small = subst AreSmall (sym same) k.small;
    note = k.note;
  }

  pub same-kept : (g : Regs D) (t : Truths) (n : Option Note) (h new : PartsHeld D) → new ≡ h → IsWellState d (record { regs = g; flags = t; note = n; parts = h }) → IsWellState d (record { regs = g; flags = t; note = n; parts = new })
  same-kept g t n h new e k = subst (λ (x : PartsHeld D). IsWellState d (known g t n x)) (sym e) k

  pub exact-state : (g : Regs D) (t : Truths) (n : Option Note) (h new : PartsHeld D) (a : Area) (low : ℤ) (w : Width) (v : D) → IsInside (interval_at a low (pos (bytes_of w))) → HasCount h.blocks (block_in a) → MayHold d h.blocks w v → new ≡ after_exact d a low w v h → IsWellState d (record { regs = g; flags = t; note = n; parts = h }) → IsWellState d (record { regs = g; flags = t; note = n; parts = new })
  exact-state g t n h new a low w v inside counted holds e k =
      subst (λ (x : PartsHeld D). IsWellState d (known g t n x)) (sym e) (parts-kept g t n h (after_exact d a low w v h) (exact-well h a low w v inside counted holds k.parts) refl k)

  pub inside-state : (g : Regs D) (t : Truths) (n : Option Note) (h new : PartsHeld D) (a : Area) (low high : ℤ) → (low ≤ℤ high → IsInside (interval_to a low high)) → HasCount h.blocks (block_in a) → new ≡ after_inside a low high h → IsWellState d (record { regs = g; flags = t; note = n; parts = h }) → IsWellState d (record { regs = g; flags = t; note = n; parts = new })
  inside-state g t n h new a low high inside counted e k =
      subst (λ (x : PartsHeld D). IsWellState d (known g t n x)) (sym e) (parts-kept g t n h (after_inside a low high h) (inside-well h a low high inside counted k.parts) (inside-blocks h a low high) k)

  -- some facts of the stack forgotten
  pub forget-state : (g : Regs D) (t : Truths) (n : Option Note) (h new : PartsHeld D) (high : ℤ) → new ≡ after_forgetting high h → IsWellState d (record { regs = g; flags = t; note = n; parts = h }) → IsWellState d (record { regs = g; flags = t; note = n; parts = new })
  forget-state g t n h new high e k =
      subst (λ (x : PartsHeld D). IsWellState d (known g t n x)) (sym e)
      (parts-kept g t n h (after_forgetting high h) (filtered-kept d (λ f. not (is_stack_below high f)) h.facts _ h.dirty h.blocks k.parts refl) refl k)

  -- a further block of a region: what had a count has one
  pub block-state : (g : Regs D) (t : Truths) (n : Option Note) (h new : PartsHeld D) (r : Region) → has_one_base r ≡ false → IsSmall r → new ≡ after_block r h → IsWellState d (record { regs = g; flags = t; note = n; parts = h }) → IsWellState d (record { regs = g; flags = t; note = n; parts = new })
  block-state g t n h new r block own e k =
      subst (λ (x : PartsHeld D). IsWellState d (known g t n x)) (sym e) (record {
        parts = block-kept d r h.facts _ h.dirty h.blocks _ block k.parts refl refl;
        registers = λ q. let old = k.registers q in record { fits = old.fits; counted = HasCount-more r h.blocks (named (d.reach (register g q))) old.counted };
        small = small-more r h.blocks own k.small;
        note = k.note;
      })

  pub register-state : (g new : Regs D) (t : Truths) (n m : Option Note) (h : PartsHeld D) (r : ℕ) (v : D) (test : Note → Bool) → MayHold d h.blocks B32 v → new ≡ with_register g r v → m ≡ note_unless test n → IsWellState d (record { regs = g; flags = t; note = n; parts = h }) → IsWellState d (record { regs = new; flags = t; note = m; parts = h })
  register-state g new t n m h r v test holds e f k =
      subst (λ (x : Regs D). IsWellState d (known x t m h)) (sym e) (subst (λ (x : Option Note). IsWellState d (known (with_register g r v) t x h)) (sym f) (record {
        parts = k.parts;
        registers = with_register-each (MayHold d h.blocks B32) g r v holds k.registers;
        small = k.small;
        note = note-kept test n k.note;
      }))

  pub note-state : (g : Regs D) (t : Truths) (n m : Option Note) (h : PartsHeld D) (test : Note → Bool) → m ≡ note_unless test n → IsWellState d (record { regs = g; flags = t; note = n; parts = h }) → IsWellState d (record { regs = g; flags = t; note = m; parts = h })
  note-state g t n m h test f k =
      subst (λ (x : Option Note). IsWellState d (known g t x h)) (sym f) (record { parts = k.parts; registers = k.registers; small = k.small; note = note-kept test n k.note })

  pub register-alone : (g new : Regs D) (t : Truths) (n : Option Note) (h : PartsHeld D) (r : ℕ) (v : D) → MayHold d h.blocks B32 v → new ≡ with_register g r v → IsWellState d (record { regs = g; flags = t; note = n; parts = h }) → IsWellState d (record { regs = new; flags = t; note = n; parts = h })
  register-alone g new t n h r v holds e k =
      subst (λ (x : Regs D). IsWellState d (known x t n h)) (sym e) (record {
        parts = k.parts;
        registers = with_register-each (MayHold d h.blocks B32) g r v holds k.registers;
        small = k.small;
        note = k.note;
      })

-- bytes in a region's extent are its bytes
pub extent-inside : (r : Region) (low end : ℤ) (b : ℤ × ℤ) → b ≡ extent_of r → neg_ℤ (pos (2 ^ 32)) ≤ℤ b.0 → b.1 ≤ℤ pos (2 ^ 32) → low ≤ℤ end → lies_in_extent r low end ≡ true → IsInside (interval_between (In r) low end)
extent-inside r low end b e least greatest ordered h =
    let parts = and_parts (int_le (low_of r) low) (int_le end (high_of r)) h in
    let first : low_of r ≤ℤ low = int_le-true (low_of r) low parts.0 in
    let last : end ≤ℤ high_of r = int_le-true end (high_of r) parts.1 in
    let lower : neg_ℤ (pos (2 ^ 32)) ≤ℤ low_of r = subst (λ (z : ℤ × ℤ). neg_ℤ (pos (2 ^ 32)) ≤ℤ z.0) e least in
    let upper : high_of r ≤ℤ pos (2 ^ 32) = subst (λ (z : ℤ × ℤ). z.1 ≤ℤ pos (2 ^ 32)) e greatest in
    record { low = first; end = last; bounded = record { least = omega (arith, ints); greatest = omega (arith, ints); ordered = ordered } }

pub width-ordered : (low : ℤ) (w : Width) → low ≤ℤ (low +ℤ pos (bytes_of w))
width-ordered low B8 = omega (arith, ints)
width-ordered low B16 = omega (arith, ints)
width-ordered low B32 = omega (arith, ints)

pub some-ordered : (low high : ℤ) (n : ℕ) → low ≤ℤ high → low ≤ℤ (high +ℤ pos n)
some-ordered low high n h = omega (arith, ints)
