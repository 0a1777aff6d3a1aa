-- States of plain lists: what is built is well, and has the lists of which it was built.
use Rattle.std.proofs.Common.{◌≡◌, ℕ, ◌<◌, ◌^◌, Bool, true, false, List, [], ◌∷◌, Option, Some, None, refl, sym, ap, subst, arith, pos}
use Rattle.std.specs.Prelude.{◌&&◌, nat_lt, option_and_then, if◌then◌else◌}
use Rattle.std.specs.List.{list_all}
use Rattle.std.specs.Option.{ForSome}
use Rattle.std.proofs.lemmas.Bool.Decides.{nat_tests}
use Rattle.bit_words.specs.declared.width.Width.TheVariants.{B32}
use Rattle.memory_map.specs.Image.{Image}
use Rattle.memory_map.specs.Registers.{register}
use Rattle.memory_map.specs.declared.registers.Regs.{Regs}
use Rattle.address_regions.specs.declared.region.Region.{Region}
use Rattle.address_regions.specs.declared.region.Region.TheVariants.{Stack, Fs, Gs, Block}
use Rattle.domain_laws.specs.Laws.{Values}
use Rattle.domain_laws.specs.Reached.{named}
use Rattle.partitioned_memory.specs.declared.area.Area.TheVariants.{In}
use Rattle.partitioned_memory.specs.declared.fact.Counted.{Counted}
use Rattle.partitioned_memory.specs.Areas.{interval_at}
use Rattle.partitioned_memory.specs.Building.{are_well, fits_width, is_counted_value, may_hold}
use Rattle.partitioned_memory.specs.Lists.{Every}
use Rattle.partitioned_memory.specs.Well.{IsWell, MayHold}
use Rattle.partitioned_memory.proofs.BuiltParts.{Every-all, all-Every, are-well, count-of, fits-of, fits-width, has-count, lies-inside, well-of}
use Rattle.abstract_state.specs.declared.truth.Truth.{Truth}
use Rattle.abstract_state.specs.declared.flags.Truths.{Truths}
use Rattle.abstract_state.specs.declared.note.Note.{Note}
use Rattle.abstract_state.specs.declared.note.Note.TheVariants.{Register, Word}
use Rattle.abstract_state.specs.declared.plain.StateData.{StateData}
use Rattle.abstract_state.specs.Notes.{IsWellNote}
use Rattle.abstract_state.specs.State.{AreSmall, IsSmall, IsWellState, Known}
use Rattle.abstract_state.specs.Building.{HasImageBytes, built, is_dirty_of, is_fact_of, is_note, is_small, is_state, parts_of, plain_of, registers_in, registers_of, truths_in, truths_of}
use Rattle.abstract_state.specs.Laws.{BuiltStatesArePlain, PlainStatesAreBuilt}
use Rattle.abstract_state.proofs.Keeping.{each-register}
use Rattle.std.proofs.lemmas.Bool.{and_parts, and_from}

-- ---- registers and flags in lists

pub registers-back : {D : Type 0} (l : List D) (g : Regs D) → registers_of l ≡ Some g → registers_in g ≡ l
registers-back [] g h = cc
registers-back (a ∷ []) g h = cc
registers-back (a ∷ b ∷ []) g h = cc
registers-back (a ∷ b ∷ c ∷ []) g h = cc
registers-back (a ∷ b ∷ c ∷ d ∷ []) g h = cc
registers-back (a ∷ b ∷ c ∷ d ∷ e ∷ []) g h = cc
registers-back (a ∷ b ∷ c ∷ d ∷ e ∷ f ∷ []) g h = cc
registers-back (a ∷ b ∷ c ∷ d ∷ e ∷ f ∷ i ∷ []) g h = cc
registers-back (a ∷ b ∷ c ∷ d ∷ e ∷ f ∷ i ∷ j ∷ []) g h =
    let made : Regs _ = record { eax = a; ecx = b; edx = c; ebx = d; esp = e; ebp = f; esi = i; edi = j } in
    let same : made ≡ g = cc in
    ap registers_in (sym same)
registers-back (a ∷ b ∷ c ∷ d ∷ e ∷ f ∷ i ∷ j ∷ k ∷ l) g h = cc

pub truths-back : (l : List Truth) (t : Truths) → truths_of l ≡ Some t → truths_in t ≡ l
truths-back [] t h = cc
truths-back (a ∷ []) t h = cc
truths-back (a ∷ b ∷ []) t h = cc
truths-back (a ∷ b ∷ c ∷ []) t h = cc
truths-back (a ∷ b ∷ c ∷ d ∷ []) t h = cc
truths-back (a ∷ b ∷ c ∷ d ∷ e ∷ []) t h = cc
truths-back (a ∷ b ∷ c ∷ d ∷ e ∷ f ∷ []) t h = cc
truths-back (a ∷ b ∷ c ∷ d ∷ e ∷ f ∷ i ∷ []) t h =
    let made : Truths = record { carry = a; parity = b; adjust = c; zero = d; sign = e; overflow = f; direction = i } in
    let same : made ≡ t = cc in
    ap truths_in (sym same)
truths-back (a ∷ b ∷ c ∷ d ∷ e ∷ f ∷ i ∷ j ∷ l) t h = cc

-- ---- tests and what they say

less-of : (a b : ℕ) → nat_lt a b ≡ true → a < b
less-of a b e = grind (arith, nat_tests)

is-less : (a b : ℕ) → a < b → nat_lt a b ≡ true
is-less a b h = grind (arith, nat_tests)

small-of : (r : Region) → is_small r ≡ true → IsSmall r
small-of Stack e = tt
small-of Fs e = tt
small-of Gs e = tt
small-of (Block site size zeroed) e = less-of size (2 ^ 32) e

is-small : (r : Region) → IsSmall r → is_small r ≡ true
is-small Stack h = refl
is-small Fs h = refl
is-small Gs h = refl
is-small (Block site size zeroed) h = is-less size (2 ^ 32) h

note-test : (n : Option Note) → ForSome n IsWellNote → is_note n ≡ true
note-test None h = refl
note-test (Some (Register r c)) h = is-less r 8 (h (Register r c) refl).0
note-test (Some (Word o c)) h = lies-inside (interval_at (In Stack) o (pos 4)) (h (Word o c) refl).0

module _ {D : Type 0} (d : Values D) where
  hold-of : (blocks : List Counted) (v : D) → may_hold d blocks B32 v ≡ true → MayHold d blocks B32 v
  hold-of blocks v e =
      let (fits, counted) = and_parts (fits_width d B32 v) (is_counted_value d blocks v) e in
      record { fits = fits-of d B32 v fits; counted = count-of blocks (named (d.reach v)) counted }

  may-hold : (blocks : List Counted) (v : D) → MayHold d blocks B32 v → may_hold d blocks B32 v ≡ true
  may-hold blocks v h = and_from (fits_width d B32 v) (is_counted_value d blocks v) (fits-width d B32 v h.fits) (has-count blocks (named (d.reach v)) h.counted)

  -- ---- what may be built

  pub record MayBuild (image : Image) (s : StateData D) : Type 0 where
    pub well : IsWell d (parts_of s)
    pub facts : list_all (is_fact_of image) s.facts ≡ true
    pub dirty : list_all (is_dirty_of image) s.dirty ≡ true
    pub regs : Every (MayHold d s.blocks B32) s.regs
    pub small : AreSmall s.blocks

  pub may-build : (image : Image) (s : StateData D) → is_state d image s ≡ true → MayBuild image s
  unfolding is_state
  may-build image s e =
      let R = list_all (may_hold d s.blocks B32) s.regs in
      let S = list_all (λ (c : Counted). is_small c.region) s.blocks in
      let T = list_all (is_dirty_of image) s.dirty in
      let (well, a) = and_parts (are_well d (parts_of s)) (list_all (is_fact_of image) s.facts && (T && (R && S))) e in
      let (facts, b) = and_parts (list_all (is_fact_of image) s.facts) (T && (R && S)) a in
      let (dirty, c) = and_parts T (R && S) b in
      let (regs, small) = and_parts R S c in
      record {
        well = well-of d (parts_of s) well;
        facts = facts;
        dirty = dirty;
        regs = Every-all (may_hold d s.blocks B32) (MayHold d s.blocks B32) s.regs (hold-of s.blocks) regs;
        small = Every-all (λ (c : Counted). is_small c.region) (λ (c : Counted). IsSmall c.region) s.blocks (λ c t. small-of c.region t) small;
      }

  -- each register of a list holds what each of the list does
  every-register : (P : D → Type 0) (g : Regs D) → Every P (registers_in g) → (r : ℕ) → P (register g r)
  every-register P g h = each-register P g h.0 h.1.0 h.1.1.0 h.1.1.1.0 h.1.1.1.1.0 h.1.1.1.1.1.0 h.1.1.1.1.1.1.0 h.1.1.1.1.1.1.1.0

  -- the state that is built is well
  pub built-well : (image : Image) (s : StateData D) (g : Regs D) (t : Truths) → is_state d image s ≡ true → registers_of s.regs ≡ Some g → ForSome s.note IsWellNote
      → IsWellState d (record { regs = g; flags = t; note = s.note; parts = parts_of s })
  built-well image s g t e registers note =
      let m = may-build image s e in
      record {
        parts = m.well;
        registers = every-register (MayHold d s.blocks B32) g (subst (Every (MayHold d s.blocks B32)) (sym (registers-back s.regs g registers)) m.regs);
        small = m.small;
        note = note;
      }

  -- ---- what is built

  chosen : (image : Image) (s : StateData D) (g : Regs D) (t : Truths) (k : Known D) (b : Bool) → (is_state d image s && is_note s.note) ≡ b
      → ◌≡◌ {A = Option (Known D)} (if b then Some (record { regs = g; flags = t; note = s.note; parts = parts_of s }) else None) (Some k)
      → (is_state d image s ≡ true) × (let made : Known D = record { regs = g; flags = t; note = s.note; parts = parts_of s } in made ≡ k)
  chosen image s g t k true e h = ((and_parts (is_state d image s) (is_note s.note) e).0, cc)
  chosen image s g t k false e h = cc

  flags_by : (image : Image) (s : StateData D) (g : Regs D) (k : Known D) (t : Option Truths) → registers_of s.regs ≡ Some g → truths_of s.flags ≡ t
      → option_and_then (λ (flags : Truths). if is_state d image s && is_note s.note then Some (let made : Known D = record { regs = g; flags = flags; note = s.note; parts = parts_of s } in made) else None) t ≡ Some k
      → (plain_of k ≡ s) × HasImageBytes image k
  flags_by image s g k None r f h = cc
  flags_by image s g k (Some t) r f h =
      let c = chosen image s g t k (is_state d image s && is_note s.note) refl h in
      let m = may-build image s c.0 in
      let made : Known D = record { regs = g; flags = t; note = s.note; parts = parts_of s } in
      let regs : registers_in g ≡ s.regs = registers-back s.regs g r in
      let flags : truths_in t ≡ s.flags = truths-back s.flags t f in
      let plain : plain_of made ≡ s = λ i. record { regs = regs i; flags = flags i; note = s.note; facts = s.facts; dirty = s.dirty; blocks = s.blocks } in
      subst (λ (x : Known D). (plain_of x ≡ s) × HasImageBytes image x) c.1 (plain, record { facts = m.facts; dirty = m.dirty })

  registers_by : (image : Image) (s : StateData D) (k : Known D) (g : Option (Regs D)) → registers_of s.regs ≡ g
      → option_and_then (λ (regs : Regs D). option_and_then (λ (flags : Truths). if is_state d image s && is_note s.note then Some (let made : Known D = record { regs = regs; flags = flags; note = s.note; parts = parts_of s } in made) else None) (truths_of s.flags)) g ≡ Some k
      → (plain_of k ≡ s) × HasImageBytes image k
  registers_by image s k None r h = cc
  registers_by image s k (Some g) r h = flags_by image s g k (truths_of s.flags) r refl h

  pub built-plain : BuiltStatesArePlain d
  unfolding built
  built-plain image s k h = registers_by image s k (registers_of s.regs) refl h

  -- ---- what is built again

  registers-hold : (g : Regs D) (t : D → Bool) → ((r : ℕ) → t (register g r) ≡ true) → list_all t (registers_in g) ≡ true
  unfolding register
  registers-hold g t f =
      and_from (t g.eax) _ (f 0) (and_from (t g.ecx) _ (f 1) (and_from (t g.edx) _ (f 2) (and_from (t g.ebx) _ (f 3)
      (and_from (t g.esp) _ (f 4) (and_from (t g.ebp) _ (f 5) (and_from (t g.esi) _ (f 6) (and_from (t g.edi) true (f 7) refl)))))))

  is-state : (image : Image) (s : Known D) → IsWellState d s → HasImageBytes image s → is_state d image (plain_of s) ≡ true
  unfolding is_state
  is-state image s w h =
      let p : StateData D = plain_of s in
      let R = list_all (may_hold d p.blocks B32) p.regs in
      let S = list_all (λ (c : Counted). is_small c.region) p.blocks in
      let T = list_all (is_dirty_of image) p.dirty in
      let hold : (r : ℕ) → may_hold d p.blocks B32 (register s.regs r) ≡ true = λ r. may-hold p.blocks (register s.regs r) (w.registers r) in
      let regs : R ≡ true = registers-hold s.regs (may_hold d p.blocks B32) hold in
      and_from (are_well d (parts_of p)) (list_all (is_fact_of image) p.facts && (T && (R && S))) (are-well d (parts_of p) w.parts)
      (and_from (list_all (is_fact_of image) p.facts) (T && (R && S)) h.facts
      (and_from T (R && S) h.dirty
      (and_from R S regs (all-Every (λ (c : Counted). is_small c.region) (λ (c : Counted). IsSmall c.region) p.blocks (λ c t. is-small c.region t) w.small))))

  pub plain-built : PlainStatesAreBuilt d
  unfolding built
  plain-built image s w h =
      let e : (is_state d image (plain_of s) && is_note s.note) ≡ true = and_from (is_state d image (plain_of s)) (is_note s.note) (is-state image s w h) (note-test s.note w.note) in
      rw e refl
