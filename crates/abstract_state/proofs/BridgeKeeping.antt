-- A store of a path keeps its state well: what is stored may be held, and lies in its area.
use Rattle.std.proofs.Common.{◌≡◌, ℕ, ◌+◌, ◌-◌, ◌^◌, ◌<◌, ◌≤◌, ◌==◌, Bool, true, false, cond, List, [], ◌∷◌, Option, Some, None, refl, sym, ap, ◌∙◌, subst, arith, ℤ, pos, neg_ℤ, ◌+ℤ◌, ◌-ℤ◌, ◌≤ℤ◌, ◌<ℤ◌, fold, inl, inr}
use Rattle.std.specs.Prelude.{⊤, ◌||◌, ◌&&◌, All, is_some, nat_lt, int_le, int_lt}
use Rattle.std.specs.Ordering.{int_eq}
use Rattle.std.specs.List.{list_any}
use Rattle.std.proofs.lemmas.Bool.{and_parts, false≢true, ltb-false, or_cases, or_parts}
use Rattle.std.proofs.lemmas.Int.{ints}
use Rattle.bit_words.specs.declared.width.Width.{Width}
use Rattle.bit_words.specs.Width.{bytes_of}
use Rattle.memory_map.specs.declared.span.Span.{Span}
use Rattle.memory_map.specs.Image.{EXIT_PLACE, Image, has_exit_word}
use Rattle.memory_map.specs.Range.{USER_END, USER_LOW, byte_at, may_write, may_write_any, may_write_each, maps_all, IsInUserSpace}
use Rattle.memory_map.specs.Spans.{runs_of}
use Rattle.memory_map.proofs.Mappings.{mapped_inside, written_mapped}
use Rattle.memory_map.proofs.RunBytes.{IsInOne, IsInSpan, run_passes}
use Rattle.address_regions.specs.declared.region.Region.{Region}
use Rattle.address_regions.specs.declared.region.Region.TheVariants.{Stack, Fs, Gs, Block}
use Rattle.address_regions.specs.Extents.{block_of, high_of, low_of}
use Rattle.address_regions.specs.Same.{same_region}
use Rattle.address_regions.proofs.RegionLaws.{same_region-is}
use Rattle.domain_laws.specs.declared.reach.Reach.{Reach}
use Rattle.domain_laws.specs.declared.reach.Reach.TheVariants.{Number, Place, Anywhere}
use Rattle.domain_laws.specs.Laws.{Values}
use Rattle.domain_laws.specs.Reached.{named}
use Rattle.partitioned_memory.specs.declared.area.Area.TheVariants.{Image as Loaded, In}
use Rattle.partitioned_memory.specs.declared.fact.Counted.{Counted}
use Rattle.partitioned_memory.specs.Areas.{IsInside, interval_at, interval_between, interval_to}
use Rattle.partitioned_memory.specs.Lists.{Every}
use Rattle.partitioned_memory.specs.Held.{PartsHeld, after_exact, after_inside, is_counted, nothing_held}
use Rattle.partitioned_memory.specs.Well.{HasCount, IsWell, MayHold}
use Rattle.partitioned_memory.proofs.Orders.{int_le-true, int_eq-true}
use Rattle.flow_log.specs.declared.cause.Cause.TheVariants as causes
use Rattle.abstract_state.specs.declared.note.Note.{Note}
use Rattle.abstract_state.specs.declared.stored.Stored.TheVariants.{Done, Faults, Stopped}
use Rattle.memory_map.specs.Registers.{register}
use Rattle.bit_words.specs.declared.width.Width.TheVariants.{B8, B16, B32}
use Rattle.abstract_state.specs.Accessing.{StoredPath, after_span, cause_outside, is_in_fault_zone, lies_in_extent, region_parts, stored, stored_among, stored_at, stored_by, stored_in, touches_fault_zone, with_region_parts, with_spans, with_word}
use Rattle.abstract_state.specs.Expanding.{Path, Written}
use Rattle.abstract_state.specs.Notes.{is_in_bytes, note_unless}
use Rattle.abstract_state.specs.State.{AreSmall, IsSmall, IsWellState, Known}
use Rattle.abstract_state.proofs.BridgeParts.{IsNoteOf, note-well, span-inside, unless-note}
use Rattle.abstract_state.proofs.Keeping.{exact-well, inside-blocks, inside-well}

counted-small : (r : Region) (blocks : List Counted) → AreSmall blocks → is_counted r blocks ≡ true → IsSmall r
counted-small r [] small e = absurd (false≢true e)
counted-small r (c ∷ cs) small e =
    elim (or_cases (same_region c.region r) (list_any (λ k. same_region k.region r) cs) e) [
      | inl same ↦ subst IsSmall (same_region-is c.region r same) small.0
      | inr later ↦ counted-small r cs small.1 later
    ]

low-least : (r : Region) → neg_ℤ (pos (2 ^ 32)) ≤ℤ low_of r
low-least Stack = omega (arith, ints)
low-least Fs = omega (arith, ints)
low-least Gs = omega (arith, ints)
low-least (Block site size zeroed) = omega (arith, ints)

high-greatest : (r : Region) (blocks : List Counted) → AreSmall blocks → HasCount blocks (block_of r) → high_of r ≤ℤ pos (2 ^ 32)
high-greatest Stack blocks small counted = omega (arith, ints)
high-greatest Fs blocks small counted = omega (arith, ints)
high-greatest Gs blocks small counted = omega (arith, ints)
high-greatest (Block site size zeroed) blocks small counted = (let s = counted-small (Block site size zeroed) blocks small counted in omega (arith, ints, s))

few : (w : Width) → pos 1 ≤ℤ pos (bytes_of w)
few B8 = omega (arith, ints)
few B16 = omega (arith, ints)
few B32 = omega (arith, ints)

module _ {D : Type 0} (d : Values D) (image : Image) (blocks : List Counted) (inside : All IsInUserSpace image.segments) (small : AreSmall blocks) where
  -- a path whose state is well, with these counts
  pub record IsKeptWell (q : Path D) : Type 0 where
    pub well : IsWellState d q.state
    pub blocks_same : q.state.parts.blocks ≡ blocks

  abbrev pub Keeps : StoredPath D → Type 0
  Keeps (Done, r) = IsKeptWell r
  Keeps (Faults, r) = ⊤
  Keeps (Stopped c, r) = ⊤

  -- other parts with the same counts, and the note or none
  pub parts-well : (q : Path D) (g : PartsHeld D) (note : Option Note) (test : Note → Bool) (ws : List Written) → IsKeptWell q → IsWell d g → g.blocks ≡ q.state.parts.blocks → IsNoteOf q.state.note test note
      → IsKeptWell (record { state = record (q.state) { parts = g; note = note }; writes = ws })
  parts-well q g note test ws h well same is = record {
    well = record {
      parts = well;
      registers = λ r. subst (λ (bs : List Counted). MayHold d bs B32 (register q.state.regs r)) (sym same) (h.well.registers r);
      small = subst AreSmall (sym same) h.well.small;
      note = note-well q.state.note note test is h.well.note;
    };
    blocks_same = same ∙ h.blocks_same;
  }

  held-own : (q : Path D) (w : Width) (u : D) → IsKeptWell q → MayHold d blocks w u → MayHold d q.state.parts.blocks w u
  held-own q w u h k = subst (λ (bs : List Counted). MayHold d bs w u) (sym h.blocks_same) k

  -- ---- the image

  word-well : (q : Path D) (a : ℕ) (w : Width) (u : D) → IsKeptWell q → MayHold d blocks w u → touches_fault_zone a (bytes_of w) ≡ false → IsKeptWell (with_word d image a w u q)
  word-well q a w u h k e =
      let parts = or_parts (nat_lt a USER_LOW) (nat_lt USER_END (a + bytes_of w)) e in
      let below = ltb-false USER_END (a + bytes_of w) parts.1 in
      let own : IsInside (interval_at Loaded (pos a) (pos (bytes_of w))) = record {
        low = omega (arith, ints);
        end = omega (arith, ints, below);
        bounded = record { least = omega (arith, ints); greatest = omega (arith, ints, below); ordered = omega (arith, ints) };
      } in
      parts-well q _ q.state.note (λ t. false) _ h (exact-well d q.state.parts Loaded (pos a) w u own tt (held-own q w u h k) h.well.parts) refl (λ t f. (f, refl))

  keeps-at : (q : Path D) (a : ℕ) (w : Width) (u : D) → IsKeptWell q → MayHold d blocks w u → Keeps (stored_at d image a w u q)
  keeps-at q a w u h k =
      elim (touches_fault_zone a (bytes_of w)) as (λ b. touches_fault_zone a (bytes_of w) ≡ b → Keeps (cond b (Faults, q) (cond (maps_all image.segments a (bytes_of w)) (cond (may_write_each image.segments a (bytes_of w)) (Done, with_word d image a w u q) (Faults, q)) (Stopped causes.Store, q)))) [
        | true ↦ λ e. tt
        | false ↦ λ e. elim (maps_all image.segments a (bytes_of w)) as (λ b. Keeps (cond b (cond (may_write_each image.segments a (bytes_of w)) (Done, with_word d image a w u q) (Faults, q)) (Stopped causes.Store, q))) [
          | true ↦ elim (may_write_each image.segments a (bytes_of w)) as (λ b. Keeps (cond b (Done, with_word d image a w u q) (Faults, q))) [ true ↦ word-well q a w u h k e | false ↦ tt ]
          | false ↦ tt
        ]
      ] refl

  -- the parts after writes to some ranges of the image
  record AreWellAfter (h g : PartsHeld D) : Type 0 where
    pub well : IsWell d g
    pub blocks_kept : g.blocks ≡ h.blocks

  spans-well : (ss : List Span) (h : PartsHeld D) → ((x : ℕ) → IsInOne x ss → is_some (byte_at image.segments x) ≡ true) → IsWell d h → AreWellAfter h (fold after_span h ss)
  spans-well [] h mapped well = record { well = well; blocks_kept = refl }
  spans-well (s ∷ ss) h mapped well =
      let own : (x : ℕ) → IsInSpan x s → is_some (byte_at image.segments x) ≡ true = λ x i. mapped x (inl i) in
      let last = (pos s.low +ℤ pos s.size) -ℤ pos 1 in
      let first : IsWell d (after_span h s) = inside-well d h Loaded (pos s.low) last (span-inside image.segments s inside own) tt well in
      let rest = spans-well ss (after_span h s) (λ x i. mapped x (inr i)) first in
      record { well = rest.well; blocks_kept = rest.blocks_kept ∙ inside-blocks d h Loaded (pos s.low) last }

  pub keeps-among : (q : Path D) (low size : ℕ) → IsKeptWell q → Keeps (stored_among d image low size q)
  keeps-among q low size h =
      let spans = runs_of (may_write image.segments) low size in
      let go = with_spans spans q in
      let after = spans-well spans q.state.parts (λ x i. written_mapped image.segments x (run_passes (may_write image.segments) low size x i).passes) h.well.parts in
      let kept : IsKeptWell go = parts-well q _ q.state.note (λ t. false) _ h after.well after.blocks_kept (λ t f. (f, refl)) in
      elim (is_in_fault_zone low size) as (λ b. Keeps (cond b (Faults, q) (cond (maps_all image.segments low size) (cond (may_write_any image.segments low size) (Done, go) (Faults, q)) (Stopped causes.Store, q)))) [
        | true ↦ tt
        | false ↦ elim (maps_all image.segments low size) as (λ b. Keeps (cond b (cond (may_write_any image.segments low size) (Done, go) (Faults, q)) (Stopped causes.Store, q))) [
          | true ↦ elim (may_write_any image.segments low size) as (λ b. Keeps (cond b (Done, go) (Faults, q))) [ true ↦ kept | false ↦ tt ]
          | false ↦ tt
        ]
      ]

  -- ---- regions

  pub between-inside : (r : Region) (low end : ℤ) → HasCount blocks (block_of r) → low_of r ≤ℤ low → end ≤ℤ high_of r → low ≤ℤ end → IsInside (interval_between (In r) low end)
  between-inside r low end counted above below ordered = record {
    low = above;
    end = below;
    bounded = record { least = omega (arith, ints, low-least r, above); greatest = omega (arith, ints, high-greatest r blocks small counted, below); ordered = ordered };
  }

  region-well : (q : Path D) (r : Region) (low high : ℤ) (w : Width) (u : D) → IsKeptWell q → HasCount blocks (block_of r) → MayHold d blocks w u → low_of r ≤ℤ low → (high +ℤ pos (bytes_of w)) ≤ℤ high_of r
      → AreWellAfter q.state.parts (region_parts d image r low high w u q.state.parts)
  region-well q r low high w u h counted k least greatest =
      let end = high +ℤ pos (bytes_of w) in
      let last = end -ℤ pos 1 in
      let own : HasCount q.state.parts.blocks (block_of r) = subst (λ (bs : List Counted). HasCount bs (block_of r)) (sym h.blocks_same) counted in
      elim (int_eq low high) as (λ b. int_eq low high ≡ b → AreWellAfter q.state.parts (cond b (after_exact d (In r) low w u q.state.parts) (after_inside (In r) low last q.state.parts))) [
        | true ↦ λ e.
            let one = int_eq-true low high e in
            record {
              well = exact-well d q.state.parts (In r) low w u (between-inside r low (low +ℤ pos (bytes_of w)) counted least (omega (arith, ints, one, greatest)) (omega (arith, ints, few w))) own (held-own q w u h k) h.well.parts;
              blocks_kept = refl;
            }
        | false ↦ λ e. record {
          well = inside-well d q.state.parts (In r) low last (λ le. between-inside r low (last +ℤ pos 1) counted least (omega (arith, ints, greatest)) (omega (arith, ints, le))) own h.well.parts;
          blocks_kept = inside-blocks d q.state.parts (In r) low last;
        }
      ] refl

  pub keeps-in : (q : Path D) (r : Region) (low high : ℤ) (w : Width) (u : D) → IsKeptWell q → HasCount blocks (block_of r) → MayHold d blocks w u → Keeps (stored_in d image r low high w u q)
  keeps-in q r low high w u h counted k =
      let end = high +ℤ pos (bytes_of w) in
      elim (lies_in_extent r low end) as (λ b. lies_in_extent r low end ≡ b → Keeps (cond b (Done, with_region_parts r low end (region_parts d image r low high w u q.state.parts) q) (Stopped (cause_outside r), q))) [
        | true ↦ λ e.
            let parts = and_parts (int_le (low_of r) low) (int_le end (high_of r)) e in
            let after = region-well q r low high w u h counted k (int_le-true (low_of r) low parts.0) (int_le-true end (high_of r) parts.1) in
            parts-well q _ (note_unless (is_in_bytes (In r) low end) q.state.note) (is_in_bytes (In r) low end) _ h after.well after.blocks_kept (unless-note (is_in_bytes (In r) low end) q.state.note)
        | false ↦ λ e. tt
      ] refl

  keeps-by : (q : Path D) (reach : Reach) (w : Width) (u : D) → IsKeptWell q → HasCount blocks (named reach) → MayHold d blocks w u → Keeps (stored_by d image reach w u q)
  keeps-by q (Number low high) w u h counted k =
      elim (low == high) as (λ b. Keeps (cond b (stored_at d image low w u q) (stored_among d image low ((high + bytes_of w) - low) q))) [
        | true ↦ keeps-at q low w u h k
        | false ↦ keeps-among q low ((high + bytes_of w) - low) h
      ]
  keeps-by q (Place r low high) w u h counted k = keeps-in q r low high w u h counted k
  keeps-by q Anywhere w u h counted k = tt

  -- a path that could store a value that may be held is well
  pub store_keeps : (q r : Path D) (w : Width) (v u : D) → HasCount blocks (named (d.reach v)) → MayHold d blocks w u → IsWellState d q.state → q.state.parts.blocks ≡ blocks → stored d image w v u q ≡ (Done, r)
      → IsWellState d r.state × (r.state.parts.blocks ≡ blocks)
  unfolding stored
  store_keeps q r w v u counted k well same e =
      let all : Keeps (stored_by d image (d.reach v) w u q) = keeps-by q (d.reach v) w u (record { well = well; blocks_same = same }) counted k in
      let done : Keeps (Done, r) = subst Keeps e all in
      (done.well, done.blocks_same)
