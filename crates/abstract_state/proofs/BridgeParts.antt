-- The parts and the note after a store.
use Rattle.std.proofs.Common.{◌≡◌, ℕ, ◌+◌, ◌-◌, ◌^◌, ◌<◌, ◌≤◌, Bool, true, false, cond, List, [], ◌∷◌, Option, Some, None, refl, sym, ap, ◌∙◌, subst, arith, ℤ, pos, negsuc, ◌+ℤ◌, ◌-ℤ◌, ◌≤ℤ◌, ◌<ℤ◌, fold, inl, inr}
use Rattle.std.specs.Prelude.{◌&&◌, All, is_some, nat_le, nat_lt, int_lt}
use Rattle.std.specs.Option.{ForSome}
use Rattle.std.proofs.lemmas.Bool.{and_from, and_parts, both_ways, le-leb, leb-true, lt-ltb, ltb-true}
use Rattle.std.proofs.lemmas.Int.{ints}
use Rattle.bit_words.specs.declared.width.Width.{Width}
use Rattle.bit_words.specs.declared.width.Width.TheVariants.{B32}
use Rattle.bit_words.specs.Width.{bytes_of}
use Rattle.memory_map.specs.declared.span.Span.{Span}
use Rattle.memory_map.specs.Range.{Range, byte_at, IsInUserSpace}
use Rattle.memory_map.specs.State.{MachineState, Flags}
use Rattle.memory_map.proofs.Mappings.{mapped_inside}
use Rattle.memory_map.proofs.RunBytes.{IsInOne, IsInSpan}
use Rattle.memory_map.specs.Registers.{register}
use Rattle.address_regions.specs.declared.region.Region.TheVariants.{Stack}
use Rattle.address_regions.specs.Places.{Places, place_at}
use Rattle.address_regions.proofs.PlaceLaws.{place_at-is}
use Rattle.domain_laws.specs.Laws.{Values}
use Rattle.partitioned_memory.specs.declared.area.Area.{Area}
use Rattle.partitioned_memory.specs.declared.area.Area.TheVariants.{Image, In}
use Rattle.partitioned_memory.specs.Areas.{IsInside, block_in, interval_at, interval_to}
use Rattle.partitioned_memory.specs.Held.{PartsHeld, after_exact, after_inside, after_interval}
use Rattle.partitioned_memory.specs.Well.{HasCount, IsWell, MayHold}
use Rattle.partitioned_memory.specs.Describes.{AreBytes, IsApart, IsDescribed, IsWritten, bytes_in, is_image_byte, number_in}
use Rattle.partitioned_memory.proofs.Bytes.{IsWrite, byte-from, byte-is, byte-kept, number-kept}
use Rattle.partitioned_memory.proofs.FactsKept.{inside-keeps}
use Rattle.abstract_state.specs.declared.note.Note.{Note}
use Rattle.abstract_state.specs.declared.note.Note.TheVariants.{Register, Word}
use Rattle.abstract_state.specs.Accessing.{after_span}
use Rattle.abstract_state.specs.Describes.{AreOfComparison, NoteStands, byte_in}
use Rattle.abstract_state.specs.Notes.{IsWellNote, note_unless}
use Rattle.abstract_state.proofs.BridgeBytes.{extent-from}
use Rattle.abstract_state.proofs.Keeping.{inside-blocks, inside-well}

-- ---- a write to some ranges of the image

abbrev in_span : ℕ → Span → Bool
in_span x s = nat_le s.low x && nat_lt x (s.low + s.size)

in_span-is : (x : ℕ) (s : Span) → in_span x s ≡ true → IsInSpan x s
in_span-is x s e =
    let parts = and_parts (nat_le s.low x) (nat_lt x (s.low + s.size)) e in
    record { low = leb-true s.low x parts.0; end = ltb-true x (s.low + s.size) parts.1 }

in_span-from : (x : ℕ) (s : Span) → IsInSpan x s → in_span x s ≡ true
in_span-from x s i = and_from (nat_le s.low x) (nat_lt x (s.low + s.size)) (le-leb s.low x i.low) (lt-ltb x (s.low + s.size) i.end)

-- each address of a span is one of the segments
abbrev pub AreMapped : List Range → Span → Type 0
AreMapped ranges s = (x : ℕ) → IsInSpan x s → is_some (byte_at ranges x) ≡ true

-- the last offset of a span
abbrev pub last_of : Span → ℤ
last_of s = (pos s.low +ℤ pos s.size) -ℤ pos 1

below : (ranges : List Range) (s : Span) (x : ℕ) → All IsInUserSpace ranges → AreMapped ranges s → IsInSpan x s → x < 2 ^ 32
below ranges s x inside mapped i = (let k = mapped_inside ranges x (mapped x i) inside in omega (arith, k.1))

pub span-inside : (ranges : List Range) (s : Span) → All IsInUserSpace ranges → AreMapped ranges s → pos s.low ≤ℤ last_of s → IsInside (interval_to Image (pos s.low) (last_of s))
span-inside ranges s inside mapped le =
    let size : 1 ≤ s.size = omega (arith, ints, le) in
    let final = below ranges s (s.low + s.size - 1) inside mapped (record { low = omega arith; end = omega arith }) in
    record {
      low = omega (arith, ints);
      end = omega (arith, ints, final);
      bounded = record { least = omega (arith, ints); greatest = omega (arith, ints, final); ordered = omega (arith, ints, le) };
    }

-- the parts g are h after a write that left the bytes c
pub record AreKept {D : Type 0} (d : Values D) (ranges : List Range) (unset : List Span) (p : Places) (h g : PartsHeld D) (c : ℕ → ℕ) : Type 0 where
  pub well : IsWell d g
  pub blocks : g.blocks ≡ h.blocks
  pub described : IsDescribed d ranges unset p g c

module _ {D : Type 0} (d : Values D) (ranges : List Range) (unset : List Span) (p : Places) (apart : IsApart ranges p) (inside : All IsInUserSpace ranges) where
  span-byte : (s : Span) (o : ℤ) → AreMapped ranges s → pos s.low ≤ℤ o → o <ℤ (last_of s +ℤ pos 1) → is_image_byte ranges o ≡ true
  span-byte s (pos x) mapped low high = mapped x (record { low = omega (arith, ints, low); end = omega (arith, ints, high) })
  span-byte s (negsuc x) mapped low high = absurd (omega (arith, ints, low))

  span-bytes : (s : Span) → AreMapped ranges s → AreBytes ranges (interval_to Image (pos s.low) (last_of s))
  span-bytes s mapped = record {
    each = λ o h. let i = byte-is (interval_to Image (pos s.low) (last_of s)) Image o h in span-byte s o mapped i.low i.high;
  }

  -- the bytes c in one span, and b elsewhere
  abbrev written_over : Span → (ℕ → ℕ) → (ℕ → ℕ) → ℕ → ℕ
  written_over s b c x = cond (in_span x s) (c x) (b x)

  over-written : (s : Span) (b c : ℕ → ℕ) → AreMapped ranges s → IsWritten 0 (bytes_in (interval_to Image (pos s.low) (last_of s))) b (written_over s b c)
  over-written s b c mapped x off =
      elim (in_span x s) as (λ t. in_span x s ≡ t → cond t (c x) (b x) ≡ b x) [
        | true ↦ λ e.
            let i = in_span-is x s e in
            let place : place_at 0 (pos x) ≡ x = place_at-is 0 (pos x) x (omega (arith, ints)) (below ranges s x inside mapped i) in
            absurd (off (pos x) (byte-from (interval_to Image (pos s.low) (last_of s)) Image (pos x) (record { area = refl; low = omega (arith, ints, i.low); high = omega (arith, ints, i.end) })) (sym place))
        | false ↦ λ e. refl
      ] refl

  over-rest : (s : Span) (ss : List Span) (b c : ℕ → ℕ) → ((x : ℕ) → (IsInOne x (s ∷ ss) → ⊥) → c x ≡ b x) → (x : ℕ) → (IsInOne x ss → ⊥) → c x ≡ written_over s b c x
  over-rest s ss b c stays x off =
      elim (in_span x s) as (λ t. in_span x s ≡ t → c x ≡ cond t (c x) (b x)) [
        | true ↦ λ e. refl
        | false ↦ λ e. stays x (λ h. elim h [ inl i ↦ both_ways (in_span x s) e (in_span-from x s i) | inr i ↦ off i ])
      ] refl

  pub spans-keep : (ss : List Span) (h : PartsHeld D) (b c : ℕ → ℕ) → ((x : ℕ) → IsInOne x ss → is_some (byte_at ranges x) ≡ true) → ((x : ℕ) → (IsInOne x ss → ⊥) → c x ≡ b x)
      → IsWell d h → IsDescribed d ranges unset p h b → AreKept d ranges unset p h (fold after_span h ss) c
  spans-keep [] h b c mapped stays well described = record {
    well = well;
    blocks = refl;
    described = inside-keeps d ranges unset p b c h Image 0 (pos 1) (pos 0) apart refl (span-bytes (record { low = 1; size = 0 }) (λ x i. absurd (omega (arith, i.low, i.end)))) (λ x off. stays x (λ i. i)) described;
  }
  spans-keep (s ∷ ss) h b c mapped stays well described =
      let own : AreMapped ranges s = λ x i. mapped x (inl i) in
      let g = after_span h s in
      let first : IsWell d g = inside-well d h Image (pos s.low) (last_of s) (span-inside ranges s inside own) tt well in
      let mid = written_over s b c in
      let next : IsDescribed d ranges unset p g mid = inside-keeps d ranges unset p b mid h Image 0 (pos s.low) (last_of s) apart refl (span-bytes s own) (over-written s b c own) described in
      let rest = spans-keep ss g mid c (λ x i. mapped x (inr i)) (over-rest s ss b c stays) first next in
      record { well = rest.well; blocks = rest.blocks ∙ inside-blocks d h Image (pos s.low) (last_of s); described = rest.described }

-- ---- the note

-- what a note's word is, where the write was none of its bytes
pub word-stays : (ranges : List Range) (p : Places) (a : Area) (base : ℕ) (test : ℤ → Bool) (b c : ℕ → ℕ) → IsWrite ranges p a base test b c → (o : ℤ) → IsInside (interval_at (In Stack) o (pos 4))
    → ((q : ℤ) → In Stack ≡ a → o ≤ℤ q → q <ℤ (o +ℤ pos 4) → test q ≡ true → ⊥)
    → number_in c p.stack o B32 ≡ number_in b p.stack o B32
word-stays ranges p a base test b c w o inside off =
    number-kept b c p.stack o B32 (λ q low high.
    byte-kept ranges p a base test b c w (In Stack) p.stack q refl (extent-from Stack q (omega (arith, ints, inside.low, low)) (omega (arith, ints, inside.end, high))) (λ same _ t. off q same low high t))

-- the note of the new state is that of the old one, and fails a test
abbrev pub IsNoteOf : Option Note → (Note → Bool) → Option Note → Type 0
IsNoteOf old test new = (x : Note) → new ≡ Some x → (old ≡ Some x) × (test x ≡ false)

pub unless-note : (test : Note → Bool) (old : Option Note) → IsNoteOf old test (note_unless test old)
unless-note test None x e = absurd (cc)
unless-note test (Some n) x e =
    elim (test n) as (λ b. test n ≡ b → cond b None (Some n) ≡ Some x → (Some n ≡ Some x) × (test x ≡ false)) [
      | true ↦ λ k f. absurd (cc)
      | false ↦ λ k f. (f, let same : n ≡ x = cc in sym (ap test same) ∙ k)
    ] refl e

pub note-well : (old new : Option Note) (test : Note → Bool) → IsNoteOf old test new → ForSome old IsWellNote → ForSome new IsWellNote
note-well old new test is well x e = well x ((is x e).0)

compared : (x y c : ℕ) (f g : Flags) → y ≡ x → g ≡ f → AreOfComparison x c f → AreOfComparison y c g
compared x y c f g e k h =
    subst (λ z. AreOfComparison z c g) (sym e) (subst (λ t. AreOfComparison x c t) (sym k) h)

one-stays : (x : Note) (test : Note → Bool) (p : Places) (m n : MachineState) → n.registers ≡ m.registers → n.flags ≡ m.flags
    → ((o : ℤ) (c : ℕ) → test (Word o c) ≡ false → IsInside (interval_at (In Stack) o (pos 4)) → number_in (byte_in n) p.stack o B32 ≡ number_in (byte_in m) p.stack o B32)
    → IsWellNote x → test x ≡ false → NoteStands (Some x) p m → NoteStands (Some x) p n
one-stays (Register r c) test p m n regs flags words well fails h = compared (register m.registers r) (register n.registers r) c m.flags n.flags (ap (λ g. register g r) regs) flags h
one-stays (Word o c) test p m n regs flags words well fails h =
    compared (number_in (byte_in m) p.stack o B32) (number_in (byte_in n) p.stack o B32) c m.flags n.flags (words o c fails well.0) flags h

pub note-stays : (old new : Option Note) (test : Note → Bool) (p : Places) (m n : MachineState) → IsNoteOf old test new → ForSome old IsWellNote → n.registers ≡ m.registers → n.flags ≡ m.flags
    → ((o : ℤ) (c : ℕ) → test (Word o c) ≡ false → IsInside (interval_at (In Stack) o (pos 4)) → number_in (byte_in n) p.stack o B32 ≡ number_in (byte_in m) p.stack o B32)
    → NoteStands old p m → NoteStands new p n
note-stays old None test p m n is well regs flags words h = tt
note-stays old (Some x) test p m n is well regs flags words h =
    let k = is x refl in
    one-stays x test p m n regs flags words (well x k.0) k.1 (subst (λ (o : Option Note). NoteStands o p m) k.0 h)
