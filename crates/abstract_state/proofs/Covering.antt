-- What a covering state describes.
use Rattle.std.proofs.Common.{◌≡◌, ℕ, Bool, true, false, ◌&&◌, Option, Some, None, refl, sym, ap, ◌∙◌, subst, arith, ℤ}
use Rattle.std.specs.Prelude.{◌==◌}
use Rattle.std.specs.Ordering.{int_eq}
use Rattle.std.proofs.lemmas.Grind.{common_steps}
use Rattle.std.proofs.lemmas.Int.{ints}
use Rattle.address_regions.specs.Places.{Places, IsValid}
use Rattle.domain_laws.specs.Laws.{Values, IsLawful}
use Rattle.memory_map.specs.State.{Flags, MachineState}
use Rattle.abstract_state.specs.declared.flags.Truths.{Truths}
use Rattle.memory_map.specs.declared.registers.Regs.{Regs}
use Rattle.abstract_state.specs.Flags.{FlagsStand, covers_flags}
use Rattle.abstract_state.specs.Registers.{RegistersStand, covers_registers}
use Rattle.abstract_state.specs.State.{covers_state}
use Rattle.partitioned_memory.proofs.CallsKept.{covers-describes}
use Rattle.abstract_state.specs.declared.note.Note.{Note}
use Rattle.abstract_state.specs.declared.note.Note.TheVariants.{Register, Word}
use Rattle.abstract_state.specs.Notes.{covers_note, same_note}
use Rattle.abstract_state.specs.Describes.{NoteStands, byte_in}
use Rattle.abstract_state.specs.Laws.{CoveringIsSound}
use Rattle.abstract_state.proofs.Logic.{covers_stands}

pub first : (a b : Bool) → (a && b) ≡ true → a ≡ true
first true b e = refl
first false b e = cc

pub rest : (a b : Bool) → (a && b) ≡ true → b ≡ true
rest true b e = e
rest false b e = cc

flags_cover : (t s : Truths) (f : Flags) → covers_flags t s ≡ true → FlagsStand s f → FlagsStand t f
flags_cover t s f e h =
    let e1 = first _ _ e in let e2 = first _ _ e1 in let e3 = first _ _ e2 in let e4 = first _ _ e3 in let e5 = first _ _ e4 in
    record {
      carry = covers_stands t.carry s.carry f.carry (first _ _ e5) h.carry;
      parity = covers_stands t.parity s.parity f.parity (rest _ _ e5) h.parity;
      adjust = covers_stands t.adjust s.adjust f.adjust (rest _ _ e4) h.adjust;
      zero = covers_stands t.zero s.zero f.zero (rest _ _ e3) h.zero;
      sign = covers_stands t.sign s.sign f.sign (rest _ _ e2) h.sign;
      overflow = covers_stands t.overflow s.overflow f.overflow (rest _ _ e1) h.overflow;
      direction = covers_stands t.direction s.direction f.direction (rest _ _ e) h.direction;
    }

pub nat-same : (a b : ℕ) → (a == b) ≡ true → a ≡ b
nat-same a b e = grind (arith, common_steps)

pub int-same : (a b : ℤ) → int_eq a b ≡ true → a ≡ b
int-same a b e = grind (arith, ints, common_steps)

same_note-is : (t s : Note) → same_note t s ≡ true → t ≡ s
same_note-is (Register r c) (Register q k) e =
    let same : r ≡ q = nat-same r q (first _ _ e) in
    let number : c ≡ k = nat-same c k (rest _ _ e) in
    ap (λ x. Register x c) same ∙ ap (Register q) number
same_note-is (Register r c) (Word o k) e = absurd (cc)
same_note-is (Word o c) (Register r k) e = absurd (cc)
same_note-is (Word o c) (Word q k) e =
    let same : o ≡ q = int-same o q (first _ _ e) in
    let number : c ≡ k = nat-same c k (rest _ _ e) in
    ap (λ x. Word x c) same ∙ ap (Word q) number

note_cover : (t s : Option Note) (p : Places) (m : MachineState) → covers_note t s ≡ true → NoteStands s p m → NoteStands t p m
note_cover None s p m e h = tt
note_cover (Some t) None p m e h = absurd (cc)
note_cover (Some t) (Some s) p m e h = subst (λ (n : Note). NoteStands (Some n) p m) (sym (same_note-is t s e)) h

module _ {D : Type 0} (d : Values D) (l : IsLawful d) where
  registers_cover : (t s : Regs D) (p : Places) (m : Regs ℕ) → IsValid p → covers_registers d t s ≡ true → RegistersStand d s p m → RegistersStand d t p m
  registers_cover t s p m valid e h =
      let e1 = first _ _ e in let e2 = first _ _ e1 in let e3 = first _ _ e2 in let e4 = first _ _ e3 in let e5 = first _ _ e4 in let e6 = first _ _ e5 in
      record {
        eax = l.leq_stands s.eax t.eax p m.eax valid (first _ _ e6) h.eax;
        ecx = l.leq_stands s.ecx t.ecx p m.ecx valid (rest _ _ e6) h.ecx;
        edx = l.leq_stands s.edx t.edx p m.edx valid (rest _ _ e5) h.edx;
        ebx = l.leq_stands s.ebx t.ebx p m.ebx valid (rest _ _ e4) h.ebx;
        esp = l.leq_stands s.esp t.esp p m.esp valid (rest _ _ e3) h.esp;
        ebp = l.leq_stands s.ebp t.ebp p m.ebp valid (rest _ _ e2) h.ebp;
        esi = l.leq_stands s.esi t.esi p m.esi valid (rest _ _ e1) h.esi;
        edi = l.leq_stands s.edi t.edi p m.edi valid (rest _ _ e) h.edi;
      }

  pub covering-is_sound : CoveringIsSound d
  unfolding covers_state
  covering-is_sound image t s p m e h =
      let e1 = rest _ _ e in let e2 = rest _ _ e1 in
      record {
        fits = h.fits;
        words = h.words;
        registers = registers_cover t.regs s.regs p m.registers h.fits.valid (first _ _ e) h.registers;
        flags = flags_cover t.flags s.flags m.flags (first _ _ e1) h.flags;
        note = note_cover t.note s.note p m (first _ _ e2) h.note;
        parts = covers-describes d l image.segments image.unset p (byte_in m) t.parts s.parts h.fits.valid (rest _ _ e2) h.parts;
      }
