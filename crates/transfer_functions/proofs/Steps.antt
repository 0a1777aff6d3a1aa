-- Each step of an expansion stands for that of the machine: registers and operands read and written, flags, and where it goes.
use Rattle.std.proofs.Common.{◌≡◌, ℕ, zero, suc, ◌+◌, ◌*◌, ◌<◌, ◌%◌, ◌^◌, Bool, true, false, ◌==◌, List, [], cond, Option, Some, None, refl, sym, ◌∙◌, ap, subst, arith, ◌⊎◌, inl, inr}
use Rattle.std.specs.Prelude.{⊤, pos}
use Rattle.std.proofs.lemmas.Int.{ints}
use Rattle.std.proofs.lemmas.Bool.{eqb-true, eq-eqb}
use Rattle.std.proofs.lemmas.Bool.Decides.{nat_tests}
use Rattle.address_regions.specs.declared.region.Region.{Region}
use Rattle.address_regions.specs.declared.region.Region.TheVariants as regions
use Rattle.address_regions.specs.Extents.{has_one_base}
use Rattle.address_regions.specs.Places.{HasBase, Places, place_at}
use Rattle.address_regions.proofs.PlaceLaws.{place_at-is}
use Rattle.bit_words.specs.declared.width.Width.{Width}
use Rattle.bit_words.specs.declared.width.Width.TheVariants.{B8, B16, B32}
use Rattle.bit_words.specs.declared.op.Op.{Op}
use Rattle.bit_words.specs.declared.op.Op.TheVariants.{Add, Low16, PutLow16, Shl}
use Rattle.bit_words.specs.Width.{bits_of, cut}
use Rattle.bit_words.specs.Operators.{apply_op}
use Rattle.bit_words.proofs.Laws.{apply-lt, cut-lt}
use Rattle.domain_laws.specs.Laws.{Values, IsLawful}
use Rattle.domain_laws.specs.Reached.{named}
use Rattle.memory_map.specs.declared.fault.FaultKind.TheVariants.{Trap}
use Rattle.memory_map.specs.Image.{Image}
use Rattle.memory_map.specs.Registers.{register, with_register}
use Rattle.memory_map.specs.State.{MachineState, Flags, HasWords}
use Rattle.memory_map.specs.declared.registers.Regs.{Regs}
use Rattle.partitioned_memory.specs.declared.fact.Counted.{Counted}
use Rattle.partitioned_memory.specs.Well.{HasCount, MayHold}
use Rattle.x86_syntax.specs.declared.instr.Address.{Address}
use Rattle.x86_syntax.specs.declared.instr.Seg.{Seg}
use Rattle.x86_syntax.specs.declared.instr.Seg.TheVariants.{Plain, Fs, Gs}
use Rattle.x86_syntax.specs.declared.instr.Operand.{Operand}
use Rattle.x86_syntax.specs.declared.instr.Operand.TheVariants.{Register, Number, Memory, Offset}
use Rattle.x86_semantics.specs.Memory.{word_at}
use Rattle.x86_semantics.specs.Operands.{Ended, Next, Faulted, address_of, base_part, index_part, offset_in_segment, segment_base, at_address, with_flags as with_flags_of, on_word, reading as reading_of, writing as writing_of}
use Rattle.x86_semantics.specs.Registers.{byte_part, put_byte_part, part as part_of, with_part as with_part_of, register as register_of, with_register as with_register_of}
use Rattle.x86_semantics.specs.Widths.{width_of, is_place, is_value}
use Rattle.flow_log.proofs.Members.{Contains-here}
use Rattle.abstract_state.specs.declared.note.Note.{Note}
use Rattle.abstract_state.specs.declared.note.Note.TheVariants as notes
use Rattle.abstract_state.specs.declared.flags.Truths.{Truths}
use Rattle.abstract_state.specs.Describes.{AreOfComparison, NoteStands}
use Rattle.abstract_state.specs.Expanding.{Expanded, Path, lands}
use Rattle.abstract_state.specs.Flags.{FlagsStand}
use Rattle.abstract_state.specs.Notes.{IsWellNote, is_of_register, note_unless}
use Rattle.std.specs.Option.{ForSome}
use Rattle.abstract_state.specs.State.{Known, with_flags, with_register_value}
use Rattle.abstract_state.proofs.BridgeFits.{fits_kept}
use Rattle.abstract_state.proofs.Bridge.{Stands, Holds, Ends, any_known, number_known, loading_ends, storing_ends}
use Rattle.transfer_functions.specs.Values.{on_state, part, with_part, register_value, reading, writing, address_value, base_value, in_segment, index_value, log_of_scale, offset_value, scaled_value}
use Rattle.transfer_functions.proofs.Addresses.{IsLog, add_is, log_is, not_named, sum_is}
use Rattle.transfer_functions.proofs.Words.{word_fits, byte_fits, low_word_fits}

-- ---- registers by their numbers

-- what is said of the eight registers is said of each number
either_is : {A B : Type 0} (R : A → B → Type 0) (b : Bool) (v u : A) (x y : B) → R v x → R u y → R (cond b v u) (cond b x y)
either_is R true v u x y h k = h
either_is R false v u x y h k = k

pub each_register : {A B : Type 0} (R : A → B → Type 0) (g : Regs A) (m : Regs B) → R g.eax m.eax → R g.ecx m.ecx → R g.edx m.edx → R g.ebx m.ebx → R g.esp m.esp → R g.ebp m.ebp → R g.esi m.esi → R g.edi m.edi
    → (r : ℕ) → R (register g r) (register m r)
unfolding register
each_register R g m eax ecx edx ebx esp ebp esi edi r =
    either_is R (r == 0) _ _ _ _ eax (either_is R (r == 1) _ _ _ _ ecx (either_is R (r == 2) _ _ _ _ edx (either_is R (r == 3) _ _ _ _ ebx
    (either_is R (r == 4) _ _ _ _ esp (either_is R (r == 5) _ _ _ _ ebp (either_is R (r == 6) _ _ _ _ esi edi))))))

pub each_value : {A : Type 0} (P : A → Type 0) (g : Regs A) → P g.eax → P g.ecx → P g.edx → P g.ebx → P g.esp → P g.ebp → P g.esi → P g.edi → (r : ℕ) → P (register g r)
each_value P g eax ecx edx ebx esp ebp esi edi r = each_register (λ a b. P a) g g eax ecx edx ebx esp ebp esi edi r

pub either_value : {A : Type 0} (P : A → Type 0) (b : Bool) (v u : A) → P v → P u → P (cond b v u)
either_value P true v u h k = h
either_value P false v u h k = k

-- another register is as it was
turned : (q r : ℕ) → (q == r) ≡ false → (r == q) ≡ false
turned q r e = grind (arith, nat_tests)

other_register : {V : Type 0} (g : Regs V) (r q : ℕ) (v : V) → q < 8 → (q == r) ≡ false → register (with_register g r v) q ≡ register g q
unfolding register with_register
other_register g r zero v less e = ap (λ b. cond b v g.eax) (turned zero r e)
other_register g r (suc zero) v less e = ap (λ b. cond b v g.ecx) (turned 1 r e)
other_register g r (suc (suc zero)) v less e = ap (λ b. cond b v g.edx) (turned 2 r e)
other_register g r (suc (suc (suc zero))) v less e = ap (λ b. cond b v g.ebx) (turned 3 r e)
other_register g r (suc (suc (suc (suc zero)))) v less e = ap (λ b. cond b v g.esp) (turned 4 r e)
other_register g r (suc (suc (suc (suc (suc zero))))) v less e = ap (λ b. cond b v g.ebp) (turned 5 r e)
other_register g r (suc (suc (suc (suc (suc (suc zero)))))) v less e = ap (λ b. cond b v g.esi) (turned 6 r e)
other_register g r (suc (suc (suc (suc (suc (suc (suc zero))))))) v less e = ap (λ b. cond b v g.edi) (turned 7 r e)
other_register g r (suc (suc (suc (suc (suc (suc (suc (suc q)))))))) v less e = absurd (omega arith)

-- ---- the note

pub unless_well : (test : Note → Bool) (note : Option Note) → ForSome note IsWellNote → ForSome (note_unless test note) IsWellNote
unless_well test None h = h
unless_well test (Some n) h = either_value (λ o. ForSome o IsWellNote) (test n) None (Some n) (λ n e. cc) h

note_at : (p : Places) (m : MachineState) (r x q c : ℕ) (b : Bool) → (q == r) ≡ b → q < 8 → AreOfComparison (register m.registers q) c m.flags
    → NoteStands (cond b None (Some (notes.Register q c))) p (record m { registers = with_register m.registers r x })
note_at p m r x q c true e less h = tt
note_at p m r x q c false e less h = subst (λ n. AreOfComparison n c m.flags) (sym (other_register m.registers r q x less e)) h

unless_stands : (p : Places) (m : MachineState) (r x : ℕ) (note : Option Note) → ForSome note IsWellNote → NoteStands note p m
    → NoteStands (note_unless (is_of_register r) note) p (record m { registers = with_register m.registers r x })
unless_stands p m r x None well h = tt
unless_stands p m r x (Some (notes.Register q c)) well h = note_at p m r x q c (q == r) refl (well (notes.Register q c) refl).0 h
unless_stands p m r x (Some (notes.Word o c)) well h = h

address_note : (note : Option Note) (p : Places) (m : MachineState) (a : ℕ) → NoteStands note p m → NoteStands note p (at_address a m)
address_note None p m a h = tt
address_note (Some (notes.Register q c)) p m a h = h
address_note (Some (notes.Word o c)) p m a h = h

module _ {D : Type 0} (d : Values D) (l : IsLawful d) (image : Image) (p : Places) (blocks : List Counted) where
  abbrev pub S : Width → D → ℕ → Type 0
  S w v x = Stands d l image p blocks w v x

  abbrev pub H : Path D → MachineState → Type 0
  H q m = Holds d l image p blocks q m

  abbrev pub E : Expanded D → Ended → Type 0
  E x e = Ends d l image p blocks x e

  -- ---- values

  counted_of : (o a b : Option Region) → ((s : Region) → o ≡ Some s → (a ≡ Some s) ⊎ (b ≡ Some s)) → HasCount blocks a → HasCount blocks b → HasCount blocks o
  counted_of None a b names h k = tt
  counted_of (Some s) a b names h k = elim (names s refl) [ inl e ↦ subst (HasCount blocks) e h | inr e ↦ subst (HasCount blocks) e k ]

  -- an operator at values stands for its result
  pub eval_stands : (op : Op) (w : Width) (v u : D) (x y : ℕ) (q : Path D) (m : MachineState) → H q m → S w v x → S w u y → S w (d.eval op w v u image.align) (apply_op op w x y)
  eval_stands op w v u x y q m h a b =
      let f = h.describes.fits in
      let P : ℕ → Type 0 = λ k. d.stands (d.eval op w v u k) p (apply_op op w x y) in
      record {
        stands = subst P f.align (l.eval_stands op w v u p x y f.valid a.fits b.fits a.stands b.stands);
        fits = apply-lt op w x y;
        counted = counted_of _ _ _ (l.eval_names op w v u image.align) a.counted b.counted;
      }

  -- a word of a width as one of 32 bits
  widened : (w : Width) (v : D) (x : ℕ) → S w v x → S B32 v x
  widened w v x h = record { stands = h.stands; fits = word_fits w x h.fits; counted = h.counted }

  -- ---- registers

  register_fits : (m : MachineState) (q : Path D) → H q m → (r : ℕ) → register m.registers r < 2 ^ 32
  register_fits m q h r = let w = h.describes.words in each_value (λ n. n < 2 ^ 32) m.registers w.eax w.ecx w.edx w.ebx w.esp w.ebp w.esi w.edi r

  pub register_stands : (r : ℕ) (q : Path D) (m : MachineState) → H q m → S B32 (register_value r q.state) (register_of r m)
  unfolding register_of
  register_stands r q m h =
      let g = h.describes.registers in
      record {
        stands = each_register (λ v x. d.stands v p x) q.state.regs m.registers g.eax g.ecx g.edx g.ebx g.esp g.ebp g.esi g.edi (r % 8);
        fits = register_fits m q h (r % 8);
        counted = subst (λ (bs : List Counted). HasCount bs (named (d.reach (register q.state.regs (r % 8))))) h.blocks_same (h.well.registers (r % 8)).counted;
      }

  -- what is said of a word may be held
  pub may_hold : (w : Width) (v : D) (x : ℕ) (q : Path D) (m : MachineState) → H q m → S w v x → MayHold d q.state.parts.blocks w v
  may_hold w v x q m h k = record {
    fits = λ n e. subst (λ y. y < 2 ^ bits_of w) (l.number_of_alone v n p x h.describes.fits.valid e k.stands) k.fits;
    counted = subst (λ (bs : List Counted). HasCount bs (named (d.reach v))) (sym h.blocks_same) k.counted;
  }

  held : (q : Path D) (m : MachineState) → H q m → (r : ℕ) → MayHold d q.state.parts.blocks B32 (register q.state.regs r)
  held q m h r = h.well.registers r

  -- another word in a register
  pub with_register_holds : (r : ℕ) (v : D) (x : ℕ) (q : Path D) (m : MachineState) → S B32 v x → H q m → H (on_state (with_register_value (r % 8) v) q) (with_register_of r x m)
  unfolding with_register_of with_register register
  with_register_holds r v x q m k h =
      let e = h.describes in let g = e.registers in let w = e.words in
      let R : D → ℕ → Type 0 = λ u y. d.stands u p y in
      let F : ℕ → Type 0 = λ y. y < 2 ^ 32 in
      let M : D → Type 0 = λ u. MayHold d q.state.parts.blocks B32 u in
      let own = may_hold B32 v x q m h k in
      record {
        well = record {
          parts = h.well.parts;
          registers = each_value M (with_register q.state.regs (r % 8) v)
              (either_value M (r % 8 == 0) _ _ own (held q m h 0)) (either_value M (r % 8 == 1) _ _ own (held q m h 1)) (either_value M (r % 8 == 2) _ _ own (held q m h 2)) (either_value M (r % 8 == 3) _ _ own (held q m h 3))
              (either_value M (r % 8 == 4) _ _ own (held q m h 4)) (either_value M (r % 8 == 5) _ _ own (held q m h 5)) (either_value M (r % 8 == 6) _ _ own (held q m h 6)) (either_value M (r % 8 == 7) _ _ own (held q m h 7));
          small = h.well.small;
          note = unless_well (is_of_register (r % 8)) q.state.note h.well.note;
        };
        describes = record {
          fits = fits_kept image p m _ (record { mapped = refl; stack = refl; fs = refl; gs = refl }) e.fits.bytes e.fits;
          words = record {
            eax = either_value F (r % 8 == 0) _ _ k.fits w.eax;
            ecx = either_value F (r % 8 == 1) _ _ k.fits w.ecx;
            edx = either_value F (r % 8 == 2) _ _ k.fits w.edx;
            ebx = either_value F (r % 8 == 3) _ _ k.fits w.ebx;
            esp = either_value F (r % 8 == 4) _ _ k.fits w.esp;
            ebp = either_value F (r % 8 == 5) _ _ k.fits w.ebp;
            esi = either_value F (r % 8 == 6) _ _ k.fits w.esi;
            edi = either_value F (r % 8 == 7) _ _ k.fits w.edi;
            eip = w.eip;
            fs = w.fs;
            gs = w.gs;
          };
          registers = record {
            eax = either_is R (r % 8 == 0) _ _ _ _ k.stands g.eax;
            ecx = either_is R (r % 8 == 1) _ _ _ _ k.stands g.ecx;
            edx = either_is R (r % 8 == 2) _ _ _ _ k.stands g.edx;
            ebx = either_is R (r % 8 == 3) _ _ _ _ k.stands g.ebx;
            esp = either_is R (r % 8 == 4) _ _ _ _ k.stands g.esp;
            ebp = either_is R (r % 8 == 5) _ _ _ _ k.stands g.ebp;
            esi = either_is R (r % 8 == 6) _ _ _ _ k.stands g.esi;
            edi = either_is R (r % 8 == 7) _ _ _ _ k.stands g.edi;
          };
          flags = e.flags;
          note = unless_stands p m (r % 8) x q.state.note h.well.note e.note;
          parts = e.parts;
        };
        blocks_same = h.blocks_same;
      }

  -- ---- parts of registers

  pub part_stands : (w : Width) (r : ℕ) (q : Path D) (m : MachineState) → H q m → S w (part d image.align w r q.state) (part_of w r m)
  part_stands B8 r q m h =
      let k = eval_stands (byte_part r) B32 _ _ _ 0 q m h (register_stands (r % 4) q m h) (number_known d l image p blocks B32 0 q m h (omega arith)) in
      record { stands = k.stands; fits = byte_fits r (register_of (r % 4) m) 0; counted = k.counted }
  part_stands B16 r q m h =
      let k = eval_stands Low16 B32 _ _ _ 0 q m h (register_stands r q m h) (number_known d l image p blocks B32 0 q m h (omega arith)) in
      record { stands = k.stands; fits = low_word_fits (register_of r m) 0; counted = k.counted }
  part_stands B32 r q m h = register_stands r q m h

  pub with_part_holds : (w : Width) (r : ℕ) (v : D) (x : ℕ) (q : Path D) (m : MachineState) → S w v x → H q m → H (on_state (with_part d image.align w r v) q) (with_part_of w r x m)
  with_part_holds B8 r v x q m k h =
      with_register_holds (r % 4) _ _ q m (eval_stands (put_byte_part r) B32 _ v _ x q m h (register_stands (r % 4) q m h) (widened B8 v x k)) h
  with_part_holds B16 r v x q m k h = with_register_holds r _ _ q m (eval_stands PutLow16 B32 _ v _ x q m h (register_stands r q m h) (widened B16 v x k)) h
  with_part_holds B32 r v x q m k h = with_register_holds r v x q m k h

  pub value_flags : (w : Width) (r : ℕ) (v : D) (s : Known D) → (with_part d image.align w r v s).flags ≡ s.flags
  value_flags B8 r v s = refl
  value_flags B16 r v s = refl
  value_flags B32 r v s = refl

  -- ---- flags, and the next address

  -- the same machine but for its flags and its address
  words_same : (m : MachineState) (f : Flags) (a : ℕ) → a < 2 ^ 32 → HasWords m → HasWords (record m { flags = f; eip = a })
  words_same m f a less w = record { eax = w.eax; ecx = w.ecx; edx = w.edx; ebx = w.ebx; esp = w.esp; ebp = w.ebp; esi = w.esi; edi = w.edi; eip = less; fs = w.fs; gs = w.gs }

  -- other flags, and what is noted of them
  pub noted_holds : (t : Truths) (kept : Option Note) (f : Flags) (q : Path D) (m : MachineState) → FlagsStand t f → ForSome kept IsWellNote → NoteStands kept p (with_flags_of f m) → H q m
      → H (on_state (λ s. record s { flags = t; note = kept }) q) (with_flags_of f m)
  noted_holds t kept f q m flags well stands h =
      let e = h.describes in
      record {
        well = record { parts = h.well.parts; registers = h.well.registers; small = h.well.small; note = well };
        describes = record {
          fits = fits_kept image p m _ (record { mapped = refl; stack = refl; fs = refl; gs = refl }) e.fits.bytes e.fits;
          words = words_same m f m.eip e.words.eip e.words;
          registers = e.registers;
          flags = flags;
          note = stands;
          parts = e.parts;
        };
        blocks_same = h.blocks_same;
      }

  pub with_flags_holds : (t : Truths) (f : Flags) (q : Path D) (m : MachineState) → FlagsStand t f → H q m → H (on_state (with_flags t) q) (with_flags_of f m)
  with_flags_holds t f q m flags h = noted_holds t None f q m flags (λ n e. cc) tt h

  pub lands_ends : (a : ℕ) (q : Path D) (m : MachineState) → a < 2 ^ 32 → H q m → E (lands a q) (Next (at_address a m))
  lands_ends a q m less h none =
      let e = h.describes in
      record {
        state = q.state;
        pair = Contains-here (a, q.state) [];
        well = h.well;
        describes = record {
          fits = fits_kept image p m _ (record { mapped = refl; stack = refl; fs = refl; gs = refl }) e.fits.bytes e.fits;
          words = words_same m m.flags a less e.words;
          registers = e.registers;
          flags = e.flags;
          note = address_note q.state.note p m a e.note;
          parts = e.parts;
        };
      }

  pub part_flags : (w : Width) (r x : ℕ) (m : MachineState) → (with_part_of w r x m).flags ≡ m.flags
  unfolding with_register_of
  part_flags B8 r x m = refl
  part_flags B16 r x m = refl
  part_flags B32 r x m = refl

  -- ---- operands

  -- what an operand is read as
  abbrev pub IsRead : Operand → MachineState → ℕ → Type 0
  IsRead (Register w r) m x = x ≡ part_of w r m
  IsRead (Number w n) m x = x ≡ cut w n
  IsRead (Memory w a) m x = word_at w (address_of a m) m ≡ Some x
  IsRead (Offset o) m x = ⊤

  -- ---- addresses

  base_stands : (b : Option ℕ) (q : Path D) (m : MachineState) → H q m → S B32 (base_value d image.align b q.state) (base_part b m)
  base_stands None q m h = number_known d l image p blocks B32 0 q m h (omega arith)
  base_stands (Some r) q m h = register_stands r q m h

  scaled_stands : (log : Option ℕ) (scale : ℕ) (v : D) (x : ℕ) (q : Path D) (m : MachineState) → IsLog log scale → S B32 v x → H q m → S B32 (scaled_value d image.align log v) (x * scale % 2 ^ 32)
  scaled_stands None scale v x q m is k h = any_known d l image p blocks B32 (x * scale % 2 ^ 32) q m h (omega arith)
  scaled_stands (Some log) scale v x q m is k h =
      subst (S B32 (d.eval Shl B32 v (d.number log) image.align)) (is.1 x) (eval_stands Shl B32 v (d.number log) x log q m h k (number_known d l image p blocks B32 log q m h is.0))

  index_stands : (i : Option (ℕ × ℕ)) (q : Path D) (m : MachineState) → H q m → S B32 (index_value d image.align i q.state) (index_part i m % 2 ^ 32)
  index_stands None q m h = number_known d l image p blocks B32 0 q m h (omega arith)
  index_stands (Some i) q m h = scaled_stands (log_of_scale i.1) i.1 (register_value i.0 q.state) (register_of i.0 m) q m (log_is i.1) (register_stands i.0 q m h) h

  pub offset_stands : (a : Address) (q : Path D) (m : MachineState) → H q m → S B32 (offset_value d image.align a q.state) (offset_in_segment a m)
  unfolding offset_value offset_in_segment
  offset_stands a q m h =
      let both = eval_stands Add B32 _ _ _ _ q m h (base_stands a.base q m h) (index_stands a.index q m h) in
      subst (S B32 (offset_value d image.align a q.state)) (sum_is (base_part a.base m) (index_part a.index m) a.disp)
      (eval_stands Add B32 _ (d.number (cut B32 a.disp)) _ (cut B32 a.disp) q m h both (number_known d l image p blocks B32 (cut B32 a.disp) q m h (cut-lt B32 a.disp)))

  -- the place of a window with one base
  window_stands : (r : Region) (base : ℕ) (q : Path D) (m : MachineState) → has_one_base r ≡ true → HasBase p r base → base < 2 ^ 32 → H q m → S B32 (d.place r (pos 0)) base
  window_stands r base q m one based less h =
      let at : place_at base (pos 0) ≡ base = place_at-is base (pos 0) base (omega (arith, ints)) less in
      record {
        stands = subst (d.stands (d.place r (pos 0)) p) at (l.place_stands r (pos 0) base p h.describes.fits.valid based);
        fits = less;
        counted = counted_of _ None None (λ s e. absurd (not_named (d.reach (d.place r (pos 0))) s e (ap has_one_base (l.place_names r (pos 0) s e) ∙ one))) tt tt;
      }

  pub segment_stands : (seg : Seg) (v : D) (x : ℕ) (q : Path D) (m : MachineState) → S B32 v x → H q m → S B32 (in_segment d image.align seg v) ((segment_base seg m + x) % 2 ^ 32)
  segment_stands Plain v x q m k h =
      let same : x ≡ (0 + x) % 2 ^ 32 = omega (arith, k.fits) in subst (S B32 v) same k
  segment_stands Fs v x q m k h =
      let e = h.describes in
      subst (S B32 (d.eval Add B32 (d.place regions.Fs (pos 0)) v image.align)) (add_is m.fs x)
      (eval_stands Add B32 _ v m.fs x q m h (window_stands regions.Fs m.fs q m refl e.fits.fs e.words.fs h) k)
  segment_stands Gs v x q m k h =
      let e = h.describes in
      subst (S B32 (d.eval Add B32 (d.place regions.Gs (pos 0)) v image.align)) (add_is m.gs x)
      (eval_stands Add B32 _ v m.gs x q m h (window_stands regions.Gs m.gs q m refl e.fits.gs e.words.gs h) k)

  pub address_stands : (a : Address) (q : Path D) (m : MachineState) → H q m → S B32 (address_value d image.align a q.state) (address_of a m)
  unfolding address_of
  address_stands a q m h = segment_stands a.seg (offset_value d image.align a q.state) (offset_in_segment a m) q m (offset_stands a q m h) h

  -- what follows a load need hold only for the word that is there: for another it may fault
  only_word : (o : Option ℕ) (w : Width) (m : MachineState) (go : ℕ → Ended) (k : D → Expanded D) (x : Expanded D) → ((y : ℕ) → o ≡ Some y → (v : D) → S w v y → E (k v) (go y))
      → ((then : ℕ → Ended) → ((v : D) (y : ℕ) → S w v y → E (k v) (then y)) → E x (on_word m o then)) → E x (on_word m o go)
  only_word None w m go k x here ends = tt
  only_word (Some n) w m go k x here ends =
      let then : ℕ → Ended = λ y. cond (y == n) (go y) (Faulted Trap m) in
      let at : E x (then n) = ends then (λ v y s. elim (y == n) as (λ b. (y == n) ≡ b → E (k v) (cond b (go y) (Faulted Trap m))) [
        | true ↦ λ e. let same : y ≡ n = eqb-true y n e in here y (ap (λ z. Some z) (sym same)) v s
        | false ↦ λ e. tt
      ] refl) in
      subst (λ b. E x (cond b (go n) (Faulted Trap m))) (eq-eqb n n refl) at

  pub reading_ends : (o : Operand) (q : Path D) (m : MachineState) (k : D → Expanded D) (go : ℕ → Ended) → is_value o ≡ true → H q m
      → ((v : D) (x : ℕ) → S (width_of o) v x → IsRead o m x → E (k v) (go x)) → E (reading d image q o k) (reading_of m o go)
  reading_ends (Register w r) q m k go is h then = then _ _ (part_stands w r q m h) refl
  reading_ends (Number w n) q m k go is h then = then _ _ (number_known d l image p blocks w (cut w n) q m h (cut-lt w n)) refl
  reading_ends (Memory w a) q m k go is h then =
      only_word (word_at w (address_of a m) m) w m go k _ (λ x e v s. then v x s e)
      (λ go. loading_ends d l image p blocks q m w (address_value d image.align a q.state) (address_of a m) k go h (address_stands a q m h))
  reading_ends (Offset o) q m k go is h then = cc

  pub writing_ends : (o : Operand) (v : D) (x : ℕ) (q : Path D) (m : MachineState) (k : Path D → Expanded D) (go : MachineState → Ended) → is_place o ≡ true → S (width_of o) v x → H q m
      → ((r : Path D) (n : MachineState) → H r n → n.flags ≡ m.flags → E (k r) (go n)) → E (writing d image q o v k) (writing_of m o x go)
  writing_ends (Register w r) v x q m k go is s h then = then _ _ (with_part_holds w r v x q m s h) (part_flags w r x m)
  writing_ends (Memory w a) v x q m k go is s h then =
      storing_ends d l image p blocks q m w (address_value d image.align a q.state) v (address_of a m) x k go h (address_stands a q m h) s (λ r n holds after. then r n holds after.flags)
  writing_ends (Number w n) v x q m k go is s h then = cc
  writing_ends (Offset o) v x q m k go is s h then = cc
