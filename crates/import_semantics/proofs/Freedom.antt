-- What a call leaves open may become anything.
use Rattle.std.proofs.Common.{◌≡◌, ℕ, zero, suc, ◌+◌, ◌-◌, ◌<◌, ◌≤◌, Bool, true, false, cond, List, [], ◌∷◌, ◌++◌, map, Some, None, refl, sym, ◌∙◌, ap, arith, inl, inr}
use Rattle.std.specs.Prelude.{◌≢◌, ◌⊎◌, not, ◌&&◌, ◌||◌, nat_le, nat_lt, All}
use Rattle.std.specs.List.{list_all, list_any}
use Rattle.std.proofs.Math.Nat.{mod-eq_of_lt}
use Rattle.std.proofs.lemmas.Bool.{and_from, and_parts, cases_Bool, false≢true, le-leb, leb-true, lt-ltb, ltb-true, ne_eqb, or_left, or_right}
use Rattle.std.proofs.lemmas.List.Elements.{All-head}
use Rattle.std.proofs.lemmas.List.Folds.{list_all-append, list_all-map, list_any_at}
use Rattle.std.proofs.lemmas.List.Sums.{AllPass-from_list_all}
use Rattle.bit_words.specs.declared.width.Width.TheVariants.{B8}
use Rattle.bit_words.specs.Flags.{FlagBits, packed_bits}
use Rattle.bit_words.specs.Width.{cut}
use Rattle.bit_words.proofs.FlagLaws.{unpacked-packed}
use Rattle.memory_map.specs.declared.choice.Choice.{Choice}
use Rattle.memory_map.specs.declared.fault.FaultKind.TheVariants as kinds
use Rattle.memory_map.specs.declared.span.Span.{Span}
use Rattle.memory_map.specs.Image.{EXIT_PLACE}
use Rattle.memory_map.specs.Range.{IsInUserSpace, Range, byte_at, has, mapping_of, may_write, may_write_each}
use Rattle.memory_map.specs.Spans.{is_in_span}
use Rattle.memory_map.specs.State.{Flags, MachineState, memory}
use Rattle.memory_map.proofs.Mappings.{apart_mapped, inside_mapped, is_written, mapped_inside, written_mapped, written_same, writes_at}
use Rattle.memory_map.proofs.RunBytes.{all_in_range}
use Rattle.memory_map.proofs.Writing.{list_any-map}
use Rattle.stub_file.specs.declared.stub.Reply.{Reply}
use Rattle.stub_file.specs.declared.stub.Reply.TheVariants.{Anything, Block, Enter, Never, Number}
use Rattle.stub_file.specs.declared.stub.Stub.{Stub}
use Rattle.stub_file.specs.declared.stub.StubWrite.{StubWrite}
use Rattle.x86_semantics.specs.Memory.{may_write_all, next_byte, with_byte, with_number}
use Rattle.x86_semantics.proofs.Storing.{byte-same, puts-mapping, stored-is}
use Rattle.import_semantics.specs.StubDoes.{after_call, amount, argument, bad_of, block_of, exit_spans, filled_in, frame_size, has_frame, is_allowed, is_freed, lacks_block, may_fail, may_hold, is_zeroed, may_write_span, span_of, spans_of, with_block, with_bytes, with_exit}
use Rattle.import_semantics.specs.Laws.{BytesAreFree, HasRanges, IsBelowEnd, IsOffExit, IsWritten, RegistersAreFree, always_allocates}
use Rattle.import_semantics.proofs.Returning.{no_kind, returned}

-- ---- where no fault holds

pub record IsClear (frame writes : Bool) : Type 0 where
  pub frame_is : frame ≡ true
  pub writes_are : writes ≡ true

pub clear_is : (frame writes lacks : Bool) → cond (not frame) (Some kinds.NoStack) (cond (not writes) (Some kinds.Write) (cond lacks (Some kinds.NoBlock) None)) ≡ None → IsClear frame writes
clear_is true true lacks e = record { frame_is = refl; writes_are = refl }
clear_is true false lacks e = cc
clear_is false writes lacks e = cc

-- ---- an address that is freed may be written

in_span : (a : ℕ) (s : Span) → s.low ≤ a → a < s.low + s.size → is_in_span a s ≡ true
in_span a s low end = and_from (nat_le s.low a) (nat_lt a (s.low + s.size)) (le-leb s.low a low) (lt-ltb a (s.low + s.size) end)

module _ (stub : Stub) (m : MachineState) (a : ℕ) where
  -- a write with a pointer other than 0 has its whole length
  span_is : (w : StubWrite) → argument w.arg m ≢ 0 → span_of m w ≡ record { low = argument w.arg m; size = amount w.length m }
  span_is w points =
      ap (λ t. record { low = argument w.arg m; size = cond t 0 (amount w.length m) }) (ne_eqb (argument w.arg m) 0 points)

  written_in : (h : IsWritten stub m a) → is_in_span a (span_of m h.write) ≡ true
  written_in h = ap (is_in_span a) (span_is h.write h.points) ∙ in_span a _ h.low h.end

  written_any : IsWritten stub m a → list_any (is_in_span a) (spans_of stub m) ≡ true
  written_any h =
      list_any-map (is_in_span a) (span_of m) stub.writes.items
      ∙ list_any_at (λ w. is_in_span a (span_of m w)) stub.writes.items h.listed.0 h.write h.listed.1 (ap (λ w. is_in_span a (span_of m w)) h.listed.2 ∙ written_in h)

  written_may : list_all (may_write_span m) (spans_of stub m) ≡ true → IsWritten stub m a → may_write (memory m) a ≡ true
  written_may all h =
      let each = AllPass-from_list_all (λ w. may_write_span m (span_of m w)) stub.writes.items (sym (list_all-map (may_write_span m) (span_of m) stub.writes.items) ∙ all) in
      let own : may_write_span m (span_of m h.write) ≡ true =
      sym (ap (λ w. may_write_span m (span_of m w)) h.listed.2) ∙ each h.listed.0 h.write h.listed.1 in
      let whole : may_write_each (memory m) (argument h.write.arg m) (amount h.write.length m) ≡ true =
      sym (ap (may_write_span m) (span_is h.write h.points)) ∙ own in
      all_in_range (may_write (memory m)) (argument h.write.arg m) (amount h.write.length m) a whole h.low h.end

  below_may : HasRanges m → IsBelowEnd stub m a → may_write (memory m) a ≡ true
  below_may ranges h =
      is_written (memory m) a ∙ or_left (writes_at a (mapping_of m.stack)) _ (and_from m.stack.write (has a m.stack) ranges.stack h.inside)

  below_is : IsBelowEnd stub m a → (has a m.stack && nat_lt a (m.registers.esp + frame_size stub)) ≡ true
  below_is h = and_from (has a m.stack) _ h.inside (lt-ltb a (m.registers.esp + frame_size stub) (omega (arith, h.below)))

  -- the four bytes below ESP are none of these
  off_exit : (r : Reply) → 4 ≤ m.registers.esp → IsOffExit r m a → not (list_any (is_in_span a) (exit_spans r m)) ≡ true
  off_exit Anything low off = refl
  off_exit (Number n) low off = refl
  off_exit (Block size zeroed may) low off = refl
  off_exit Never low off = refl
  off_exit (Enter i) low off =
      elim (cases_Bool (is_in_span a (record { low = m.registers.esp - 4; size = 4 }))) [
        | inl e ↦
            let parts = and_parts (nat_le (m.registers.esp - 4) a) (nat_lt a (m.registers.esp - 4 + 4)) e in
            let above = leb-true (m.registers.esp - 4) a parts.0 in
            let below = ltb-true a (m.registers.esp - 4 + 4) parts.1 in
            absurd (elim off [ inl l ↦ omega (arith, l, above, low) | inr g ↦ omega (arith, g, below, low) ])
        | inr e ↦ ap (λ t. not (t || false)) e
      ]

  freed_is : 4 ≤ m.registers.esp → IsOffExit stub.reply m a → IsWritten stub m a ⊎ IsBelowEnd stub m a → is_freed stub m a ≡ true
  freed_is low off free =
      and_from (not (list_any (is_in_span a) (exit_spans stub.reply m))) _ (off_exit stub.reply low off)
      (elim free [
        | inl h ↦ or_left (list_any (is_in_span a) (spans_of stub m)) _ (written_any h)
        | inr h ↦ or_right (list_any (is_in_span a) (spans_of stub m)) _ (below_is h)
      ])

-- ---- the exit place is written elsewhere

-- bytes in user space that may each be written may all be
all_writable : (rs : List Range) (count a : ℕ) → All IsInUserSpace rs → ((c : ℕ) → a ≤ c → c < a + count → may_write rs c ≡ true) → may_write_all rs count a ≡ true
unfolding may_write_all
all_writable rs zero a inside each = refl
all_writable rs (suc count) a inside each =
    let here : may_write rs a ≡ true = each a (omega arith) (omega arith) in
    let k = mapped_inside rs a (written_mapped rs a here) inside in
    let on : next_byte a ≡ a + 1 = omega (arith, k.1) in
    and_from (may_write rs a) (may_write_all rs count (next_byte a)) here
    (ap (may_write_all rs count) on ∙ all_writable rs count (a + 1) inside (λ c low high. each c (omega (arith, low)) (omega (arith, high))))

pub exit_writable : (m n : MachineState) → HasRanges m → map mapping_of (memory n) ≡ map mapping_of (memory m) → may_write_each (memory m) (m.registers.esp - 4) 4 ≡ true
    → may_write_all (memory n) 4 (m.registers.esp - 4) ≡ true
exit_writable m n ranges same whole =
    let at = m.registers.esp - 4 in
    all_writable (memory n) 4 at (inside_mapped (memory m) (memory n) (sym same) ranges.inside) (λ c above below.
    written_same (memory n) (memory m) c same ∙ all_in_range (may_write (memory m)) at 4 c whole above below)

exit_keeps : (r : Reply) (m n : MachineState) (a : ℕ) → 4 ≤ m.registers.esp → HasRanges m → n.registers ≡ m.registers → map mapping_of (memory n) ≡ map mapping_of (memory m)
    → list_all (may_write_span m) (exit_spans r m) ≡ true
    → IsOffExit r m a
    → byte_at (memory (with_exit r n)) a ≡ byte_at (memory n) a
exit_keeps Anything m n a low ranges regs same all off = refl
exit_keeps (Number x) m n a low ranges regs same all off = refl
exit_keeps (Block size zeroed may) m n a low ranges regs same all off = refl
exit_keeps Never m n a low ranges regs same all off = refl
exit_keeps (Enter i) m n a low ranges regs same all off =
    let at = m.registers.esp - 4 in
    let inside = inside_mapped (memory m) (memory n) (sym same) ranges.inside in
    let whole : may_write_each (memory m) at 4 ≡ true = (and_parts (may_write_each (memory m) at 4) true all).0 in
    let may = exit_writable m n ranges same whole in
    let stored = stored-is 4 at EXIT_PLACE n inside (apart_mapped (memory m) (memory n) (sym same) ranges.apart) may in
    ap (λ g. byte_at (memory (with_number 4 (g.esp - 4) EXIT_PLACE n)) a) regs
    ∙ stored.others a (λ i below is. elim off [ inl l ↦ omega (arith, l, is, low) | inr g ↦ omega (arith, g, is, below, low) ])

-- ---- bytes

-- a choice that fills in one byte, and fails where that is left open
abbrev filling : ℕ → ℕ → Reply → Choice
filling a byte r =
    record { flags = 0; eax = 0; ecx = 0; edx = 0; base = 0; fails = may_fail r; fill = record { at = a; bytes = byte ∷ [] } ∷ [] }

no_block : (r : Reply) (a byte : ℕ) (m : MachineState) → always_allocates r ≡ false → block_of r (filling a byte r) m ≡ None
no_block Anything a byte m none = refl
no_block (Number n) a byte m none = refl
no_block Never a byte m none = refl
no_block (Enter i) a byte m none = refl
no_block (Block size zeroed true) a byte m none = refl
no_block (Block size zeroed false) a byte m none = absurd (false≢true (sym none))

may_or_not : (b : Bool) → (b && not b) ≡ false
may_or_not true = refl
may_or_not false = refl

pub frame_low : (stub : Stub) (m : MachineState) → HasRanges m → has_frame stub m ≡ true → 4 ≤ m.registers.esp
frame_low stub m ranges frame =
    let parts = and_parts (nat_le m.stack.low m.registers.esp) _ frame in
    let low = leb-true m.stack.low m.registers.esp parts.0 in
    let user = All-head IsInUserSpace m.stack m.ranges ranges.inside in
    omega (arith, low, user.above)

pub bytes_are_free : BytesAreFree
bytes_are_free stub m a byte ranges plain clear free off fits =
    let choice = filling a byte stub.reply in
    let c = clear_is (has_frame stub m) (list_all (may_write_span m) (spans_of stub m ++ exit_spans stub.reply m)) (lacks_block stub.reply m) clear in
    let all = and_parts (list_all (may_write_span m) (spans_of stub m)) (list_all (may_write_span m) (exit_spans stub.reply m))
    (sym (list_all-append (may_write_span m) (spans_of stub m) (exit_spans stub.reply m)) ∙ c.writes_are) in
    let low = frame_low stub m ranges c.frame_is in
    let none = no_block stub.reply a byte m plain in
    let freed : is_freed stub m a ≡ true = freed_is stub m a low off free in
    let bad : bad_of stub choice m ≡ None =
    no_kind _ _ _ _ _ _ (may_or_not (may_fail stub.reply)) (ap (λ b. not (is_allowed m b)) none)
    (ap (λ t. not ((t || may_hold (is_zeroed stub.reply) (block_of stub.reply choice m) (a, byte)) && true)) freed) in
    let may : may_write (memory m) a ≡ true = elim free [ inl h ↦ written_may stub m a all.0 h | inr h ↦ below_may stub m a ranges h ] in
    let held : byte_at (memory (with_byte a (cut B8 byte) m)) a ≡ Some byte =
    byte-same a (cut B8 byte) (memory m) ranges.apart may ∙ ap Some (mod-eq_of_lt fits) in
    let kept : byte_at (memory (with_exit stub.reply (with_byte a (cut B8 byte) m))) a ≡ Some byte =
    exit_keeps stub.reply m (with_byte a (cut B8 byte) m) a low ranges refl (puts-mapping a (cut B8 byte) (memory m)) all.1 off ∙ held in
    let filled : byte_at (memory (after_call stub choice m)) a ≡ Some byte =
    ap (λ b. byte_at (memory (with_exit stub.reply (with_bytes (filled_in choice) (with_block b m)))) a) none ∙ kept in
    (choice, after_call stub choice m, returned stub choice m clear bad, filled)

-- ---- registers and flags

abbrev bits_of_flags : Flags → FlagBits
bits_of_flags f = record {
  carry = f.carry;
  parity = f.parity;
  adjust = f.adjust;
  zero = f.zero;
  sign = f.sign;
  overflow = f.overflow;
  direction = f.direction;
}

abbrev flags_of_bits : FlagBits → Flags
flags_of_bits f = record {
  carry = f.carry;
  parity = f.parity;
  adjust = f.adjust;
  zero = f.zero;
  sign = f.sign;
  overflow = f.overflow;
  direction = false;
}

abbrev giving : ℕ → ℕ → ℕ → Flags → Choice
giving eax ecx edx flags =
    record { flags = packed_bits (bits_of_flags flags); eax = eax; ecx = ecx; edx = edx; base = 0; fails = false; fill = [] }

pub registers_are_free : RegistersAreFree
registers_are_free stub m eax ecx edx flags any clear a c d direction =
    let choice = giving eax ecx edx flags in
    let lies : is_allowed m (block_of stub.reply choice m) ≡ true = ap (λ r. is_allowed m (block_of r choice m)) any in
    let bad : bad_of stub choice m ≡ None = no_kind false _ false None _ None refl (ap not lies) refl in
    let next = after_call stub choice m in
    let eax_is : next.registers.eax ≡ eax = ap (λ r. (after_call (record stub { reply = r }) choice m).registers.eax) any ∙ mod-eq_of_lt a in
    let flags_are : next.flags ≡ flags =
    ap flags_of_bits (unpacked-packed (bits_of_flags flags)) ∙ ap (λ b. record flags { direction = b }) (sym direction) in
    (choice, next, returned stub choice m clear bad, eax_is, mod-eq_of_lt c, mod-eq_of_lt d, flags_are)
