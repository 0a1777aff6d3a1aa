-- A function that is entered has the exit place as its return address.
use Rattle.std.proofs.Common.{◌≡◌, ℕ, zero, suc, ◌+◌, ◌-◌, ◌≤◌, true, List, [], ◌∷◌, ◌++◌, map, Option, Some, None, refl, sym, ◌∙◌, ap, subst, arith}
use Rattle.std.specs.Prelude.{is_some, unwrap_or, All}
use Rattle.std.specs.List.{list_all}
use Rattle.std.proofs.lemmas.Bool.{and_parts, false≢true}
use Rattle.std.proofs.lemmas.List.Folds.{list_all-append}
use Rattle.bit_words.specs.declared.width.Width.TheVariants.{B8, B32}
use Rattle.bit_words.specs.Width.{cut}
use Rattle.memory_map.specs.declared.choice.Choice.{Choice}
use Rattle.memory_map.specs.declared.fault.BadKind.{BadKind}
use Rattle.memory_map.specs.declared.fault.FaultKind.{FaultKind}
use Rattle.memory_map.specs.Image.{EXIT_PLACE}
use Rattle.memory_map.specs.Range.{IsInUserSpace, byte_at, mapping_of, may_write, may_write_each}
use Rattle.memory_map.specs.State.{MachineState, memory}
use Rattle.memory_map.proofs.Mappings.{apart_mapped, inside_mapped, mapped_inside, written_mapped}
use Rattle.stub_file.specs.declared.stub.Reply.{Reply}
use Rattle.stub_file.specs.declared.stub.Reply.TheVariants.{Enter}
use Rattle.stub_file.specs.declared.stub.Stub.{Stub}
use Rattle.x86_semantics.specs.Memory.{may_write_all, next_byte, number_at, with_byte, with_low_byte, with_number, word_at}
use Rattle.x86_semantics.proofs.Storing.{IsStored, byte_of, low-bytes, number_from, puts-mapping, stored-is}
use Rattle.import_semantics.specs.StubDoes.{Returned, after_call, argument, bad_of, block_of, end_by, exit_spans, fault_of, filled_in, flags_after, has_frame, lacks_block, may_write_span, result_of, spans_of, stack_after, stub_does, target_of, with_block, with_bytes, with_exit}
use Rattle.import_semantics.specs.Laws.{EntersWithExit, HasRanges}
use Rattle.import_semantics.proofs.Freedom.{clear_is, exit_writable, frame_low}

-- bytes that may be written are read
number_read : (n : MachineState) (count a : ℕ) → All IsInUserSpace (memory n) → may_write_all (memory n) count a ≡ true
    → number_at (memory n) count a ≡ Some (number_from (byte_of (memory n)) count a)
unfolding may_write_all number_at
number_read n zero a inside may = refl
number_read n (suc count) a inside may =
    let parts = and_parts (may_write (memory n) a) (may_write_all (memory n) count (next_byte a)) may in
    let here = written_mapped (memory n) a parts.0 in
    let k = mapped_inside (memory n) a here inside in
    let on : next_byte a ≡ a + 1 = omega (arith, k.1) in
    let rest = number_read n count (a + 1) inside (ap (may_write_all (memory n) count) (sym on) ∙ parts.1) in
    ap (λ c. with_low_byte (byte_at (memory n) a) (number_at (memory n) count c)) on
    ∙ ap (λ o. with_low_byte (byte_at (memory n) a) o) rest
    ∙ ap (λ o. with_low_byte o (Some (number_from (byte_of (memory n)) count (a + 1)))) (some_or (byte_at (memory n) a) here)
  where
    some_or : (o : Option ℕ) → is_some o ≡ true → o ≡ Some (unwrap_or o 0)
    some_or (Some b) e = refl
    some_or None e = absurd (false≢true e)

record IsFilled (m n : MachineState) : Type 0 where
  pub registers : n.registers ≡ m.registers
  pub mappings : map mapping_of (memory n) ≡ map mapping_of (memory m)

filled_is : (filled : List (ℕ × ℕ)) (m : MachineState) → IsFilled m (with_bytes filled m)
filled_is [] m = record { registers = refl; mappings = refl }
filled_is (b ∷ bs) m =
    let rest = filled_is bs (with_byte b.0 (cut B8 b.1) m) in
    record { registers = rest.registers; mappings = rest.mappings ∙ puts-mapping b.0 (cut B8 b.1) (memory m) }

record IsReturned (f : Option FaultKind) (after next : MachineState) : Type 0 where
  pub clear : f ≡ None
  pub is : after ≡ next

returned_is : (f : Option FaultKind) (bad : Option BadKind) (after next : MachineState) → end_by f bad after ≡ Returned next → IsReturned f after next
returned_is None None after next e = record { clear = refl; is = cc }
returned_is None (Some bad) after next e = cc
returned_is (Some kind) bad after next e = cc

-- the word below ESP after the exit place is written
exit_word : (m n : MachineState) → 4 ≤ m.registers.esp → HasRanges m → IsFilled m n → may_write_each (memory m) (m.registers.esp - 4) 4 ≡ true
    → number_at (memory (with_number 4 (n.registers.esp - 4) EXIT_PLACE n)) 4 (m.registers.esp - 4) ≡ Some EXIT_PLACE
exit_word m n low ranges filled whole =
    let at = m.registers.esp - 4 in
    let inside = inside_mapped (memory m) (memory n) (sym filled.mappings) ranges.inside in
    let may = exit_writable m n ranges filled.mappings whole in
    let after = with_number 4 at EXIT_PLACE n in
    let stored : IsStored 4 at EXIT_PLACE n after = stored-is 4 at EXIT_PLACE n inside (apart_mapped (memory m) (memory n) (sym filled.mappings) ranges.apart) may in
    let inside_after = inside_mapped (memory n) (memory after) (sym stored.mappings) inside in
    let may_after : may_write_all (memory after) 4 at ≡ true = exit_writable m after ranges (stored.mappings ∙ filled.mappings) whole in
    ap (λ g. number_at (memory (with_number 4 (g.esp - 4) EXIT_PLACE n)) 4 at) filled.registers
    ∙ number_read after 4 at inside_after may_after
    ∙ ap Some (stored.number ∙ low-bytes B32 EXIT_PLACE)

-- after the call, for a reply
abbrev after_by : Stub → Choice → MachineState → Reply → MachineState
after_by stub choice m s = record (with_exit s (with_bytes (filled_in choice) (with_block (block_of s choice m) m))) {
  registers = record m.registers { eax = result_of s choice; ecx = cut B32 choice.ecx; edx = cut B32 choice.edx; esp = stack_after stub s m.registers.esp };
  eip = target_of s m;
  flags = flags_after choice m.flags;
}

abbrev IsEntered : ℕ → MachineState → MachineState → Type 0
IsEntered i m next = (next.eip ≡ argument i m) × (next.registers.esp + 4 ≡ m.registers.esp) × (word_at B32 next.registers.esp next ≡ Some EXIT_PLACE)

pub enters_with_exit : EntersWithExit
unfolding stub_does word_at
enters_with_exit stub i choice m next ranges enters ends =
    let r = returned_is (fault_of stub m) (bad_of stub choice m) (after_call stub choice m) next ends in
    let c = clear_is (has_frame stub m) (list_all (may_write_span m) (spans_of stub m ++ exit_spans stub.reply m)) (lacks_block stub.reply m) r.clear in
    let all = and_parts (list_all (may_write_span m) (spans_of stub m)) (list_all (may_write_span m) (exit_spans stub.reply m))
    (sym (list_all-append (may_write_span m) (spans_of stub m) (exit_spans stub.reply m)) ∙ c.writes_are) in
    let exit : list_all (may_write_span m) (exit_spans (Enter i) m) ≡ true = sym (ap (λ s. list_all (may_write_span m) (exit_spans s m)) enters) ∙ all.1 in
    let low = frame_low stub m ranges c.frame_is in
    let word = exit_word m (with_bytes (filled_in choice) m) low ranges (filled_is (filled_in choice) m) ((and_parts (may_write_each (memory m) (m.registers.esp - 4) 4) true exit).0) in
    let entered : IsEntered i m (after_by stub choice m (Enter i)) = (refl, omega (arith, low), word) in
    subst (IsEntered i m) (ap (after_by stub choice m) (sym enters) ∙ r.is) entered
