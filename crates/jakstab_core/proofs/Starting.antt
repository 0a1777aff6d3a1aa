-- The line of a fault of a start is near, and what was read of a file of its limit is little.
use Rattle.std.proofs.Common.{◌≡◌, ℕ, ◌+◌, ◌<◌, ◌≤◌, ◌^◌, Bool, true, false, List, [], ◌++◌, length, Option, None, Some, Err, subst, arith}
use Rattle.std.specs.Prelude.{codes, flat_map, option_map, position, not, if◌then◌else◌}
use Rattle.std.proofs.lemmas.List.{length-append}
use Rattle.std.proofs.lemmas.List.Quantifiers.{position-Some}
use Rattle.memory_map.specs.declared.choice.Fill.{Fill as Filling}
use Rattle.memory_map.specs.Image.{Image}
use Rattle.memory_map.specs.State.{MachineState}
use Rattle.text_fields.specs.Line.{newline}
use Rattle.x86_machine.specs.declared.start_fault.StartFault.{StartFault}
use Rattle.x86_machine.specs.declared.start_fault.StartFault.TheVariants.{Align, Fill, Memory, Overlap, Window}
use Rattle.x86_machine.specs.declared.start_file.StartFile.{StartFile}
use Rattle.x86_machine.specs.Started.{is_free_fill, start_fault, start_state, started, state_unless}
use Rattle.run_replayer.specs.declared.record.RunRecord.{RunRecord}
use Rattle.run_replayer.specs.declared.record.RunStep.{RunStep}
use Rattle.run_replayer.specs.declared.run_fault.RunFault.{RunFault}
use Rattle.run_replayer.specs.declared.run_fault.RunFault.TheVariants as run_faults
use Rattle.run_replayer.specs.StartRefused.{IsRefused}
use Rattle.run_replayer.specs.Texts.{bases_line, choice_lines, end_word, fill_line, flags_line, record_header, record_text, regs_line, start_header, start_lines, start_text, step_lines}
use Rattle.jakstab_core.specs.Due.{IsNear, IsNearRun}
use Rattle.automaton_text.proofs.Told.{lines_few}

-- ---- the fill that has the fault is one of the fills

fault_of : (o : Option StartFault) (m : MachineState) (fault : StartFault) → state_unless o m ≡ Err fault → o ≡ Some fault
fault_of None m fault e = cc
fault_of (Some first) m fault e = cc

by_tests : (aligned inside apart : Bool) (o : Option ℕ) (index : ℕ)
    → (if not aligned then Some Align else if not inside then Some Window else if not apart then Some Overlap else option_map (λ i. Fill i) o) ≡ Some (Fill index) → o ≡ Some index
by_tests false inside apart o index e = cc
by_tests true false apart o index e = cc
by_tests true true false o index e = cc
by_tests true true true None index e = cc
by_tests true true true (Some i) index e = cc

fill_there : (image : Image) (start : StartFile) (index : ℕ) → started image start ≡ Err (Fill index) → index < length start.fill
unfolding start_fault
fill_there image start index e =
    let found : position (λ f. not (is_free_fill image start f)) start.fill ≡ Some index = by_tests _ _ _ _ index (fault_of (start_fault image start) (start_state image start) (Fill index) e) in
    let none : Filling = record { at = 0; bytes = [] } in
    (position-Some (λ f. not (is_free_fill image start f)) start.fill index none found).0

near : (image : Image) (start : StartFile) (fault : StartFault) → length start.fill < 2 ^ 32 → started image start ≡ Err fault → IsNear fault
near image start Align few e = tt
near image start Window few e = tt
near image start Overlap few e = tt
near image start (Fill index) few e = let there : index < length start.fill = fill_there image start index e in omega arith
near image start Memory few e = tt

pub near_run : (image : Image) (start : StartFile) (fault : RunFault) → length start.fill < 2 ^ 32 → IsRefused image start fault → IsNearRun fault
near_run image start (run_faults.Start fault) few e = near image start fault few e
near_run image start run_faults.Memory few e = tt

-- ---- a text has at least as many bytes as lines

behind_front : (a b : List ℕ) → length b ≤ length (a ++ b)
behind_front a b = let whole : length (a ++ b) ≡ length a + length b = length-append a b in omega arith

before_behind : (a b : List ℕ) → length a ≤ length (a ++ b)
before_behind a b = let whole : length (a ++ b) ≡ length a + length b = length-append a b in omega arith

some_fill : (f : Filling) → 0 < length (fill_line f)
unfolding fill_line
some_fill f = omega arith

some_step : (s : RunStep) → 0 < length (step_lines s)
unfolding step_lines
some_step s = omega arith

fills_few : (start : StartFile) → length start.fill ≤ length (start_lines start)
unfolding start_lines
fills_few start =
    let each = lines_few fill_line some_fill start.fill in
    let in_lines = behind_front (regs_line start.regs ++ flags_line start.flags ++ bases_line start.fs start.gs) (flat_map fill_line start.fill) in
    omega arith

pub start_few : (text : List ℕ) (start : StartFile) → text ≡ start_text start → length text ≤ 67108864 → length start.fill < 2 ^ 32
unfolding start_text
start_few text start is short =
    let each = fills_few start in
    let head : List ℕ = start_header ++ newline in
    let front : List ℕ = head ++ start_lines start in
    let in_front = behind_front head (start_lines start) in
    let in_choices = before_behind front (flat_map choice_lines start.choices) in
    let in_end = before_behind (front ++ flat_map choice_lines start.choices) (codes "end") in
    let in_text = before_behind ((front ++ flat_map choice_lines start.choices) ++ codes "end") newline in
    let whole : length (((front ++ flat_map choice_lines start.choices) ++ codes "end") ++ newline) ≤ 67108864 = subst (λ (t : List ℕ). length t ≤ 67108864) is short in
    omega arith

module _ (text : List ℕ) (taken : RunRecord) (is : text ≡ record_text taken) (short : length text ≤ 67108864) where
  head : List ℕ
  head = record_header ++ newline

  front : List ℕ
  front = head ++ start_lines taken.start

  steps : List ℕ
  steps = flat_map step_lines taken.steps

  record_short : length (front ++ steps) ≤ 67108864
  unfolding record_text front steps head
  record_short =
      let in_end = before_behind (front ++ steps) (codes "end ") in
      let in_word = before_behind ((front ++ steps) ++ codes "end ") (end_word taken.end) in
      let in_text = before_behind (((front ++ steps) ++ codes "end ") ++ end_word taken.end) newline in
      let whole : length ((((front ++ steps) ++ codes "end ") ++ end_word taken.end) ++ newline) ≤ 67108864 = subst (λ (t : List ℕ). length t ≤ 67108864) is short in
      omega arith

  pub record_fills_few : length taken.start.fill < 2 ^ 32
  unfolding front
  record_fills_few =
      let each = fills_few taken.start in
      let all = record_short in
      let in_front = behind_front head (start_lines taken.start) in
      let in_steps = before_behind front steps in
      omega arith

  pub record_steps_few : length taken.steps < 2 ^ 32
  unfolding steps
  record_steps_few =
      let each = lines_few step_lines some_step taken.steps in
      let all = record_short in
      let in_steps = behind_front front steps in
      omega arith
