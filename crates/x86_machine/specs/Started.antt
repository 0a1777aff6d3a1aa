-- The state in which a run begins that a start file states, or why it states none.
use Rattle.std.specs.Prelude.{ℕ, ◌+◌, ◌-◌, ◌%◌, Bool, true, false, not, ◌&&◌, ◌||◌, ◌==◌, if◌then◌else◌, List, [], ◌∷◌, ◌++◌, map, flat_map, fold, position, Option, None, Some, Result, Ok, Err, replicate, slice_index}
use Rattle.std.specs.List.{enumerate_from, list_all, list_any, range_with_len}
use Rattle.std.specs.Option.{option_map}
use Rattle.memory_map.specs.declared.choice.Fill.{Fill as Filling}
use Rattle.memory_map.specs.declared.registers.Regs.{Regs}
use Rattle.memory_map.specs.declared.span.Span.{Span}
use Rattle.memory_map.specs.Image.{Image, has_exit_word}
use Rattle.memory_map.specs.Map.{all_apart, is_in_user_space}
use Rattle.memory_map.specs.Range.{Range, has}
use Rattle.memory_map.specs.Spans.{is_in_ranges, is_in_span}
use Rattle.memory_map.specs.Start.{BASE_REACH, STACK_ABOVE, STACK_BELOW}
use Rattle.memory_map.specs.State.{MachineState, memory}
use Rattle.statement_lang.specs.Filling.{bytes_of_fills, status_of, with_filled}
use Rattle.x86_machine.specs.declared.start_fault.StartFault.{StartFault}
use Rattle.x86_machine.specs.declared.start_fault.StartFault.TheVariants.{Align, Fill, Overlap, Window}
use Rattle.x86_machine.specs.declared.start_file.StartFile.{StartFile}

-- ---- registers

-- EAX ECX EDX EBX ESP EBP ESI EDI in this order
abbrev pub stated_registers : List ℕ → Regs ℕ
stated_registers regs = record {
  eax = slice_index regs 0;
  ecx = slice_index regs 1;
  edx = slice_index regs 2;
  ebx = slice_index regs 3;
  esp = slice_index regs 4;
  ebp = slice_index regs 5;
  esi = slice_index regs 6;
  edi = slice_index regs 7;
}

abbrev pub stack_pointer : StartFile → ℕ
stack_pointer s = (stated_registers s.regs).esp

-- ---- memory before anything is filled in

unfoldable pub zeros : ℕ → List ℕ
zeros n = replicate n 0

-- a window of zeros round a base, which may be read and written
abbrev pub zero_window : ℕ → ℕ → ℕ → Range
zero_window below above base = record { low = base - below; bytes = zeros (below + above); write = true; execute = false }

abbrev pub stack_window : StartFile → Range
stack_window s = zero_window STACK_BELOW STACK_ABOVE (stack_pointer s)

abbrev pub base_window : ℕ → Range
base_window base = zero_window BASE_REACH BASE_REACH base

abbrev pub windows : StartFile → List Range
windows s = stack_window s ∷ base_window s.fs ∷ base_window s.gs ∷ []

-- the segments as they were loaded and the windows, nothing filled in
abbrev pub bare_state : Image → StartFile → MachineState
bare_state image s = record {
  registers = stated_registers s.regs;
  eip = image.entry;
  flags = status_of (record { 0 = s.flags });
  fs = s.fs;
  gs = s.gs;
  stack = stack_window s;
  ranges = image.segments ++ base_window s.fs ∷ base_window s.gs ∷ [];
}

-- ---- what is filled in

-- unset bytes, each with its address: they are 0
abbrev pub unset_zeros : List Span → List (ℕ × ℕ)
unset_zeros unset = flat_map (λ s. map (λ a. (a, 0)) (range_with_len s.low s.size)) unset

-- the exit place as the word at an address, its lowest byte first, where it is asked for
abbrev pub exit_word : Bool → ℕ → List (ℕ × ℕ)
exit_word asked a = if asked then (a, 0) ∷ (a + 1, 0) ∷ (a + 2, 0) ∷ (a + 3, 0xF0) ∷ [] else []

-- the bytes that are filled in, each with its address: unset ones are 0, what the start file fills in follows, and the format may ask for the exit place at the stack pointer
abbrev pub start_bytes : Image → StartFile → List (ℕ × ℕ)
start_bytes image s = unset_zeros image.unset ++ (bytes_of_fills s.fill ++ exit_word (has_exit_word image) (stack_pointer s))

-- bytes filled in one after another, so that of two at one address the later one counts: also where they may not be written
abbrev pub with_fills : List (ℕ × ℕ) → MachineState → MachineState
with_fills bytes m = fold (λ n at. with_filled at.0 at.1 n) m bytes

unfoldable pub start_state : Image → StartFile → MachineState
start_state image s = with_fills (start_bytes image s) (bare_state image s)

-- ---- faults, in their order

abbrev pub exit_word_span : StartFile → Span
exit_word_span s = record { low = stack_pointer s; size = 4 }

-- whether a byte may be filled in: it is one of a window or unset, and none of the exit word
abbrev pub is_free_byte : Image → StartFile → ℕ → Bool
is_free_byte image s a =
    (list_any (has a) (windows s) || is_in_ranges a image.unset) && not (has_exit_word image && is_in_span a (exit_word_span s))

abbrev pub is_free_fill : Image → StartFile → Filling → Bool
is_free_fill image s f = list_all (λ at. is_free_byte image s at.0) (enumerate_from f.at f.bytes)

-- the first fault: the stack pointer is no multiple of the alignment, a window is not where memory may lie, a window shares an address with a segment or another window, or a fill has a byte that is not free
unfoldable pub start_fault : Image → StartFile → Option StartFault
start_fault image s =
    if not (stack_pointer s % image.align == 0) then Some Align
    else if not (list_all is_in_user_space (windows s)) then Some Window
    else if not (all_apart (memory (bare_state image s))) then Some Overlap
    else option_map (λ index. Fill index) (position (λ f. not (is_free_fill image s f)) s.fill)

abbrev pub state_unless : Option StartFault → MachineState → Result MachineState StartFault
state_unless None m = Ok m
state_unless (Some fault) m = Err fault

-- the state that a start file states, or its first fault
abbrev pub started : Image → StartFile → Result MachineState StartFault
started image s = state_unless (start_fault image s) (start_state image s)
