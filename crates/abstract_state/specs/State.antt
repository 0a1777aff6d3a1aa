-- The state of a row: what is known of the machine where a run may stand.
use Rattle.std.specs.Prelude.{ℕ, ◌^◌, ◌<◌, ⊤, Bool, ◌&&◌, List, Option, None, pos, if◌then◌else◌}
use Rattle.std.specs.Option.{ForSome}
use Rattle.bit_words.specs.declared.width.Width.TheVariants.{B32}
use Rattle.memory_map.specs.Image.{Image, EXIT_PLACE, has_exit_word}
use Rattle.address_regions.specs.declared.region.Region.{Region}
use Rattle.address_regions.specs.declared.region.Region.TheVariants.{Stack, Fs, Gs, Block}
use Rattle.domain_laws.specs.Laws.{Values}
use Rattle.partitioned_memory.specs.declared.area.Area.TheVariants.{In}
use Rattle.partitioned_memory.specs.declared.fact.Counted.{Counted}
use Rattle.partitioned_memory.specs.Lists.{Every}
use Rattle.partitioned_memory.specs.Held.{PartsHeld, after_exact, covers_held, nothing_held}
use Rattle.partitioned_memory.specs.Well.{IsWell, MayHold}
use Rattle.abstract_state.specs.declared.truth.Truth.{Truth}
use Rattle.abstract_state.specs.declared.truth.Truth.TheVariants.{No}
use Rattle.memory_map.specs.declared.registers.Regs.{Regs}
use Rattle.abstract_state.specs.declared.flags.Truths.{Truths}
use Rattle.abstract_state.specs.declared.note.Note.{Note}
use Rattle.abstract_state.specs.Flags.{covers_flags, unknown_flags}
use Rattle.abstract_state.specs.Notes.{IsWellNote, covers_note, is_of_register, note_unless}
use Rattle.memory_map.specs.Registers.{register, with_register}
use Rattle.abstract_state.specs.Registers.{covers_registers}

-- values of the registers, truths of the flags, the comparison that gave the flags, and what is known of memory
pub record Known (D : Type 0) : Type 0 where
  pub regs : Regs D
  pub flags : Truths
  pub note : Option Note
  pub parts : PartsHeld D

-- ---- changes

-- another value in a register: a note of it goes
abbrev pub with_register_value : {D : Type 0} → ℕ → D → Known D → Known D
with_register_value r v s = record s { regs = with_register s.regs r v; note = note_unless (is_of_register r) s.note }

-- other flags, of which one of the six but DF was written: the note goes
abbrev pub with_flags : {D : Type 0} → Truths → Known D → Known D
with_flags t s = record s { flags = t; note = None }

-- another direction flag; it is none of the six
abbrev pub with_direction : {D : Type 0} → Truth → Known D → Known D
with_direction t s = record s { flags = record (s.flags) { direction = t } }

abbrev pub with_note : {D : Type 0} → Option Note → Known D → Known D
with_note n s = record s { note = n }

abbrev pub with_parts : {D : Type 0} → PartsHeld D → Known D → Known D
with_parts h s = record s { parts = h }

-- a block's size is a word
abbrev pub IsSmall : Region → Type 0
IsSmall (Block site size zeroed) = size < 2 ^ 32
IsSmall Stack = ⊤
IsSmall Fs = ⊤
IsSmall Gs = ⊤

abbrev pub AreSmall : List Counted → Type 0
AreSmall blocks = Every (λ c. IsSmall c.region) blocks

module _ {D : Type 0} (d : Values D) where
  -- what is always so of a state: a block region that a register's value names has a count, a number that a register has is a word, and so is the
  -- size of each counted block
  pub record IsWellState (s : Known D) : Type 0 where
    pub parts : IsWell d s.parts
    pub registers : (r : ℕ) → MayHold d s.parts.blocks B32 (register s.regs r)
    pub small : AreSmall s.parts.blocks
    pub note : ForSome s.note IsWellNote

  -- ---- the start

  -- every register any, but ESP at the stack's base
  abbrev pub start_registers : Regs D
  start_registers = record { eax = d.any; ecx = d.any; edx = d.any; ebx = d.any; esp = d.place Stack (pos 0); ebp = d.any; esi = d.any; edi = d.any }

  -- nothing, or the exit place in the word at the stack's base
  abbrev pub start_parts : Image → PartsHeld D
  start_parts image = if has_exit_word image then after_exact d (In Stack) (pos 0) B32 (d.number EXIT_PLACE) nothing_held else nothing_held

  -- what is known at every start
  unfoldable pub start_state : Image → Known D
  start_state image = record { regs = start_registers; flags = unknown_flags No; note = None; parts = start_parts image }

  -- ---- covering

  -- the first state stands for all for which the second does
  unfoldable pub covers_state : Known D → Known D → Bool
  covers_state t s =
      covers_registers d t.regs s.regs && (covers_flags t.flags s.flags && (covers_note t.note s.note && covers_held d t.parts s.parts))
