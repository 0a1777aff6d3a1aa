-- Single flags and the status byte (manual, volume 2: CLC, CLD, CMC, LAHF, SAHF, STC, STD).
use Rattle.std.specs.Prelude.{ℕ, ◌+◌, ◌*◌, true, false, not}
use Rattle.bit_words.specs.declared.width.Width.TheVariants.{B8}
use Rattle.bit_words.specs.Operators.{one_if}
use Rattle.memory_map.specs.State.{MachineState, Flags}
use Rattle.x86_semantics.specs.declared.flag_rule.FlagRule.TheVariants.{Status}
use Rattle.x86_semantics.specs.declared.operation.FlagChange.{FlagChange}
use Rattle.x86_semantics.specs.declared.operation.FlagChange.TheVariants.{FlipCarry, ClearCarry, SetCarry, ClearDirection, SetDirection}
use Rattle.x86_semantics.specs.FlagRules.{ruled}
use Rattle.x86_semantics.specs.Registers.{part, with_part}
use Rattle.x86_semantics.specs.Operands.{Ended, Next, at_address, with_flags}
use Rattle.x86_semantics.specs.declared.parts.TheConstants.{AH}

abbrev pub changed : FlagChange → Flags → Flags
changed FlipCarry f = record f { carry = not f.carry }
changed ClearCarry f = record f { carry = false }
changed SetCarry f = record f { carry = true }
changed ClearDirection f = record f { direction = false }
changed SetDirection f = record f { direction = true }

abbrev pub change_flag : FlagChange → ℕ → MachineState → Ended
change_flag change next m = Next (at_address next (with_flags (changed change m.flags) m))

-- SF, ZF, AF, PF and CF in the bits 7, 6, 4, 2 and 0, bit 1 set
abbrev pub status_byte : Flags → ℕ
status_byte f = 2 + one_if f.carry + 4 * one_if f.parity + 16 * one_if f.adjust + 64 * one_if f.zero + 128 * one_if f.sign

-- LAHF
abbrev pub load_status : ℕ → MachineState → Ended
load_status next m = Next (at_address next (with_part B8 AH (status_byte m.flags) m))

-- SAHF
abbrev pub store_status : ℕ → MachineState → Ended
store_status next m = Next (at_address next (with_flags (ruled Status B8 (part B8 AH m) 0 0 m.flags) m))
