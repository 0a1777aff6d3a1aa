-- Operands read and written, and how an instruction ends (manual, volume 1, section 3.7).
use Rattle.std.specs.Prelude.{ℕ, ◌+◌, ◌*◌, ◌%◌, ◌^◌, Option, None, Some, ℤ}
use Rattle.std.specs.Int.{cast_unsigned, w32}
use Rattle.bit_words.specs.declared.width.Width.{Width}
use Rattle.bit_words.specs.Width.{cut}
use Rattle.memory_map.specs.declared.fault.FaultKind.{FaultKind}
use Rattle.memory_map.specs.declared.fault.FaultKind.TheVariants as kinds
use Rattle.memory_map.specs.State.{MachineState, Flags}
use Rattle.x86_syntax.specs.declared.instr.Seg.{Seg}
use Rattle.x86_syntax.specs.declared.instr.Seg.TheVariants.{Plain, Fs, Gs}
use Rattle.x86_syntax.specs.declared.instr.Address.{Address}
use Rattle.x86_syntax.specs.declared.instr.Operand.{Operand}
use Rattle.x86_syntax.specs.declared.instr.Operand.TheVariants.{Register, Number, Memory, Offset}
use Rattle.x86_semantics.specs.Registers.{register, part, with_part}
use Rattle.x86_semantics.specs.Memory.{word_at, stored}

-- how an instruction ends: in the next state, or in a fault with the state that it leaves
pub data Ended : Type 0 where
  Next : MachineState → Ended
  Faulted : FaultKind → MachineState → Ended

-- ---- the state at another address, or with other flags

abbrev pub at_address : ℕ → MachineState → MachineState
at_address a m = record m { eip = a }

abbrev pub with_flags : Flags → MachineState → MachineState
with_flags f m = record m { flags = f }

-- a branch's offset counts from the address after it
abbrev pub branch_target : ℕ → ℕ → ℤ → ℕ
branch_target at n offset = (at + n + cast_unsigned w32 offset) % 2 ^ 32

-- ---- addresses

abbrev pub segment_base : Seg → MachineState → ℕ
segment_base Plain m = 0
segment_base Fs m = m.fs
segment_base Gs m = m.gs

abbrev pub base_part : Option ℕ → MachineState → ℕ
base_part None m = 0
base_part (Some r) m = register r m

abbrev pub index_part : Option (ℕ × ℕ) → MachineState → ℕ
index_part None m = 0
index_part (Some p) m = register p.0 m * p.1

-- the offset in its segment: base + index * scale + displacement
unfoldable pub offset_in_segment : Address → MachineState → ℕ
offset_in_segment a m = (base_part a.base m + index_part a.index m + a.disp) % 2 ^ 32

unfoldable pub address_of : Address → MachineState → ℕ
address_of a m = (segment_base a.seg m + offset_in_segment a m) % 2 ^ 32

-- ---- what may fault, and what follows where it does not; a fault leaves the state m

abbrev pub on_word : MachineState → Option ℕ → (ℕ → Ended) → Ended
on_word m None k = Faulted kinds.Read m
on_word m (Some v) k = k v

abbrev pub on_stored : MachineState → Option MachineState → (MachineState → Ended) → Ended
on_stored m None k = Faulted kinds.Write m
on_stored m (Some n) k = k n

-- the word of memory at an address
abbrev pub loading : MachineState → Width → ℕ → (ℕ → Ended) → Ended
loading m w a k = on_word m (word_at w a m) k

abbrev pub storing : MachineState → Width → ℕ → ℕ → (MachineState → Ended) → Ended
storing m w a v k = on_stored m (stored w a v m) k

-- an operand's value
abbrev pub reading : MachineState → Operand → (ℕ → Ended) → Ended
reading m (Register w r) k = k (part w r m)
reading m (Number w n) k = k (cut w n)
reading m (Memory w a) k = loading m w (address_of a m) k
reading m (Offset o) k = k (cast_unsigned w32 o)

-- the state with an operand's value replaced; a number is no place
abbrev pub writing : MachineState → Operand → ℕ → (MachineState → Ended) → Ended
writing m (Register w r) v k = k (with_part w r v m)
writing m (Number w n) v k = k m
writing m (Memory w a) v k = storing m w (address_of a m) v k
writing m (Offset o) v k = k m
