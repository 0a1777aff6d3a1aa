-- The state of the machine: a 32-bit x86 processor in user mode, with flat memory (manual, volume 1, chapter 3).
use Rattle.std.specs.Prelude.{ℕ, ◌^◌, ◌<◌, Bool, List, ◌∷◌}
use Rattle.memory_map.specs.Range.{Range}
use Rattle.memory_map.specs.declared.registers.Regs.{Regs}

-- the flags of EFLAGS that instructions read and write: CF PF AF ZF SF OF DF
pub record Flags : Type 0 where
  pub carry : Bool
  pub parity : Bool
  pub adjust : Bool
  pub zero : Bool
  pub sign : Bool
  pub overflow : Bool
  pub direction : Bool

pub record MachineState : Type 0 where
  -- the general-purpose registers, each a number
  pub registers : Regs ℕ
  pub eip : ℕ
  pub flags : Flags
  -- the bases of the segments fs and gs; all other segments have base 0
  pub fs : ℕ
  pub gs : ℕ
  -- the mapped range that is the stack window, and all others
  pub stack : Range
  pub ranges : List Range

-- all mapped ranges
abbrev pub memory : MachineState → List Range
memory m = m.stack ∷ m.ranges

-- each register and base is a word
pub record HasWords (m : MachineState) : Type 0 where
  pub eax : m.registers.eax < 2 ^ 32
  pub ecx : m.registers.ecx < 2 ^ 32
  pub edx : m.registers.edx < 2 ^ 32
  pub ebx : m.registers.ebx < 2 ^ 32
  pub esp : m.registers.esp < 2 ^ 32
  pub ebp : m.registers.ebp < 2 ^ 32
  pub esi : m.registers.esi < 2 ^ 32
  pub edi : m.registers.edi < 2 ^ 32
  pub eip : m.eip < 2 ^ 32
  pub fs : m.fs < 2 ^ 32
  pub gs : m.gs < 2 ^ 32
