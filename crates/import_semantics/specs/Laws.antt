-- When a call has a next state, and what may stand there.
use Rattle.std.specs.Prelude.{ℕ, ◌≡◌, ◌≢◌, ◌+◌, ◌^◌, ◌<◌, ◌≤◌, ◌⊎◌, ⊤, Bool, true, false, not, [], None, Some, All, AllPairs, Contains}
use Rattle.bit_words.specs.declared.width.Width.TheVariants.{B32}
use Rattle.memory_map.specs.declared.choice.Choice.{Choice}
use Rattle.memory_map.specs.declared.fault.FaultKind.{FaultKind}
use Rattle.memory_map.specs.Image.{EXIT_PLACE}
use Rattle.memory_map.specs.Range.{AreApart, IsInUserSpace, byte_at, has}
use Rattle.memory_map.specs.State.{Flags, MachineState, memory}
use Rattle.stub_file.specs.declared.stub.Reply.{Reply}
use Rattle.stub_file.specs.declared.stub.Reply.TheVariants.{Anything, Block, Enter}
use Rattle.stub_file.specs.declared.stub.Stub.{Stub}
use Rattle.stub_file.specs.declared.stub.StubWrite.{StubWrite}
use Rattle.x86_semantics.specs.Memory.{word_at}
use Rattle.import_semantics.specs.StubDoes.{Faulted, Returned, amount, argument, block_of, fault_of, is_allowed, may_fail, stub_does}

-- a choice that names no failure and fills in nothing
pub record IsPlain (choice : Choice) : Type 0 where
  pub fails : choice.fails ≡ false
  pub fill : choice.fill ≡ []

-- where no fault holds, under every such choice: a block that is handed out must have a base where it may lie
abbrev pub CallsReturn : Type 0
CallsReturn =
    (stub : Stub) (choice : Choice) (m : MachineState) → IsPlain choice → is_allowed m (block_of stub.reply choice m) ≡ true → fault_of stub m ≡ None
    → (next : MachineState) × (stub_does stub choice m ≡ Returned next)

-- and a call that may fail, under every choice that says that it does and fills in nothing
abbrev pub CallsFail : Type 0
CallsFail =
    (stub : Stub) (choice : Choice) (m : MachineState) → may_fail stub.reply ≡ true → choice.fails ≡ true → choice.fill ≡ [] → fault_of stub m ≡ None
    → (next : MachineState) × (stub_does stub choice m ≡ Returned next)

-- where a fault holds there is none, under any choice
abbrev pub CallsFault : Type 0
CallsFault = (stub : Stub) (choice : Choice) (m : MachineState) (kind : FaultKind) → fault_of stub m ≡ Some kind → stub_does stub choice m ≡ Faulted kind

-- ---- what a call leaves open may become anything

-- mapped ranges as in every state of a run
pub record HasRanges (m : MachineState) : Type 0 where
  pub inside : All IsInUserSpace (memory m)
  pub apart : AllPairs AreApart (memory m)
  pub stack : m.stack.write ≡ true

-- a call that hands out a block whatever the choice
abbrev pub always_allocates : Reply → Bool
always_allocates (Block size zeroed may_fail) = not may_fail
always_allocates _ = false

-- an address is in a write, which has a pointer other than 0
pub record IsWritten (stub : Stub) (m : MachineState) (a : ℕ) : Type 0 where
  pub write : StubWrite
  pub listed : Contains stub.writes.items write
  pub points : argument write.arg m ≢ 0
  pub low : argument write.arg m ≤ a
  pub end : a < argument write.arg m + amount write.length m

-- an address is in the stack window, below the end of the arguments
pub record IsBelowEnd (stub : Stub) (m : MachineState) (a : ℕ) : Type 0 where
  pub inside : has a m.stack ≡ true
  pub below : a < m.registers.esp + 4 + stub.args

-- it is not one of the four below ESP, where a function that is entered has its return address
abbrev pub IsOffExit : Reply → MachineState → ℕ → Type 0
IsOffExit (Enter i) m a = (a + 4 < m.registers.esp) ⊎ (m.registers.esp ≤ a)
IsOffExit _ m a = ⊤

-- each byte that is written, and each below the arguments' end, becomes any byte
abbrev pub BytesAreFree : Type 0
BytesAreFree =
    (stub : Stub) (m : MachineState) (a byte : ℕ) → HasRanges m → always_allocates stub.reply ≡ false → fault_of stub m ≡ None
    → IsWritten stub m a ⊎ IsBelowEnd stub m a
    → IsOffExit stub.reply m a
    → byte < 256
    → (choice : Choice) × (next : MachineState) × (stub_does stub choice m ≡ Returned next) × (byte_at (memory next) a ≡ Some byte)

-- EAX, ECX, EDX and the six status flags become anything, and DF is clear
abbrev pub RegistersAreFree : Type 0
RegistersAreFree =
    (stub : Stub) (m : MachineState) (eax ecx edx : ℕ) (flags : Flags) → stub.reply ≡ Anything → fault_of stub m ≡ None
    → eax < 2 ^ 32
    → ecx < 2 ^ 32
    → edx < 2 ^ 32
    → flags.direction ≡ false
    → (choice : Choice) × (next : MachineState) × (stub_does stub choice m ≡ Returned next) × (next.registers.eax ≡ eax) × (next.registers.ecx ≡ ecx) × (next.registers.edx ≡ edx) × (next.flags ≡ flags)

-- a function that is entered has the exit place as its return address, whatever the choice
abbrev pub EntersWithExit : Type 0
EntersWithExit =
    (stub : Stub) (i : ℕ) (choice : Choice) (m next : MachineState) → HasRanges m → stub.reply ≡ Enter i → stub_does stub choice m ≡ Returned next
    → (next.eip ≡ argument i m) × (next.registers.esp + 4 ≡ m.registers.esp) × (word_at B32 next.registers.esp next ≡ Some EXIT_PLACE)
