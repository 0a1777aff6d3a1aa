-- When the machine has a next state.
use Rattle.std.specs.Prelude.{ℕ, ◌≡◌, ◌≢◌, ◌⊎◌, ◌↔◌, ⊤, true, List, None, Some}
use Rattle.memory_map.specs.declared.choice.Choice.{Choice}
use Rattle.memory_map.specs.declared.fault.FaultKind.{FaultKind}
use Rattle.memory_map.specs.Image.{Image, EXIT_PLACE, name_at}
use Rattle.memory_map.specs.State.{MachineState}
use Rattle.stub_file.specs.declared.stub.Reply.{Reply}
use Rattle.stub_file.specs.declared.stub.Reply.TheVariants.{Block, Never}
use Rattle.stub_file.specs.declared.stub.Stub.{Stub}
use Rattle.stub_file.specs.Stubs.{StatedStubs, stub_named}
use Rattle.x86_syntax.specs.declared.instr.Instr.{Instr}
use Rattle.x86_syntax.specs.Decodes.{decoded}
use Rattle.x86_semantics.specs.Operations.{operation_of}
use Rattle.import_semantics.specs.StubDoes.{amount, block_size, fault_of, fresh_block, may_lie}
use Rattle.x86_machine.specs.Faults.{first_fault}
use Rattle.x86_machine.specs.Machine.{Steps}
use Rattle.x86_machine.specs.StepBy.{StepEnd, StepBy, exited, faulted, fetched, stepped}

-- ---- instructions

-- a state stands at an instruction of n bytes
pub record IsAt (image : Image) (m : MachineState) (i : Instr) (n : ℕ) : Type 0 where
  pub runs : m.eip ≢ EXIT_PLACE
  pub unnamed : name_at image m.eip ≡ None
  pub found : decoded (fetched m) ≡ Some (i, n)

-- under every choice there is a next state exactly where none of the instruction's faults holds
abbrev pub InstructionsStep : Type 0
InstructionsStep =
    (image : Image) (stubs : StatedStubs) (m : MachineState) (i : Instr) (n : ℕ) → IsAt image m i n → (choice : Choice)
    → (first_fault (operation_of i) m ≡ None) ↔ ((next : MachineState) × StepBy image stubs choice m (stepped next))

-- and else the fault is the first that holds
abbrev pub InstructionsFault : Type 0
InstructionsFault =
    (image : Image) (stubs : StatedStubs) (m : MachineState) (i : Instr) (n : ℕ) → IsAt image m i n → (choice : Choice) (kind : FaultKind)
    → (first_fault (operation_of i) m ≡ Some kind) ↔ StepBy image stubs choice m (faulted kind)

-- ---- imports

-- a state stands at the place of an import with this stub
pub record IsAtImport (image : Image) (stubs : StatedStubs) (m : MachineState) (stub : Stub) : Type 0 where
  pub runs : m.eip ≢ EXIT_PLACE
  pub name : List ℕ
  pub named : name_at image m.eip ≡ Some name
  pub has_stub : stub_named name stubs ≡ Some stub

-- a block may lie somewhere, where the reply must hand out one
abbrev pub HasRoom : Reply → MachineState → Type 0
HasRoom (Block size zeroed may_fail) m = (may_fail ≡ true) ⊎ ((base : ℕ) × (may_lie m (fresh_block base (block_size (amount size m))) ≡ true))
HasRoom _ m = ⊤

-- where the stub returns or enters a function, and there is room, some choice has a next state exactly where none of its faults holds
abbrev pub ImportsStep : Type 0
ImportsStep =
    (image : Image) (stubs : StatedStubs) (m : MachineState) (stub : Stub) → IsAtImport image stubs m stub → stub.reply ≢ Never → HasRoom stub.reply m
    → (fault_of stub m ≡ None) ↔ ((next : MachineState) × Steps image stubs m next)

-- and else the fault is the first that holds, under every choice
abbrev pub ImportsFault : Type 0
ImportsFault =
    (image : Image) (stubs : StatedStubs) (m : MachineState) (stub : Stub) → IsAtImport image stubs m stub → stub.reply ≢ Never → (choice : Choice) (kind : FaultKind)
    → (fault_of stub m ≡ Some kind) ↔ StepBy image stubs choice m (faulted kind)

-- where it never returns the run has exited, whatever faults hold
abbrev pub ImportsExit : Type 0
ImportsExit =
    (image : Image) (stubs : StatedStubs) (m : MachineState) (stub : Stub) → IsAtImport image stubs m stub → stub.reply ≡ Never → (choice : Choice) (outcome : StepEnd)
    → StepBy image stubs choice m outcome ↔ (outcome ≡ exited)
