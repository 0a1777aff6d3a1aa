-- One step of the machine under a choice. It knows nothing of any analysis.
use Rattle.std.specs.Prelude.{ℕ, ◌≡◌, ◌⊎◌, List, Option, None, Some, Result, Ok, Err, MatchBool, ◌==◌}
use Rattle.memory_map.specs.declared.choice.Choice.{Choice}
use Rattle.memory_map.specs.declared.fault.FaultKind.{FaultKind}
use Rattle.memory_map.specs.declared.fault.FaultKind.TheVariants.{Fetch}
use Rattle.memory_map.specs.declared.fault.BadKind.{BadKind}
use Rattle.memory_map.specs.Range.{code_run}
use Rattle.memory_map.specs.Image.{Image, EXIT_PLACE, name_at}
use Rattle.memory_map.specs.State.{MachineState, memory}
use Rattle.stub_file.specs.declared.stub.Reply.{Reply}
use Rattle.stub_file.specs.declared.stub.Reply.TheVariants.{Never}
use Rattle.stub_file.specs.declared.stub.Stub.{Stub}
use Rattle.stub_file.specs.Stubs.{StatedStubs, stub_named}
use Rattle.x86_syntax.specs.declared.instr.Instr.{Instr}
use Rattle.x86_syntax.specs.Decodes.{decoded}
use Rattle.x86_decoder.specs.Refusals.{GoesOn}
use Rattle.x86_semantics.specs.Does.{does}
use Rattle.import_semantics.specs.StubDoes.{StubEnd, Returned, Faulted, Bad, stub_does}

-- what comes of a step
pub data StepEnd : Type 0 where
  stepped : MachineState → StepEnd
  faulted : FaultKind → StepEnd
  -- the bytes at EIP are no instruction of the opcode table
  not_listed : StepEnd
  -- an import without a stub
  no_stub : StepEnd
  exited : StepEnd
  -- the choice names what the step does not leave open
  bad_choice : BadKind → StepEnd

-- the executable bytes at EIP
unfoldable pub fetched : MachineState → List ℕ
fetched m = code_run (memory m) m.eip

abbrev pub outcome_of : Result MachineState FaultKind → StepEnd
outcome_of (Ok next) = stepped next
outcome_of (Err kind) = faulted kind

-- where no instruction stands at EIP: the bytes end before one does, or none is listed that they begin
abbrev pub NoInstr : List ℕ → StepEnd → Type 0
NoInstr bytes outcome = (GoesOn bytes × (outcome ≡ faulted Fetch)) ⊎ ((GoesOn bytes → ⊥) × (outcome ≡ not_listed))

abbrev pub AtInstr : Option (Instr × ℕ) → Choice → MachineState → List ℕ → StepEnd → Type 0
AtInstr (Some p) choice m bytes outcome = outcome ≡ outcome_of (does p.0 p.1 choice m)
AtInstr None choice m bytes outcome = NoInstr bytes outcome

-- ---- at the place of an import

abbrev pub outcome_of_stub : StubEnd → StepEnd
outcome_of_stub (Returned next) = stepped next
outcome_of_stub (Faulted kind) = faulted kind
outcome_of_stub (Bad kind) = bad_choice kind

-- a function that never returns has exited, before any test
abbrev pub unless_never : Reply → StepEnd → StepEnd
unless_never Never outcome = exited
unless_never _ outcome = outcome

-- of an import with a stub, or without one
abbrev pub import_outcome : Option Stub → Choice → MachineState → StepEnd
import_outcome None choice m = no_stub
import_outcome (Some stub) choice m = unless_never stub.reply (outcome_of_stub (stub_does stub choice m))

-- ---- at any place

-- at the place of a named import, and elsewhere
abbrev pub AtName : StatedStubs → Option (List ℕ) → Choice → MachineState → StepEnd → Type 0
AtName stubs (Some name) choice m outcome = outcome ≡ import_outcome (stub_named name stubs) choice m
AtName stubs None choice m outcome = AtInstr (decoded (fetched m)) choice m (fetched m) outcome

-- the outcome of a step from m under a choice
unfoldable pub StepBy : Image → StatedStubs → Choice → MachineState → StepEnd → Type 0
StepBy image stubs choice m outcome = MatchBool (m.eip == EXIT_PLACE) (outcome ≡ exited) (AtName stubs (name_at image m.eip) choice m outcome)
