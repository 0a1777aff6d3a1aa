-- What the calls give of which a replay is made.
use Rattle.std.specs.Prelude.{ℕ, ◌≡◌, ◌+◌, ◌↔◌, List, ◌∷◌, Option, None, Some, Contains}
use Rattle.memory_map.specs.declared.choice.Choice.{Choice}
use Rattle.memory_map.specs.Image.{Image}
use Rattle.memory_map.specs.State.{MachineState}
use Rattle.stub_file.specs.Stubs.{StatedStubs}
use Rattle.flow_log.specs.declared.edge.Edge.{Edge}
use Rattle.automaton_text.specs.declared.automaton.Automaton.{Automaton}
use Rattle.x86_machine.specs.StepBy.{StepEnd, StepBy, stepped, faulted, not_listed, no_stub, exited, bad_choice}
use Rattle.run_replayer.specs.declared.index.Index.{Index}
use Rattle.run_replayer.specs.declared.record.RunStep.{RunStep}
use Rattle.run_replayer.specs.declared.verdict.RunKind.{RunKind}
use Rattle.run_replayer.specs.declared.verdict.RunKind.TheVariants as kinds
use Rattle.run_replayer.specs.declared.verdict.Verdict.{Verdict}
use Rattle.run_replayer.specs.Verdict.{Decides, open_of}

-- an index has the edges and the open addresses of an automaton
pub record IsIndex (a : Automaton) (i : Index) : Type 0 where
  pub edges : (e : Edge) → Contains i.edges e ↔ Contains a.edges e
  pub opened : (at : ℕ) → Contains i.opened at ↔ Contains (open_of a) at

-- the kind of an outcome that is no step
abbrev pub kind_of : StepEnd → Option RunKind
kind_of (stepped next) = None
kind_of (faulted kind) = Some kinds.Faulted
kind_of not_listed = Some kinds.NotListed
kind_of no_stub = Some kinds.NoStub
kind_of exited = Some kinds.Exited
kind_of (bad_choice kind) = Some kinds.BadChoice

-- the machine makes no step, for a reason of this kind
pub record MakesNone (image : Image) (stubs : StatedStubs) (choice : Choice) (m : MachineState) (kind : RunKind) : Type 0 where
  pub outcome : StepEnd
  pub comes : StepBy image stubs choice m outcome
  pub is : kind_of outcome ≡ Some kind

-- a step passes: the verdict is that of the later ones
pub record Passes (image : Image) (stubs : StatedStubs) (i : Index) (n : ℕ) (m : MachineState) (s : RunStep) (next : MachineState) : Type 0 where
  pub goes : (steps : List RunStep) (verdict : Verdict) → Decides image stubs i.edges i.opened (n + 1) next steps verdict → Decides image stubs i.edges i.opened n m (s ∷ steps) verdict

-- a step ends the replay with a verdict, whatever steps come after it
pub record Ends (image : Image) (stubs : StatedStubs) (i : Index) (n : ℕ) (m : MachineState) (s : RunStep) (verdict : Verdict) : Type 0 where
  pub decides : (steps : List RunStep) → Decides image stubs i.edges i.opened n m (s ∷ steps) verdict
