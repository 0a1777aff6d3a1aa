-- What comes of a record that is replayed against an automaton: its steps are made one after another, under the choices that it has.
use Rattle.std.specs.Prelude.{ℕ, ◌≡◌, ◌⊎◌, ◌+◌, List, [], ◌∷◌, map, Ok, Contains}
use Rattle.memory_map.specs.Image.{Image}
use Rattle.memory_map.specs.State.{MachineState}
use Rattle.stub_file.specs.Stubs.{StatedStubs}
use Rattle.flow_log.specs.declared.edge.Edge.{Edge}
use Rattle.automaton_text.specs.declared.automaton.Automaton.{Automaton}
use Rattle.x86_machine.specs.Started.{started}
use Rattle.x86_machine.specs.Machine.{edge_of}
use Rattle.x86_machine.specs.StepBy.{StepEnd, StepBy, stepped, faulted, not_listed, no_stub, exited, bad_choice}
use Rattle.run_replayer.specs.declared.record.RunStep.{RunStep}
use Rattle.run_replayer.specs.declared.record.RunRecord.{RunRecord}
use Rattle.run_replayer.specs.declared.verdict.RunKind.TheVariants as kinds
use Rattle.run_replayer.specs.declared.verdict.Verdict.{Verdict}
use Rattle.run_replayer.specs.declared.verdict.Verdict.TheVariants.{Inside, ReachedOpen, NotARun, NotAnEdge}

-- the one where something holds, and the other where it does not
abbrev pub Whether : Type 0 → Type 0 → Type 0 → Type 0
Whether Holds Then Else = (Holds × Then) ⊎ ((Holds → ⊥) × Else)

-- the addresses that an automaton marks open
abbrev pub open_of : Automaton → List ℕ
open_of a = map (λ mark. mark.at) a.marks

-- by what comes of the step of a number: one that leads to where the record has it and is an edge passes, and the later steps decide
abbrev pub ByOutcome : Image → List Edge → ℕ → MachineState → RunStep → Verdict → (MachineState → Type 0) → StepEnd → Type 0
ByOutcome image edges n m s verdict Later (stepped next) =
    Whether (next.eip ≡ s.to)
    (Whether (Contains edges (edge_of image m next)) (Later next) (verdict ≡ NotAnEdge n s.from s.to))
    (verdict ≡ NotARun n kinds.To)
ByOutcome image edges n m s verdict Later (faulted kind) = verdict ≡ NotARun n kinds.Faulted
ByOutcome image edges n m s verdict Later not_listed = verdict ≡ NotARun n kinds.NotListed
ByOutcome image edges n m s verdict Later no_stub = verdict ≡ NotARun n kinds.NoStub
ByOutcome image edges n m s verdict Later exited = verdict ≡ NotARun n kinds.Exited
ByOutcome image edges n m s verdict Later (bad_choice kind) = verdict ≡ NotARun n kinds.BadChoice

-- what comes of the machine's step under the choice of the record, and what follows from it
pub record IsTried (image : Image) (stubs : StatedStubs) (edges : List Edge) (n : ℕ) (m : MachineState) (s : RunStep) (verdict : Verdict) (Later : MachineState → Type 0) : Type 0 where
  pub outcome : StepEnd
  pub comes : StepBy image stubs s.choice m outcome
  pub decides : ByOutcome image edges n m s verdict Later outcome

-- the verdict of steps, the first of which has a number and the machine stands in a state before it: an open location ends the replay; then the step has to
-- begin where the machine stands, to be one of the machine's, to lead where the record has it, and to be an edge
unfoldable pub Decides : Image → StatedStubs → List Edge → List ℕ → ℕ → MachineState → List RunStep → Verdict → Type 0
Decides image stubs edges opened n m [] verdict = Whether (Contains opened m.eip) (verdict ≡ ReachedOpen n m.eip) (verdict ≡ Inside n)
Decides image stubs edges opened n m (s ∷ steps) verdict =
    Whether (Contains opened m.eip)
    (verdict ≡ ReachedOpen n m.eip)
    (Whether (m.eip ≡ s.from)
    (IsTried image stubs edges n m s verdict (λ next. Decides image stubs edges opened (n + 1) next steps verdict))
    (verdict ≡ NotARun n kinds.From))

-- the verdict of a whole record, from the state that its start gives
pub record VerdictOf (image : Image) (stubs : StatedStubs) (a : Automaton) (r : RunRecord) (verdict : Verdict) : Type 0 where
  pub state : MachineState
  pub starts : started image r.start ≡ Ok state
  pub decides : Decides image stubs a.edges (open_of a) 0 state r.steps verdict
