-- A verdict that a step is no edge shows a run that leaves the automaton there.
use Rattle.std.proofs.Common.{ℕ, ◌+◌, List, [], ◌∷◌, inl, inr}
use Rattle.std.specs.Prelude.{Contains, ⊤}
use Rattle.memory_map.specs.Image.{Image}
use Rattle.memory_map.specs.State.{MachineState}
use Rattle.stub_file.specs.Stubs.{StatedStubs}
use Rattle.flow_log.specs.Run.{Follows, IsRun}
use Rattle.flow_log.specs.declared.edge.Edge.{Edge}
use Rattle.automaton_text.specs.declared.automaton.Automaton.{Automaton}
use Rattle.x86_machine.specs.Machine.{edge_of, machine_of}
use Rattle.x86_machine.specs.StepBy.{StepBy, StepEnd, bad_choice, exited, faulted, no_stub, not_listed, stepped}
use Rattle.run_replayer.specs.declared.record.RunRecord.{RunRecord}
use Rattle.run_replayer.specs.declared.record.RunStep.{RunStep}
use Rattle.run_replayer.specs.declared.verdict.Verdict.TheVariants.{NotAnEdge}
use Rattle.run_replayer.specs.Verdict.{ByOutcome, Decides, VerdictOf, open_of}
use Rattle.run_replayer.specs.Laws.{LeavesBy}

module _ (image : Image) (stubs : StatedStubs) (edges : List Edge) (opened : List ℕ) where
  -- states that follow one, of which some step is no edge before the first open location
  pub record Leaves (m : MachineState) : Type 0 where
    pub states : List MachineState
    pub run : IsRun (machine_of image stubs) m states
    pub leaves : Follows (machine_of image stubs) (λ m. ⊤) (Contains opened) edges m states → ⊥

  leaves_here : (m next : MachineState) (s : RunStep) → (Contains opened m.eip → ⊥) → StepBy image stubs s.choice m (stepped next) → (Contains edges (edge_of image m next) → ⊥) → Leaves m
  leaves_here m next s closed comes none = record {
    states = next ∷ [];
    run = ((s.choice, comes), tt);
    leaves = λ f. none ((f.1 closed).0);
  }

  leaves_later : (m next : MachineState) (s : RunStep) → (Contains opened m.eip → ⊥) → StepBy image stubs s.choice m (stepped next) → Leaves next → Leaves m
  leaves_later m next s closed comes later = record {
    states = next ∷ later.states;
    run = ((s.choice, comes), later.run);
    leaves = λ f. later.leaves ((f.1 closed).1);
  }

  by_outcome : (n number from to : ℕ) (m : MachineState) (s : RunStep) (Later : MachineState → Type 0) → (Contains opened m.eip → ⊥) → ((next : MachineState) → Later next → Leaves next) → (outcome : StepEnd)
      → StepBy image stubs s.choice m outcome → ByOutcome image edges n m s (NotAnEdge number from to) Later outcome → Leaves m
  by_outcome n number from to m s Later closed go (stepped next) comes (inl (at, inl (edge, later))) = leaves_later m next s closed comes (go next later)
  by_outcome n number from to m s Later closed go (stepped next) comes (inl (at, inr (none, is))) = leaves_here m next s closed comes none
  by_outcome n number from to m s Later closed go (stepped next) comes (inr (elsewhere, is)) = cc
  by_outcome n number from to m s Later closed go (faulted kind) comes is = cc
  by_outcome n number from to m s Later closed go not_listed comes is = cc
  by_outcome n number from to m s Later closed go no_stub comes is = cc
  by_outcome n number from to m s Later closed go exited comes is = cc
  by_outcome n number from to m s Later closed go (bad_choice kind) comes is = cc

  pub leaving : (steps : List RunStep) (n number from to : ℕ) (m : MachineState) → Decides image stubs edges opened n m steps (NotAnEdge number from to) → Leaves m
  unfolding Decides
  leaving [] n number from to m (inl (here, is)) = cc
  leaving [] n number from to m (inr (closed, is)) = cc
  leaving (s ∷ steps) n number from to m (inl (here, is)) = cc
  leaving (s ∷ steps) n number from to m (inr (closed, inr (elsewhere, is))) = cc
  leaving (s ∷ steps) n number from to m (inr (closed, inl (at, t))) =
      by_outcome n number from to m s _ closed (λ next l. leaving steps (n + 1) number from to next l) t.outcome t.comes t.decides

pub leaves_by : (image : Image) (stubs : StatedStubs) (a : Automaton) (r : RunRecord) (n from to : ℕ) → VerdictOf image stubs a r (NotAnEdge n from to) → LeavesBy image stubs a r
leaves_by image stubs a r n from to v =
    let l : Leaves image stubs a.edges (open_of a) v.state = leaving image stubs a.edges (open_of a) r.steps 0 n from to v.state v.decides in
    record { state = v.state; starts = v.starts; states = l.states; run = l.run; leaves = l.leaves }
