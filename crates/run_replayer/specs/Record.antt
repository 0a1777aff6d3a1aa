-- What a run from a start file records: its steps under the choices, one after another, and what ends it.
use Rattle.std.specs.Prelude.{ℕ, zero, suc, ◌≡◌, ◌⊎◌, false, List, [], ◌∷◌, Option, None, Some, Ok}
use Rattle.memory_map.specs.declared.choice.Choice.{Choice}
use Rattle.memory_map.specs.Image.{Image}
use Rattle.memory_map.specs.State.{MachineState}
use Rattle.stub_file.specs.Stubs.{StatedStubs}
use Rattle.x86_machine.specs.declared.start_file.StartFile.{StartFile}
use Rattle.x86_machine.specs.Started.{started}
use Rattle.x86_machine.specs.StepBy.{StepEnd, StepBy, stepped, faulted, not_listed, no_stub, exited, bad_choice}
use Rattle.run_replayer.specs.declared.record.EndWord.{EndWord}
use Rattle.run_replayer.specs.declared.record.EndWord.TheVariants as ends
use Rattle.run_replayer.specs.declared.run.Next.{Next}
use Rattle.run_replayer.specs.declared.run.Next.TheVariants.{End, Step}
use Rattle.run_replayer.specs.declared.record.RunStep.{RunStep}
use Rattle.run_replayer.specs.declared.record.RunRecord.{RunRecord}

-- zeros without fills, which are chosen where no choice is left
abbrev pub zero_choice : Choice
zero_choice = record { flags = 0; eax = 0; ecx = 0; edx = 0; base = 0; fails = false; fill = [] }

-- the choice of the next step
abbrev pub next_choice : List Choice → Choice
next_choice [] = zero_choice
next_choice (choice ∷ choices) = choice

-- those of the steps after it
abbrev pub later_choices : List Choice → List Choice
later_choices [] = []
later_choices (choice ∷ choices) = choices

-- the word of an outcome that is no step
abbrev pub outcome_word : StepEnd → Option EndWord
outcome_word (stepped next) = None
outcome_word (faulted kind) = Some ends.Faulted
outcome_word not_listed = Some ends.NotListed
outcome_word no_stub = Some ends.NoStub
outcome_word exited = Some ends.Exited
outcome_word (bad_choice kind) = Some ends.BadChoice

-- the step from one state to another under a choice, as it is recorded
abbrev pub recorded_step : MachineState → Choice → MachineState → RunStep
recorded_step m choice next = record { from = m.eip; to = next.eip; choice = choice }

-- the machine stops where it is, for this word
pub record Stops (image : Image) (stubs : StatedStubs) (choice : Choice) (m : MachineState) (end : EndWord) : Type 0 where
  pub outcome : StepEnd
  pub comes : StepBy image stubs choice m outcome
  pub word : outcome_word outcome ≡ Some end

-- what a call tells that makes one step: the step that was made, which leads to the new state, or why there is none
abbrev pub IsNext : Image → StatedStubs → Choice → MachineState → Next → MachineState → Type 0
IsNext image stubs choice m (Step s) new = StepBy image stubs choice m (stepped new) × (s ≡ recorded_step m choice new)
IsNext image stubs choice m (End end) new = Stops image stubs choice m end

-- the first of these steps is the machine's, and the others are made from where it leads
pub record StepsOn (image : Image) (stubs : StatedStubs) (choice : Choice) (m : MachineState) (steps : List RunStep) (Rest : MachineState → List RunStep → Type 0) : Type 0 where
  pub next : MachineState
  pub rest : List RunStep
  pub comes : StepBy image stubs choice m (stepped next)
  pub first : steps ≡ recorded_step m choice next ∷ rest
  pub goes : Rest next rest

-- the steps that the machine makes from a state under these choices, at most so many, and what ends them
unfoldable pub AreMade : Image → StatedStubs → ℕ → List Choice → MachineState → List RunStep → EndWord → Type 0
AreMade image stubs zero choices m steps end = (steps ≡ []) × (end ≡ ends.Steps)
AreMade image stubs (suc count) choices m steps end =
    ((steps ≡ []) × Stops image stubs (next_choice choices) m end)
    ⊎ StepsOn image stubs (next_choice choices) m steps (λ next rest. AreMade image stubs count (later_choices choices) next rest end)

-- two starts are the same but for their choices
pub record SameStart (s t : StartFile) : Type 0 where
  pub regs : s.regs ≡ t.regs
  pub flags : s.flags ≡ t.flags
  pub fs : s.fs ≡ t.fs
  pub gs : s.gs ≡ t.gs
  pub fill : s.fill ≡ t.fill

-- the record of a run of so many steps at most, from the state of a start file under its choices, which the record has in its steps alone
pub record RecordOf (image : Image) (stubs : StatedStubs) (start : StartFile) (count : ℕ) (r : RunRecord) : Type 0 where
  pub same : SameStart start r.start
  pub no_choices : r.start.choices ≡ []
  pub state : MachineState
  pub starts : started image start ≡ Ok state
  pub made : AreMade image stubs count start.choices state r.steps r.end
