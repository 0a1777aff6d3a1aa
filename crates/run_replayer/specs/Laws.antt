-- What holds of all records and verdicts.
use Rattle.std.specs.Prelude.{ℕ, ◌≡◌, ◌<◌, ◌^◌, ⊤, List, All, Contains, Ok}
use Rattle.memory_map.specs.declared.choice.Choice.{Choice}
use Rattle.memory_map.specs.Image.{Image}
use Rattle.memory_map.specs.State.{MachineState}
use Rattle.stub_file.specs.Stubs.{StatedStubs}
use Rattle.automaton_text.specs.declared.automaton.Automaton.{Automaton}
use Rattle.flow_log.specs.Run.{Follows, IsRun}
use Rattle.x86_machine.specs.Machine.{machine_of}
use Rattle.x86_machine.specs.StartLaws.{IsFill, IsStartFile}
use Rattle.x86_machine.specs.Started.{started}
use Rattle.x86_machine.specs.declared.start_file.StartFile.{StartFile}
use Rattle.run_replayer.specs.declared.record.RunRecord.{RunRecord}
use Rattle.run_replayer.specs.declared.verdict.Verdict.{Verdict}
use Rattle.run_replayer.specs.declared.verdict.Verdict.TheVariants.{NotAnEdge}
use Rattle.run_replayer.specs.declared.record.RunStep.{RunStep}
use Rattle.run_replayer.specs.Grammar.{StatesRecord}
use Rattle.run_replayer.specs.Record.{RecordOf}
use Rattle.run_replayer.specs.Texts.{record_text}
use Rattle.run_replayer.specs.Verdict.{VerdictOf, open_of}

-- ---- what every choice and step of a record keeps: words, and fills of 1 to 1,024 bytes

pub record IsChoice (c : Choice) : Type 0 where
  pub flags : c.flags < 2 ^ 8
  pub eax : c.eax < 2 ^ 32
  pub ecx : c.ecx < 2 ^ 32
  pub edx : c.edx < 2 ^ 32
  pub base : c.base < 2 ^ 32
  pub fill : All IsFill c.fill

pub record IsStep (s : RunStep) : Type 0 where
  pub from : s.from < 2 ^ 32
  pub to : s.to < 2 ^ 32
  pub choice : IsChoice s.choice

-- a record that keeps the bounds of its fields
pub record IsInBounds (r : RunRecord) : Type 0 where
  pub start : IsStartFile r.start
  pub steps : All IsStep r.steps

-- ---- texts

-- what a text states as a record is in its bounds
abbrev pub TextsStateInBounds : Type 0
TextsStateInBounds = (text : List ℕ) (r : RunRecord) → StatesRecord text r → IsInBounds r

-- the text of a record in its bounds is read as that record
abbrev pub RecordTextsAreRead : Type 0
RecordTextsAreRead = (r : RunRecord) → IsInBounds r → StatesRecord (record_text r) r

-- ---- runs

-- a run has one record
pub record SameRun (r t : RunRecord) : Type 0 where
  pub steps : r.steps ≡ t.steps
  pub end : r.end ≡ t.end

abbrev pub RunsHaveOneRecord : Type 0
RunsHaveOneRecord =
    (image : Image) (stubs : StatedStubs) (start : StartFile) (count : ℕ) (r t : RunRecord) → RecordOf image stubs start count r → RecordOf image stubs start count t → SameRun r t

-- a record has one verdict
abbrev pub RecordsHaveOneVerdict : Type 0
RecordsHaveOneVerdict =
    (image : Image) (stubs : StatedStubs) (a : Automaton) (r : RunRecord) (v w : Verdict) → VerdictOf image stubs a r v → VerdictOf image stubs a r w → v ≡ w

-- the run of a record, which takes a step that is no edge of an automaton before it first stands at a location that is marked open
pub record LeavesBy (image : Image) (stubs : StatedStubs) (a : Automaton) (r : RunRecord) : Type 0 where
  pub state : MachineState
  pub starts : started image r.start ≡ Ok state
  pub states : List MachineState
  pub run : IsRun (machine_of image stubs) state states
  pub leaves : Follows (machine_of image stubs) (λ m. ⊤) (Contains (open_of a)) a.edges state states → ⊥

-- where a verdict is that a step is no edge, the record is of such a run
abbrev pub MissingEdgesAreOfRuns : Type 0
MissingEdgesAreOfRuns =
    (image : Image) (stubs : StatedStubs) (a : Automaton) (r : RunRecord) (n from to : ℕ) → VerdictOf image stubs a r (NotAnEdge n from to) → LeavesBy image stubs a r
