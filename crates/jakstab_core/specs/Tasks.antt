-- What a command makes of its inputs: the work on an image, and what it writes.
use Rattle.std.specs.Prelude.{ℕ, ◌≡◌, Bool, false, List, Option, None, Some, Ok}
use Rattle.outside_io.specs.Outside.{Contents}
use Rattle.memory_map.specs.Image.{Image, IsLoaded}
use Rattle.stub_file.specs.Stubs.{StatedStubs, no_stubs, States}
use Rattle.image_loader.specs.Binding.{Loads}
use Rattle.image_listing.specs.Listing.{list_text}
use Rattle.decode_listing.specs.Listing.{IsListing}
use Rattle.automaton_text.specs.declared.automaton.Automaton.{Automaton}
use Rattle.automaton_text.specs.Reading.{automaton_read}
use Rattle.x86_machine.specs.declared.start_file.StartFile.{StartFile}
use Rattle.run_replayer.specs.declared.record.RunRecord.{RunRecord}
use Rattle.run_replayer.specs.declared.verdict.Verdict.{Verdict}
use Rattle.run_replayer.specs.Grammar.{StatesStart, StatesRecord}
use Rattle.run_replayer.specs.Record.{RecordOf}
use Rattle.run_replayer.specs.Texts.{record_text}
use Rattle.run_replayer.specs.Verdict.{VerdictOf}
use Rattle.run_replayer.specs.VerdictLine.{is_no, verdict_line}
use Rattle.command_words.specs.Words.{Command, OnImage, Demo, Task, Recover, ListImage, Decode, Run, Replay, Tabulate, Check}
use Rattle.jakstab_core.specs.declared.status.Status.{Status}
use Rattle.jakstab_core.specs.declared.work.Work.{Work}
use Rattle.jakstab_core.specs.declared.work.Work.TheVariants as works
use Rattle.jakstab_core.specs.declared.status.Input.TheVariants as inputs
use Rattle.jakstab_core.specs.Headline.{CoversRuns, recovered_text}
use Rattle.jakstab_core.specs.Inputs.{Origin, File, IsBadLine, IsFrom, IsUnstartable, OfBytes, image_of, stubs_of, limit_of}
use Rattle.jakstab_core.specs.Summary.{summary_of}
use Rattle.jakstab_core.specs.Tables.{ChecksRuns, IsChecked, tabulated_text}
use Rattle.table_check.specs.Reading.{table_read}

-- ---- the work

-- a run from the start file of a name
pub record IsRunWork (held : Option Contents) (name : List ℕ) (steps : ℕ) (work : Work) : Type 0 where
  pub start : StartFile
  pub stated : OfBytes held (limit_of inputs.First) (File name) (λ text. StatesStart text start)
  pub is : work ≡ works.Run start steps

-- a replay of the record of a name against the automaton of a name
pub record IsReplayWork (held : Option Contents) (automaton taken : List ℕ) (work : Work) : Type 0 where
  pub against : Automaton
  pub told : OfBytes held (limit_of inputs.First) (File automaton) (λ text. automaton_read text ≡ Ok against)
  pub recorded : RunRecord
  pub stated : OfBytes held (limit_of inputs.Second) (File taken) (λ text. StatesRecord text recorded)
  pub is : work ≡ works.Replay against recorded

-- a check of what the file of a name holds
pub record IsCheckWork (held : Option Contents) (name : List ℕ) (work : Work) : Type 0 where
  pub told : List ℕ
  pub read : IsFrom held (limit_of inputs.First) (File name) told
  pub is : work ≡ works.Check told

-- the work of a command, its further inputs read
abbrev pub IsTaskWork : Option Contents → Task → Work → Type 0
IsTaskWork held (Recover options version) work = work ≡ works.Recover options version
IsTaskWork held ListImage work = work ≡ works.List
IsTaskWork held (Decode address count) work = work ≡ works.Decode address count
IsTaskWork held (Run start steps) work = IsRunWork held start steps work
IsTaskWork held (Replay automaton taken) work = IsReplayWork held automaton taken work
IsTaskWork held (Tabulate k budget) work = work ≡ works.Tabulate k budget
IsTaskWork held (Check table) work = IsCheckWork held table work

abbrev pub IsWork : Option Contents → Command → Work → Type 0
IsWork held (OnImage command) work = IsTaskWork held command.task work
IsWork held (Demo blocks options) work = work ≡ works.Summarize blocks options

-- the stubs that a stub file states, or none where there is no file
abbrev pub AreStubs : Option Contents → Option Origin → StatedStubs → Type 0
AreStubs held None stubs = stubs ≡ no_stubs
AreStubs held (Some origin) stubs = (text : List ℕ) × (IsFrom held (limit_of inputs.Stubs) origin text × States text stubs)

-- the inputs of a command are read and accepted: its stubs, the image that is bound to them, and the work
pub record Prepared (held : Option Contents) (command : Command) : Type 0 where
  pub bytes : List ℕ
  pub read : IsFrom held (limit_of inputs.Image) (image_of command) bytes
  pub stubs : StatedStubs
  pub stated : AreStubs held (stubs_of command) stubs
  pub image : Image
  pub loads : Loads bytes stubs image
  pub loaded : IsLoaded image
  pub work : Work
  pub due : IsWork held command work

-- no run begins as the start file or the record says, or the table has a bad line, which a status tells; other work has no such refusal
abbrev pub IsStartRefused : Work → Image → Status → Type 0
IsStartRefused (works.Run start steps) image status = IsUnstartable image start status
IsStartRefused (works.Replay automaton taken) image status = IsUnstartable image taken.start status
IsStartRefused (works.Check told) image status = IsBadLine (table_read image told) status
IsStartRefused _ image status = ⊥

-- ---- what is written

-- the text of the record of a run
abbrev pub IsRunText : Image → StatedStubs → StartFile → ℕ → List ℕ → Type 0
IsRunText image stubs start steps text = (taken : RunRecord) × RecordOf image stubs start steps taken × (text ≡ record_text taken)

-- the line of the verdict of a record replayed against an automaton, and whether it is no
abbrev pub IsVerdictText : Image → StatedStubs → Automaton → RunRecord → List ℕ → Bool → Type 0
IsVerdictText image stubs automaton taken text refuted = (verdict : Verdict) × VerdictOf image stubs automaton taken verdict × (text ≡ verdict_line verdict) × (refuted ≡ is_no verdict)

-- the text that is written, and whether it says no
abbrev pub IsOutput : Work → StatedStubs → Image → List ℕ → Bool → Type 0
IsOutput (works.Recover options version) stubs image text refuted = (text ≡ recovered_text image stubs options version) × (refuted ≡ false)
IsOutput works.List stubs image text refuted = (text ≡ list_text stubs image) × (refuted ≡ false)
IsOutput (works.Decode address count) stubs image text refuted = IsListing image address count text × (refuted ≡ false)
IsOutput (works.Run start steps) stubs image text refuted = IsRunText image stubs start steps text × (refuted ≡ false)
IsOutput (works.Replay automaton taken) stubs image text refuted = IsVerdictText image stubs automaton taken text refuted
IsOutput (works.Tabulate k budget) stubs image text refuted = (text ≡ tabulated_text image stubs k budget) × (refuted ≡ false)
IsOutput (works.Check told) stubs image text refuted = IsChecked image stubs told text refuted
IsOutput (works.Summarize blocks options) stubs image text refuted = (text ≡ summary_of image stubs blocks options) × (refuted ≡ false)

-- what that text says of the machine's runs: no run leaves the automaton before a location printed open, nor a table of which it says yes
-- before a location that this marks
abbrev pub Covers : Work → StatedStubs → Image → List ℕ → Type 0
Covers (works.Recover options version) stubs image text = CoversRuns image stubs text
Covers (works.Check told) stubs image text = ChecksRuns image stubs told text
Covers _ stubs image text = Unit {0}
