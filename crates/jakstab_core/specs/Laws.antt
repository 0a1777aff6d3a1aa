-- What holds of what two commands print, and of `demo`.
use Rattle.std.specs.Prelude.{ℕ, ◌≡◌, ◌<◌, ◌^◌, ◌⊎◌, length, Some, Ok}
use Rattle.outside_io.specs.Outside.{Rose}
use Rattle.memory_map.specs.Image.{Image, IsLoaded}
use Rattle.stub_file.specs.Stubs.{StatedStubs}
use Rattle.automaton_text.specs.declared.automaton.Automaton.{Automaton}
use Rattle.automaton_text.specs.Laws.{FitsTypes}
use Rattle.automaton_text.specs.Reading.{automaton_read}
use Rattle.x86_machine.specs.StartLaws.{IsStartFile}
use Rattle.run_replayer.specs.declared.record.RunRecord.{RunRecord}
use Rattle.run_replayer.specs.declared.verdict.Verdict.TheVariants.{NotAnEdge}
use Rattle.run_replayer.specs.Verdict.{VerdictOf}
use Rattle.command_words.specs.declared.task.Options.{Options}
use Rattle.command_words.specs.declared.task.TextVersion.{TextVersion}
use Rattle.command_words.specs.Words.{Demo, command_of}
use Rattle.jakstab_core.specs.declared.status.Status.{Status}
use Rattle.jakstab_core.specs.declared.status.Status.TheVariants.{Done, Memory}
use Rattle.jakstab_core.specs.Headline.{in_version, recovered, recovered_text}
use Rattle.jakstab_core.specs.Says.{Call, Gain, Answers}

-- no record that is replayed against the automaton that `recover` prints of the same image with the same stubs has a step of the
-- machine that is no edge of it, before the run first stands at a location that it marks open
abbrev pub ReplaysFindEdges : Type 0
ReplaysFindEdges =
    (image : Image) (stubs : StatedStubs) (options : Options) (version : TextVersion) (taken : RunRecord) (n from to : ℕ)
    → IsLoaded image → IsStartFile taken.start → VerdictOf image stubs (in_version version (recovered image stubs options)) taken (NotAnEdge n from to) → ⊥

-- the same of the automaton that is read of that text, where both keep what the program's types keep of every automaton and text
abbrev pub ReplaysOfTextsFindEdges : Type 0
ReplaysOfTextsFindEdges =
    (image : Image) (stubs : StatedStubs) (options : Options) (version : TextVersion) (a : Automaton) (taken : RunRecord) (n from to : ℕ)
    → IsLoaded image → FitsTypes (in_version version (recovered image stubs options)) → FitsTypes a → length (recovered_text image stubs options version) < 2 ^ 64
    → automaton_read (recovered_text image stubs options version) ≡ Ok a → IsStartFile taken.start → VerdictOf image stubs a taken (NotAnEdge n from to) → ⊥

-- what the top call keeps of a call of `demo` says that it is done, but for want of memory, where no write to `out` failed, whatever a shelf holds
abbrev pub DemosAreDone : Type 0
DemosAreDone =
    (status : Status) (a : Call) (out note : Gain) (blocks : ℕ) (options : Options)
    → command_of a.words ≡ Some (Demo blocks options) → Answers status a out note → (Rose out.faults_before out.faults_after → ⊥) → (status ≡ Done) ⊎ (status ≡ Memory)
