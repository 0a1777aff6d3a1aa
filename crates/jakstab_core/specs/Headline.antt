-- The headline: no run of the machine leaves the printed automaton before a location that is printed open.
use Rattle.std.specs.Prelude.{ℕ, ◌≡◌, ◌⊎◌, List, [], ◌∷◌, ◌++◌, ⊤}
use Rattle.memory_map.specs.Image.{Image}
use Rattle.memory_map.specs.State.{MachineState}
use Rattle.memory_map.specs.Start.{Start}
use Rattle.stub_file.specs.Stubs.{StatedStubs}
use Rattle.flow_log.specs.Run.{IsRun}
use Rattle.x86_machine.specs.Machine.{machine_of, edge_of}
use Rattle.automaton_text.specs.Text.{as_version_1, edge_line, open_line, text_of}
use Rattle.automaton_text.specs.declared.automaton.Automaton.{Automaton}
use Rattle.automaton_text.specs.declared.automaton.OpenMark.{OpenMark}
use Rattle.text_fields.specs.Line.{newline}
use Rattle.domain_laws.specs.Laws.{Values}
use Rattle.domain_laws.specs.FlatLaws.{flat}
use Rattle.bounded_values.specs.BoundedLaws.{bounded}
use Rattle.interval_values.specs.IntervalLaws.{interval}
use Rattle.flow_worklist.specs.Analysis.{image_log, automaton_of}
use Rattle.command_words.specs.declared.task.DomainName.{DomainName}
use Rattle.command_words.specs.declared.task.DomainName.TheVariants.{Flat, Bounded, Interval}
use Rattle.command_words.specs.declared.task.Options.{Options}
use Rattle.command_words.specs.declared.task.TextVersion.{TextVersion}
use Rattle.command_words.specs.declared.task.TextVersion.TheVariants.{First, Second}

-- nothing, or whole lines
abbrev pub IsLineStart : List ℕ → Type 0
IsLineStart before = (before ≡ []) ⊎ ((front : List ℕ) × (before ≡ front ++ newline))

-- a text has a line, which ends by its newline
pub record HasLine (text line : List ℕ) : Type 0 where
  pub before : List ℕ
  pub after : List ℕ
  pub whole : text ≡ (before ++ line) ++ after
  pub starts : IsLineStart before

-- a line of the text leaves the address open
abbrev pub IsPrintedOpen : List ℕ → ℕ → Type 0
IsPrintedOpen text a = (mark : OpenMark) × (mark.at ≡ a) × HasLine text (open_line mark)

-- each step that a run makes before it first stands at a location printed open is a printed edge:
-- the address before, the address after, and the bytes that the machine fetched, or the import's name
abbrev pub IsCovered : Image → List ℕ → MachineState → List MachineState → Type 0
IsCovered image text m [] = ⊤
IsCovered image text m (next ∷ rest) =
    (IsPrintedOpen text m.eip → ⊥) → HasLine text (edge_line (edge_of image m next)) × IsCovered image text next rest

-- the same of every run: from every allowed start, under every choice, of any number of steps
abbrev pub CoversRuns : Image → StatedStubs → List ℕ → Type 0
CoversRuns image stubs text = (m : MachineState) → Start image m → (states : List MachineState) → IsRun (machine_of image stubs) m states → IsCovered image text m states

-- the automaton of the log of an image with stubs over a domain
unfoldable pub log_automaton : {D : Type 0} → Values D → Image → StatedStubs → ℕ → ℕ → Automaton
log_automaton d image stubs k budget = automaton_of image (image_log d image stubs k budget)

-- over the domain of this name
abbrev pub automaton_over : DomainName → Image → StatedStubs → ℕ → ℕ → Automaton
automaton_over Flat image stubs k budget = log_automaton flat image stubs k budget
automaton_over Bounded image stubs k budget = log_automaton bounded image stubs k budget
automaton_over Interval image stubs k budget = log_automaton interval image stubs k budget

-- the automaton that `recover` finds
abbrev pub recovered : Image → StatedStubs → Options → Automaton
recovered image stubs options = automaton_over options.domain image stubs options.k options.budget

-- an automaton as a version tells it
abbrev pub in_version : TextVersion → Automaton → Automaton
in_version First a = as_version_1 a
in_version Second a = a

-- the text of `recover`
abbrev pub recovered_text : Image → StatedStubs → Options → TextVersion → List ℕ
recovered_text image stubs options version = text_of (in_version version (recovered image stubs options))
