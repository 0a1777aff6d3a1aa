-- What the top call keeps, by its status.
use Rattle.std.specs.Prelude.{ℕ, ◌≡◌, ◌⊎◌, Bool, true, false, List, Option, None, Some}
use Rattle.outside_io.specs.Outside.{Contents, Rose, Gained, GainedPrefix}
use Rattle.jakstab_core.specs.declared.status.Status.{Status}
use Rattle.jakstab_core.specs.declared.status.Status.TheVariants.{Done, VerdictNo, Usage, WriteFault, Memory}
use Rattle.jakstab_core.specs.StatusLine.{status_line}
use Rattle.command_words.specs.Words.{Command, command_of}
use Rattle.jakstab_core.specs.Inputs.{ShelfCall, sources_of, AreRefused, AreHeld}
use Rattle.jakstab_core.specs.Tasks.{Prepared, IsOutput, IsStartRefused, Covers}

-- what a call asks: its words, and of the shelf
pub record Call : Type 0 where
  pub words : List (List ℕ)
  pub shelf : ShelfCall

-- what a sink tells, and its count of faults, before a call and after it
pub record Gain : Type 0 where
  pub before : Option (List ℕ)
  pub after : Option (List ℕ)
  pub faults_before : ℕ
  pub faults_after : ℕ

-- the words are a command, and this is so of it
pub record OfCommand (a : Call) (Fact : Command → Type 0) : Type 0 where
  pub command : Command
  pub accepted : command_of a.words ≡ Some command
  pub fact : Fact command

-- ---- what is written

-- a command's inputs are accepted, and this is what it writes of them, and whether that says no
pub record IsTextOf (held : Option Contents) (command : Command) (text : List ℕ) (refuted : Bool) : Type 0 where
  pub prepared : Prepared held command
  pub is : IsOutput prepared.work prepared.stubs prepared.image text refuted

abbrev pub IsDue : Call → List ℕ → Bool → Type 0
IsDue a text refuted = OfCommand a (λ command. IsTextOf a.shelf.held command text refuted)

-- `out` gained exactly the command's text, which does not say no
pub record SaysDone (a : Call) (out : Gain) : Type 0 where
  pub text : List ℕ
  pub due : IsDue a text false
  pub gained : Gained out.before out.after text
  -- and no run leaves that automaton before a location printed open
  pub covers : Covers due.fact.prepared.work due.fact.prepared.stubs due.fact.prepared.image text

-- `out` gained exactly the line of a verdict that is no
pub record SaysVerdictNo (a : Call) (out : Gain) : Type 0 where
  pub text : List ℕ
  pub due : IsDue a text true
  pub gained : Gained out.before out.after text

pub record SaysWriteFault (a : Call) (out : Gain) : Type 0 where
  pub rose : Rose out.faults_before out.faults_after
  pub text : List ℕ
  pub refuted : Bool
  pub due : IsDue a text refuted
  pub part : GainedPrefix out.before out.after text

-- ---- why a call is refused before anything is written

-- a command's inputs are accepted, and no run begins as they say
pub record IsStartless (held : Option Contents) (command : Command) (status : Status) : Type 0 where
  pub prepared : Prepared held command
  pub refused : IsStartRefused prepared.work prepared.image status

-- a command is refused at one of its inputs, or since no run begins as they say
abbrev pub IsCommandRefused : ShelfCall → Command → Status → Type 0
IsCommandRefused r command status = AreRefused r (sources_of command) status ⊎ IsStartless r.held command status

-- want of memory is free
abbrev pub IsRefused : Status → Call → Type 0
IsRefused Usage a = command_of a.words ≡ None
IsRefused Memory a = Unit {0}
IsRefused status a = OfCommand a (λ command. IsCommandRefused a.shelf command status)

abbrev pub Says : Status → Call → Gain → Type 0
Says Done a out = SaysDone a out
Says VerdictNo a out = SaysVerdictNo a out
Says WriteFault a out = SaysWriteFault a out
Says status a out = IsRefused status a × (out.after ≡ out.before)

-- the words are refused exactly where they are no command, but for want of memory
abbrev pub IsUsageExact : Status → Call → Type 0
IsUsageExact status a = (status ≡ Usage → command_of a.words ≡ None) × (command_of a.words ≡ None → (status ≡ Usage) ⊎ (status ≡ Memory))

-- ---- when the command is done

-- the words are a command whose inputs are held whole and without a fault, runs begin as they say, and nothing failed
pub record IsFaultless (a : Call) (out : Gain) : Type 0 where
  pub command : Command
  pub accepted : command_of a.words ≡ Some command
  pub inputs : AreHeld a.shelf (sources_of command)
  pub starts : (status : Status) → IsStartless a.shelf.held command status → ⊥
  pub written : Rose out.faults_before out.faults_after → ⊥

-- then the command is done, with a verdict that may be no, but for want of memory
abbrev pub IsComplete : Status → Call → Gain → Type 0
IsComplete status a out = IsFaultless a out → (status ≡ Done) ⊎ (status ≡ VerdictNo) ⊎ (status ≡ Memory)

-- ---- what is noted

-- `note` gained exactly the line, or a first part of it where its count rose
abbrev pub IsNoted : List ℕ → Gain → Type 0
IsNoted line note = Gained note.before note.after line ⊎ (Rose note.faults_before note.faults_after × GainedPrefix note.before note.after line)

-- what the top call keeps of every call
pub record Answers (status : Status) (a : Call) (out note : Gain) : Type 0 where
  pub says : Says status a out
  pub usage : IsUsageExact status a
  pub complete : IsComplete status a out
  pub noted : IsNoted (status_line status) note
