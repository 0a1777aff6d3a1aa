-- The inputs of a command: where each comes from, what it is to be, and why it is refused.
use Rattle.std.specs.Prelude.{ℕ, ◌≡◌, ◌+◌, ◌≤◌, ◌<◌, ◌⊎◌, List, [], ◌∷◌, ◌++◌, length, Option, None, Some, Result, Ok, Err, IsSomeAnd, ⊤}
use Rattle.outside_io.specs.Outside.{Contents, WhereHeld, IsWhole, Rose}
use Rattle.stub_file.specs.declared.fault.StubFault.{StubFault}
use Rattle.stub_file.specs.declared.fault.StubFault.TheVariants as stub_faults
use Rattle.stub_file.specs.Stubs.{StatedStubs, States, Refuses}
use Rattle.image_loader.specs.Loading.{LaidOut, load_of, first_fault}
use Rattle.memory_map.specs.Image.{Image}
use Rattle.text_fields.specs.declared.line_fault.LineFault.{LineFault}
use Rattle.automaton_text.specs.declared.automaton.Automaton.{Automaton}
use Rattle.automaton_text.specs.Reading.{automaton_read}
use Rattle.x86_machine.specs.declared.start_fault.StartFault.{StartFault}
use Rattle.x86_machine.specs.declared.start_fault.StartFault.TheVariants as start_faults
use Rattle.x86_machine.specs.declared.start_file.StartFile.{StartFile}
use Rattle.x86_machine.specs.Started.{started}
use Rattle.run_replayer.specs.declared.record.RunRecord.{RunRecord}
use Rattle.run_replayer.specs.Grammar.{StatesStart, StatesRecord, start_read, record_read}
use Rattle.demo_images.specs.Demo.{demo_image, demo_stubs}
use Rattle.jakstab_core.specs.declared.status.Input.{Input}
use Rattle.jakstab_core.specs.declared.status.Input.TheVariants as inputs
use Rattle.jakstab_core.specs.declared.status.Status.{Status}
use Rattle.jakstab_core.specs.declared.status.Status.TheVariants.{ReadFault, TooLong, ImageRefused, StubsRefused, InputRefused}
use Rattle.command_words.specs.Words.{Command, OnImage, Demo, Task, Recover, ListImage, Decode, Run, Replay, Tabulate, Check}

-- what a shelf tells, and its counts of faults by name, before a call and after it
pub record ShelfCall : Type 0 where
  pub held : Option Contents
  pub faults_before : List ℕ → ℕ
  pub faults_after : List ℕ → ℕ

-- where the bytes of an input come from: a file of this name, or the command makes them
pub data Origin : Type 0 where
  File : List ℕ → Origin
  Made : List ℕ → Origin

-- what they are to be
pub data Kind : Type 0 where
  ImageFile : Kind
  StubFile : Kind
  StartText : Kind
  AutomatonText : Kind
  RecordText : Kind
  -- any bytes: what a table tells depends on the image, and is read with it
  TableText : Kind

pub record Source : Type 0 where
  pub input : Input
  pub origin : Origin
  pub kind : Kind

-- an image file has at most so many bytes, a stub file, and any other input
abbrev pub limit_of : Input → ℕ
limit_of inputs.Image = 16777216
limit_of inputs.Stubs = 1048576
limit_of inputs.First = 67108864
limit_of inputs.Second = 67108864

-- ---- the inputs of each command, in the order in which they are read

abbrev pub image_source : Origin → Source
image_source origin = record { input = inputs.Image; origin = origin; kind = ImageFile }

abbrev pub stub_source : Origin → Source
stub_source origin = record { input = inputs.Stubs; origin = origin; kind = StubFile }

abbrev pub stub_sources : Option Origin → List Source
stub_sources None = []
stub_sources (Some origin) = stub_source origin ∷ []

abbrev pub image_of : Command → Origin
image_of (OnImage command) = File command.image
image_of (Demo blocks options) = Made (demo_image blocks)

abbrev pub named_file : Option (List ℕ) → Option Origin
named_file None = None
named_file (Some name) = Some (File name)

abbrev pub stubs_of : Command → Option Origin
stubs_of (OnImage command) = named_file command.stubs
stubs_of (Demo blocks options) = Some (Made demo_stubs)

abbrev pub start_source : List ℕ → Source
start_source name = record { input = inputs.First; origin = File name; kind = StartText }

abbrev pub automaton_source : List ℕ → Source
automaton_source name = record { input = inputs.First; origin = File name; kind = AutomatonText }

abbrev pub record_source : List ℕ → Source
record_source name = record { input = inputs.Second; origin = File name; kind = RecordText }

abbrev pub table_source : List ℕ → Source
table_source name = record { input = inputs.First; origin = File name; kind = TableText }

-- the further inputs, in the order of the words
abbrev pub task_sources : Task → List Source
task_sources (Recover options version) = []
task_sources ListImage = []
task_sources (Decode address count) = []
task_sources (Run start steps) = start_source start ∷ []
task_sources (Replay automaton taken) = automaton_source automaton ∷ record_source taken ∷ []
task_sources (Tabulate k budget) = []
task_sources (Check table) = table_source table ∷ []

abbrev pub further_sources : Command → List Source
further_sources (OnImage command) = task_sources command.task
further_sources (Demo blocks options) = []

abbrev pub sources_of : Command → List Source
sources_of command = image_source (image_of command) ∷ stub_sources (stubs_of command) ++ further_sources command

-- ---- what is read

-- the whole bytes of an input
abbrev pub IsFrom : Option Contents → ℕ → Origin → List ℕ → Type 0
IsFrom held limit (File name) bytes = IsWhole held name limit bytes
IsFrom held limit (Made made) bytes = bytes ≡ made

-- this is so of the whole bytes of an input
abbrev pub OfBytes : Option Contents → ℕ → Origin → (List ℕ → Type 0) → Type 0
OfBytes held limit origin Fact = (bytes : List ℕ) × IsFrom held limit origin bytes × Fact bytes

-- they are what they are to be
abbrev pub IsAccepted : Kind → List ℕ → Type 0
IsAccepted ImageFile bytes = (laid_out : LaidOut) × (load_of bytes ≡ Ok laid_out)
IsAccepted StubFile bytes = (stubs : StatedStubs) × States bytes stubs
IsAccepted StartText bytes = (start : StartFile) × StatesStart bytes start
IsAccepted AutomatonText bytes = (a : Automaton) × (automaton_read bytes ≡ Ok a)
IsAccepted RecordText bytes = (taken : RunRecord) × StatesRecord bytes taken
IsAccepted TableText bytes = ⊤

-- an input is read whole and accepted
abbrev pub IsFine : Option Contents → Source → Type 0
IsFine held s = OfBytes held (limit_of s.input) s.origin (IsAccepted s.kind)

-- ---- why an input is refused

-- the count of faults for a file rose
abbrev pub IsUnread : ShelfCall → Origin → Type 0
IsUnread r (File name) = Rose (r.faults_before name) (r.faults_after name)
IsUnread r (Made made) = ⊥

-- what is held under the name is longer than the limit
abbrev pub IsTooLong : Option Contents → ℕ → Origin → Type 0
IsTooLong held limit (File name) = WhereHeld held name (λ there. IsSomeAnd there (λ content. limit < length content))
IsTooLong held limit (Made made) = ⊥

-- the number of a fault of a stub file
abbrev pub stub_number : StubFault → Option ℕ
stub_number stub_faults.NotToml = Some 1
stub_number stub_faults.UnknownKey = Some 2
stub_number stub_faults.WrongKind = Some 3
stub_number stub_faults.OutOfRange = Some 4
stub_number stub_faults.Both = Some 5
stub_number stub_faults.Memory = None

-- a status tells a line and the kind of its fault
abbrev pub IsToldAt : Status → LineFault → Type 0
IsToldAt status fault = status ≡ InputRefused fault.line fault.kind

-- a text is refused at its first bad line, which a status tells
abbrev pub IsBadLine : {A : Type 0} → Result A LineFault → Status → Type 0
IsBadLine read status = (fault : LineFault) × (read ≡ Err fault) × IsToldAt status fault

-- bytes are refused for their first fault, which a status tells
abbrev pub IsFaulty : Kind → List ℕ → Status → Type 0
IsFaulty ImageFile bytes status = IsSomeAnd (first_fault bytes) (λ n. status ≡ ImageRefused n)
IsFaulty StubFile bytes status = (fault : StubFault) × Refuses bytes fault × IsSomeAnd (stub_number fault) (λ n. status ≡ StubsRefused n)
IsFaulty StartText bytes status = IsBadLine (start_read bytes) status
IsFaulty AutomatonText bytes status = IsBadLine (automaton_read bytes) status
IsFaulty RecordText bytes status = IsBadLine (record_read bytes) status
IsFaulty TableText bytes status = ⊥

-- an input is not read, or is too long, which a status tells
abbrev pub IsUnavailable : ShelfCall → Input → Origin → Status → Type 0
IsUnavailable r input origin status = ((status ≡ ReadFault input) × IsUnread r origin) ⊎ ((status ≡ TooLong input) × IsTooLong r.held (limit_of input) origin)

-- an input is refused since it is unavailable or faulty
abbrev pub IsRefusedAt : ShelfCall → Source → Status → Type 0
IsRefusedAt r s status = IsUnavailable r s.input s.origin status ⊎ OfBytes r.held (limit_of s.input) s.origin (λ bytes. IsFaulty s.kind bytes status)

-- inputs are refused at one of them, before which all are fine
abbrev pub AreRefused : ShelfCall → List Source → Status → Type 0
AreRefused r [] status = ⊥
AreRefused r (s ∷ rest) status = IsRefusedAt r s status ⊎ (IsFine r.held s × AreRefused r rest status)

-- ---- start files and records from which no run begins

-- the line of a start file or a record that has the fault, and its kind: the registers, the bases, or the fill
abbrev pub start_place : StartFault → Option LineFault
start_place start_faults.Align = Some (record { line = 2; kind = 11 })
start_place start_faults.Window = Some (record { line = 4; kind = 12 })
start_place start_faults.Overlap = Some (record { line = 4; kind = 13 })
start_place (start_faults.Fill index) = Some (record { line = 5 + index; kind = 14 })
start_place start_faults.Memory = None

-- no run of the image begins as a start file states, for its first fault, which a status tells
abbrev pub IsUnstartable : Image → StartFile → Status → Type 0
IsUnstartable image start status = (fault : StartFault) × (started image start ≡ Err fault) × IsSomeAnd (start_place fault) (IsToldAt status)

-- ---- what is held

-- a shelf that tells holds these bytes under a name
pub record IsHeld (held : Option Contents) (name bytes : List ℕ) : Type 0 where
  pub contents : Contents
  pub tells : held ≡ Some contents
  pub there : contents name ≡ Some bytes

-- what is held of an input is within its limit and not faulty, and no read of it failed; what the command makes is there
abbrev pub IsHeldFrom : ShelfCall → ℕ → Kind → Origin → Type 0
IsHeldFrom r limit kind (File name) =
    (bytes : List ℕ) × IsHeld r.held name bytes × (length bytes ≤ limit) × (IsUnread r (File name) → ⊥) × ((status : Status) → IsFaulty kind bytes status → ⊥)
IsHeldFrom r limit kind (Made made) = ⊤

abbrev pub AreHeld : ShelfCall → List Source → Type 0
AreHeld r [] = ⊤
AreHeld r (s ∷ rest) = IsHeldFrom r (limit_of s.input) s.kind s.origin × AreHeld r rest
