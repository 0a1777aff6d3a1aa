-- The grammars of start files and run records: what each whole line makes of what was read before it, or the kind of its fault.
use Rattle.std.specs.Prelude.{ℕ, ◌≡◌, ◌++◌, Bool, false, true, List, [], ◌∷◌, codes, replicate, Option, None, Some, option_map, Result, Ok, Err, is_some, if◌then◌else◌}
use Rattle.std.specs.Option.{ok_or}
use Rattle.std.specs.Str.{bytes_eq}
use Rattle.memory_map.specs.declared.choice.Choice.{Choice}
use Rattle.memory_map.specs.declared.choice.Fill.{Fill}
use Rattle.text_fields.specs.Fields.{no_more}
use Rattle.text_fields.specs.declared.line_fault.LineFault.{LineFault}
use Rattle.text_fields.specs.Lines.{FIELD, Grammar, HEADER, WORD, fields, read_text}
use Rattle.x86_machine.specs.declared.start_file.StartFile.{StartFile}
use Rattle.run_replayer.specs.declared.head.Due.{Due}
use Rattle.run_replayer.specs.declared.head.Due.TheVariants as due
use Rattle.run_replayer.specs.declared.head.Head.{Head}
use Rattle.run_replayer.specs.declared.record.RunStep.{RunStep}
use Rattle.run_replayer.specs.declared.record.RunRecord.{RunRecord}
use Rattle.run_replayer.specs.declared.start_reader.StartReader.{StartReader}
use Rattle.run_replayer.specs.declared.record_reader.RecordReader.{RecordReader}
use Rattle.run_replayer.specs.Fields.{bases_of, choice_of, ending_of, fill_of, regs_of, six_flags_of, step_of}
use Rattle.run_replayer.specs.Texts.{record_header, start_header}

-- ---- fields behind a first word

-- what fields make, or a fault of theirs
abbrev pub or_field : {A : Type 0} → Option A → Result A ℕ
or_field made = ok_or made FIELD

-- the fields behind the first one, where that is this word
abbrev pub behind : List ℕ → List (List ℕ) → Option (List (List ℕ))
behind word [] = None
behind word (first ∷ others) = if bytes_eq first word then Some others else None

-- what these fields make; another first word is a fault
abbrev pub or_word : {A : Type 0} → Option (List (List ℕ)) → (List (List ℕ) → Option A) → Result A ℕ
or_word None go = Err WORD
or_word (Some others) go = or_field (go others)

abbrev pub behind_word : {A : Type 0} → List ℕ → List ℕ → (List (List ℕ) → Option A) → Result A ℕ
behind_word word line go = or_word (behind word (fields line)) go

-- the whole of which this is a part
abbrev pub within : {A B : Type 0} → (A → B) → Result A ℕ → Result B ℕ
within whole (Ok a) = Ok (whole a)
within whole (Err kind) = Err kind

-- ---- the lines with which both texts begin: the first line, the registers, the flags and the bases

abbrev pub header_step : List ℕ → Head → List ℕ → Result Head ℕ
header_step header h line = if bytes_eq line header then Ok (record h { due = due.Regs }) else Err HEADER

abbrev pub regs_step : Head → List ℕ → Result Head ℕ
regs_step h line = behind_word (codes "regs") line (λ fs. option_map (λ regs. record h { due = due.Flags; regs = regs }) (regs_of fs))

abbrev pub flags_step : Head → List ℕ → Result Head ℕ
flags_step h line = behind_word (codes "flags") line (λ fs. option_map (λ flags. record h { due = due.Bases; flags = flags }) (six_flags_of fs))

abbrev pub bases_step : Head → List ℕ → Result Head ℕ
bases_step h line = behind_word (codes "bases") line (λ fs. option_map (λ bases. record h { due = due.Rest; fs = bases.0; gs = bases.1 }) (bases_of fs))

-- the line that is due
abbrev pub due_step : Due → List ℕ → Head → List ℕ → Result Head ℕ
due_step due.Header header h line = header_step header h line
due_step due.Regs header h line = regs_step h line
due_step due.Flags header h line = flags_step h line
due_step due.Bases header h line = bases_step h line
due_step due.Rest header h line = Err WORD

unfoldable pub head_step : List ℕ → Head → List ℕ → Result Head ℕ
head_step header h line = due_step h.due header h line

abbrev pub is_rest : Due → Bool
is_rest due.Rest = true
is_rest _ = false

-- nothing was read
abbrev pub no_head : Head
no_head = record { due = due.Header; regs = replicate 8 0; flags = 0; fs = 0; gs = 0; fill = [] }

-- what these lines stated is this start file, with these choices
pub record IsStartOf (h : Head) (chosen : List Choice) (s : StartFile) : Type 0 where
  pub regs : s.regs ≡ h.regs
  pub flags : s.flags ≡ h.flags
  pub fs : s.fs ≡ h.fs
  pub gs : s.gs ≡ h.gs
  pub fill : s.fill ≡ h.fill
  pub choices : s.choices ≡ chosen

-- ---- fills: they belong to the choice before them, and before any choice to the start

abbrev pub with_head_fill : Fill → Head → Head
with_head_fill f h = record h { fill = h.fill ++ f ∷ [] }

abbrev pub with_fill : Fill → Choice → Choice
with_fill f c = record c { fill = c.fill ++ f ∷ [] }

-- the last one changed
abbrev pub with_last : {X : Type 0} → (X → X) → List X → List X
with_last change [] = []
with_last change (x ∷ []) = change x ∷ []
with_last change (x ∷ y ∷ xs) = x ∷ with_last change (y ∷ xs)

-- ---- start files

abbrev pub with_start_fill : Fill → List Choice → StartReader → StartReader
with_start_fill f [] s = record s { head = with_head_fill f s.head }
with_start_fill f (c ∷ cs) s = record s { choices = with_last (with_fill f) (c ∷ cs) }

-- a fill, a choice, or the end
unfoldable pub start_rest : StartReader → List (List ℕ) → Result StartReader ℕ
start_rest s [] = Err WORD
start_rest s (word ∷ fs) =
    if bytes_eq word (codes "fill") then or_field (option_map (λ f. with_start_fill f s.choices s) (fill_of fs))
    else if bytes_eq word (codes "choice") then or_field (option_map (λ c. record s { choices = s.choices ++ c ∷ [] }) (choice_of fs))
    else if bytes_eq word (codes "end") then or_field (no_more (record s { ended = true }) fs)
    else Err WORD

unfoldable pub start_step : StartReader → List ℕ → Result StartReader ℕ
start_step s line = if is_rest s.head.due then start_rest s (fields line) else within (λ head. record s { head = head }) (head_step start_header s.head line)

abbrev pub start_grammar : Grammar StartReader
start_grammar = record { step = start_step; is_ended = λ s. s.ended }

abbrev pub no_start : StartReader
no_start = record { head = no_head; choices = []; ended = false }

-- what was read is this start file
abbrev pub IsStart : StartReader → StartFile → Type 0
IsStart read s = IsStartOf read.head read.choices s

-- what comes of a text, or its first bad line
abbrev pub start_read : List ℕ → Result StartReader LineFault
start_read text = read_text start_grammar no_start text

-- a text states a start file
pub record StatesStart (text : List ℕ) (s : StartFile) : Type 0 where
  pub read : StartReader
  pub reads : start_read text ≡ Ok read
  pub is : IsStart read s

-- ---- run records

abbrev pub with_step_fill : Fill → RunStep → RunStep
with_step_fill f s = record s { choice = with_fill f s.choice }

abbrev pub with_record_fill : Fill → List RunStep → RecordReader → RecordReader
with_record_fill f [] r = record r { head = with_head_fill f r.head }
with_record_fill f (s ∷ ss) r = record r { steps = with_last (with_step_fill f) (s ∷ ss) }

-- a fill, a step, or the end
unfoldable pub record_rest : RecordReader → List (List ℕ) → Result RecordReader ℕ
record_rest r [] = Err WORD
record_rest r (word ∷ fs) =
    if bytes_eq word (codes "fill") then or_field (option_map (λ f. with_record_fill f r.steps r) (fill_of fs))
    else if bytes_eq word (codes "step") then or_field (option_map (λ s. record r { steps = r.steps ++ s ∷ [] }) (step_of fs))
    else if bytes_eq word (codes "end") then or_field (option_map (λ end. record r { end = Some end }) (ending_of fs))
    else Err WORD

unfoldable pub record_step : RecordReader → List ℕ → Result RecordReader ℕ
record_step r line = if is_rest r.head.due then record_rest r (fields line) else within (λ head. record r { head = head }) (head_step record_header r.head line)

abbrev pub record_grammar : Grammar RecordReader
record_grammar = record { step = record_step; is_ended = λ r. is_some r.end }

abbrev pub no_record : RecordReader
no_record = record { head = no_head; steps = []; end = None }

-- what was read is this record
pub record IsRecord (read : RecordReader) (r : RunRecord) : Type 0 where
  pub start : IsStartOf read.head [] r.start
  pub steps : r.steps ≡ read.steps
  pub end : read.end ≡ Some r.end

-- what comes of a text, or its first bad line
abbrev pub record_read : List ℕ → Result RecordReader LineFault
record_read text = read_text record_grammar no_record text

-- a text states a record
pub record StatesRecord (text : List ℕ) (r : RunRecord) : Type 0 where
  pub read : RecordReader
  pub reads : record_read text ≡ Ok read
  pub is : IsRecord read r
