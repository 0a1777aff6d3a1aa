-- How the text of a table is read: what each whole line makes of what was read before it, or the kind of its fault.
use Rattle.std.specs.Prelude.{ℕ, ◌&&◌, Bool, true, false, List, [], ◌∷◌, ◌++◌, length, codes, nat_le, nat_lt, Option, None, Some, Result, Ok, Err, if◌then◌else◌}
use Rattle.std.specs.Str.{bytes_eq}
use Rattle.memory_map.specs.Image.{Image}
use Rattle.text_fields.specs.Decimal.{decimal_is}
use Rattle.text_fields.specs.Fields.{no_more, only_word, then_field}
use Rattle.text_fields.specs.Lines.{CONTENT, COUNT, END, FIELD, Grammar, HEADER, ORDER, WORD, demand, fields, follows_last, or_fault, read_text}
use Rattle.text_fields.specs.declared.line_fault.LineFault.{LineFault}
use Rattle.bounded_values.specs.declared.value.Bounded.{Bounded}
use Rattle.bounded_values.specs.BoundedLaws.{bounded}
use Rattle.partitioned_memory.specs.declared.fact.Fact.{Fact}
use Rattle.partitioned_memory.specs.declared.fact.Dirty.{Dirty}
use Rattle.partitioned_memory.specs.declared.fact.Counted.{Counted}
use Rattle.partitioned_memory.specs.Building.{is_block, is_sound_dirty, is_sound_fact}
use Rattle.partitioned_memory.specs.Held.{count_before, dirty_before, fact_before, spot_at}
use Rattle.partitioned_memory.specs.Pairs.{spot_before}
use Rattle.abstract_state.specs.declared.truth.Truth.{Truth}
use Rattle.abstract_state.specs.declared.note.Note.{Note}
use Rattle.abstract_state.specs.declared.plain.StateData.{StateData}
use Rattle.abstract_state.specs.State.{Known}
use Rattle.abstract_state.specs.Building.{built, is_dirty_of, is_fact_of, is_well_note}
use Rattle.table_check.specs.declared.table.Table.{Table}
use Rattle.table_check.specs.declared.stage.Stage.{Stage}
use Rattle.table_check.specs.declared.stage.Stage.TheVariants as stages
use Rattle.table_check.specs.Fields.{block_fields, dirty_fields, fact_fields, flags_fields, k_fields, note_fields, regs_fields}
use Rattle.table_check.specs.Text.{header_text}

-- ---- what was read so far

pub record TableSoFar : Type 0 where
  pub image : Image
  -- which line the last one was
  pub stage : Stage
  pub k : ℕ
  pub marked : List ℕ
  -- the rows whose states were read whole
  pub rows : List (ℕ × Known Bounded)
  -- where the row is that is being read, and its state as far as it was read
  pub at : ℕ
  pub state : StateData Bounded

abbrev pub no_state : StateData Bounded
no_state = record { regs = []; flags = []; note = None; facts = []; dirty = []; blocks = [] }

abbrev pub nothing : Image → TableSoFar
nothing image = record { image = image; stage = stages.Start; k = 0; marked = []; rows = []; at = 0; state = no_state }

-- ---- before the rows

abbrev pub header_step : TableSoFar → List ℕ → Result TableSoFar ℕ
header_step r line = demand (bytes_eq line header_text) HEADER (Ok (record r { stage = stages.Header }))

abbrev pub k_step : TableSoFar → List (List ℕ) → Result TableSoFar ℕ
k_step r [] = Err WORD
k_step r (word ∷ fs) =
    if bytes_eq word (codes "k") then or_fault FIELD (k_fields fs) (λ k. Ok (record r { stage = stages.Marks; k = k })) else Err WORD

unfoldable pub mark_step : TableSoFar → ℕ → Result TableSoFar ℕ
mark_step r at = demand (follows_last nat_lt r.marked at) ORDER (Ok (record r { marked = r.marked ++ at ∷ [] }))

-- ---- a row, its registers and its flags

abbrev pub row_step : TableSoFar → List (List ℕ) → Result TableSoFar ℕ
row_step r fs = or_fault FIELD (only_word fs) (λ at. Ok (record r { stage = stages.Row; at = at }))

abbrev pub with_regs : List Bounded → TableSoFar → TableSoFar
with_regs regs r = record r { stage = stages.Regs; state = record (r.state) { regs = regs } }

abbrev pub regs_step : TableSoFar → List (List ℕ) → Result TableSoFar ℕ
regs_step r [] = Err WORD
regs_step r (word ∷ fs) = if bytes_eq word (codes "regs") then or_fault FIELD (regs_fields fs) (λ regs. Ok (with_regs regs r)) else Err WORD

abbrev pub with_flags : List Truth → TableSoFar → TableSoFar
with_flags flags r = record r { stage = stages.Flags; state = record (r.state) { flags = flags } }

abbrev pub flags_step : TableSoFar → List (List ℕ) → Result TableSoFar ℕ
flags_step r [] = Err WORD
flags_step r (word ∷ fs) = if bytes_eq word (codes "flags") then or_fault FIELD (flags_fields fs) (λ flags. Ok (with_flags flags r)) else Err WORD

-- ---- the other lines of a state

unfoldable pub note_step : TableSoFar → Note → Result TableSoFar ℕ
note_step r note = demand (is_well_note note) CONTENT (Ok (record r { stage = stages.Note; state = record (r.state) { note = Some note } }))

abbrev pub is_fact_above : Fact Bounded → Fact Bounded → Bool
is_fact_above f g = spot_before (spot_at f.area f.low) (spot_at g.area g.low)

-- a fact stands above the last one; it is sound, of bytes of the image where it is one of the image, and meets no other
unfoldable pub fact_step : TableSoFar → Fact Bounded → Result TableSoFar ℕ
fact_step r f =
    demand (follows_last is_fact_above r.state.facts f) ORDER
    (demand (is_sound_fact bounded f && (is_fact_of r.image f && follows_last fact_before r.state.facts f)) CONTENT
    (Ok (record r { stage = stages.Facts; state = record (r.state) { facts = r.state.facts ++ f ∷ [] } })))

abbrev pub is_dirty_above : Dirty → Dirty → Bool
is_dirty_above f g = spot_before (spot_at f.area f.low) (spot_at g.area g.low)

-- the same of a dirty range, which touches no other either
unfoldable pub dirty_step : TableSoFar → Dirty → Result TableSoFar ℕ
dirty_step r d =
    demand (follows_last is_dirty_above r.state.dirty d) ORDER
    (demand (is_sound_dirty d && (is_dirty_of r.image d && follows_last dirty_before r.state.dirty d)) CONTENT
    (Ok (record r { stage = stages.Dirty; state = record (r.state) { dirty = r.state.dirty ++ d ∷ [] } })))

unfoldable pub block_step : TableSoFar → Counted → Result TableSoFar ℕ
block_step r c =
    demand (follows_last count_before r.state.blocks c) ORDER (demand (is_block c) CONTENT
    (Ok (record r { stage = stages.Blocks; state = record (r.state) { blocks = r.state.blocks ++ c ∷ [] } })))

-- ---- the end of a state

-- the state is whole: it has to be one of the image, with each region counted that it names
abbrev pub closed_by : Option (Known Bounded) → TableSoFar → Result TableSoFar ℕ
closed_by None r = Err CONTENT
closed_by (Some s) r = Ok (record r { rows = r.rows ++ (r.at, s) ∷ []; state = no_state })

unfoldable pub closed : TableSoFar → Result TableSoFar ℕ
closed r = closed_by (built bounded r.image r.state) r

-- ---- the `end` line

unfoldable pub count_fields : TableSoFar → List (List ℕ) → Option Bool
count_fields r fs = then_field (decimal_is (length r.rows)) fs (λ same fs. no_more same fs)

unfoldable pub end_step : TableSoFar → List (List ℕ) → Result TableSoFar ℕ
end_step r fs = or_fault FIELD (count_fields r fs) (λ same. demand same COUNT (Ok (record r { stage = stages.Ended })))

-- ---- all lines

-- a row or the end
unfoldable pub next_step : TableSoFar → List ℕ → List (List ℕ) → Result TableSoFar ℕ
next_step r word fs =
    if bytes_eq word (codes "row") then row_step r fs
    else if bytes_eq word (codes "end") then end_step r fs
    else Err WORD

-- a mark, or what stands behind the marks
unfoldable pub mark_or_next_step : TableSoFar → List (List ℕ) → Result TableSoFar ℕ
mark_or_next_step r [] = Err WORD
mark_or_next_step r (word ∷ fs) =
    if bytes_eq word (codes "open") then or_fault FIELD (only_word fs) (mark_step r) else next_step r word fs

-- how far a state was read: to its flags, its note, its facts, its dirty ranges or its counts
abbrev pub part_of : Stage → ℕ
part_of stages.Note = 1
part_of stages.Facts = 2
part_of stages.Dirty = 3
part_of stages.Blocks = 4
part_of _ = 0

-- the state that ends before this line, and the line behind it
abbrev pub after_state : Result TableSoFar ℕ → List ℕ → List (List ℕ) → Result TableSoFar ℕ
after_state (Ok r) word fs = next_step r word fs
after_state (Err kind) word fs = Err kind

-- a line that goes on with a state, or the first one that cannot
unfoldable pub state_step : TableSoFar → List (List ℕ) → Result TableSoFar ℕ
state_step r [] = Err WORD
state_step r (word ∷ fs) =
    if bytes_eq word (codes "note") && nat_lt (part_of r.stage) 1 then or_fault FIELD (note_fields fs) (note_step r)
    else if bytes_eq word (codes "fact") && nat_le (part_of r.stage) 2 then or_fault FIELD (fact_fields fs) (fact_step r)
    else if bytes_eq word (codes "dirty") && nat_le (part_of r.stage) 3 then or_fault FIELD (dirty_fields fs) (dirty_step r)
    else if bytes_eq word (codes "block") then or_fault FIELD (block_fields fs) (block_step r)
    else after_state (closed r) word fs

-- the line that follows one of this kind
abbrev pub step_after : Stage → TableSoFar → List ℕ → Result TableSoFar ℕ
step_after stages.Start r line = header_step r line
step_after stages.Header r line = k_step r (fields line)
step_after stages.Marks r line = mark_or_next_step r (fields line)
step_after stages.Row r line = regs_step r (fields line)
step_after stages.Regs r line = flags_step r (fields line)
step_after stages.Flags r line = state_step r (fields line)
step_after stages.Note r line = state_step r (fields line)
step_after stages.Facts r line = state_step r (fields line)
step_after stages.Dirty r line = state_step r (fields line)
step_after stages.Blocks r line = state_step r (fields line)
step_after stages.Ended r line = Err END

unfoldable pub table_step : TableSoFar → List ℕ → Result TableSoFar ℕ
table_step r line = step_after r.stage r line

abbrev pub is_over : Stage → Bool
is_over stages.Ended = true
is_over _ = false

abbrev pub table_grammar : Grammar TableSoFar
table_grammar = record { step = table_step; is_ended = λ r. is_over r.stage }

-- ---- whole texts

abbrev pub told : Result TableSoFar LineFault → Result (Table Bounded) LineFault
told (Ok r) = Ok (record { k = r.k; rows = r.rows; marked = r.marked })
told (Err f) = Err f

-- the table of an image that a text tells, or its first bad line
unfoldable pub table_read : Image → List ℕ → Result (Table Bounded) LineFault
table_read image text = told (read_text table_grammar (nothing image) text)
