-- How the text of an automaton is read: what each whole line makes of what was read before it, or the kind of its fault.
use Rattle.std.specs.Prelude.{◌≡◌, ◌<◌, ◌^◌, ◌==◌, ◌&&◌, ◌++◌, ℕ, Bool, true, false, not, List, [], ◌∷◌, length, codes, find, nat_lt, nat_le, Option, None, Some, is_some, option_and_then, option_map, Result, Ok, Err, if◌then◌else◌}
use Rattle.std.specs.Option.{option_map_or}
use Rattle.std.specs.Ordering.{nat_cmp, is_lt}
use Rattle.std.specs.Cmp.Lexicographic.{slice_cmp}
use Rattle.std.specs.List.{AllPairs, join_with_byte}
use Rattle.std.specs.Str.{bytes_eq}
use Rattle.memory_map.specs.Image.{EXIT_PLACE}
use Rattle.memory_map.specs.Name.{is_name}
use Rattle.text_fields.specs.Decimal.{decimal_below, decimal_is}
use Rattle.text_fields.specs.Fields.{no_more, only_word, then_field, word_of}
use Rattle.text_fields.specs.Hex.{hex_bytes}
use Rattle.text_fields.specs.Lines.{CONTENT, COUNT, FIELD, Grammar, HEADER, ORDER, WORD, END, demand, fields, follows_last, or_fault, read_text}
use Rattle.text_fields.specs.declared.line_fault.LineFault.{LineFault}
use Rattle.x86_syntax.specs.Spelling.{spelled}
use Rattle.flow_log.specs.declared.cause.Cause.{Cause}
use Rattle.flow_log.specs.declared.cause.Cause.TheVariants as causes
use Rattle.flow_log.specs.declared.edge.Edge.{Edge}
use Rattle.flow_log.specs.declared.edge.Label.TheVariants.{Code, Import}
use Rattle.automaton_text.specs.declared.automaton.Location.{Location}
use Rattle.automaton_text.specs.declared.automaton.OpenMark.{OpenMark}
use Rattle.automaton_text.specs.declared.automaton.Automaton.{Automaton}
use Rattle.automaton_text.specs.declared.stage.Stage.{Stage}
use Rattle.automaton_text.specs.declared.stage.Stage.TheVariants as stages
use Rattle.automaton_text.specs.Orders.{opening_cmp}
use Rattle.automaton_text.specs.Text.{cause_text, code_text}

-- ---- what was read so far

pub record AutomatonSoFar : Type 0 where
  -- which line the last one was
  pub stage : Stage
  pub version : ℕ
  pub entry : ℕ
  pub locations : List Location
  pub edges : List Edge
  -- the last line of an edge
  pub last_edge : List ℕ
  pub marks : List OpenMark

abbrev pub nothing : AutomatonSoFar
nothing = record { stage = stages.Start; version = 0; entry = 0; locations = []; edges = []; last_edge = []; marks = [] }

-- ---- locations

-- each stands above those before it
abbrev pub AreAscending : List Location → Type 0
AreAscending locations = AllPairs (λ a b. a.at < b.at) locations

-- whether an address stands above the last location
abbrev pub is_above : List Location → ℕ → Bool
is_above locations at = follows_last (λ l at. nat_lt l.at at) locations at

unfoldable pub location_at : List Location → ℕ → Option Location
location_at locations at = find (λ l. l.at == at) locations

abbrev pub is_location : List Location → ℕ → Bool
is_location locations at = is_some (location_at locations at)

-- whether an address is the place of the import of this name
abbrev pub is_named : List ℕ → Option (List ℕ) → Bool
is_named name held = option_map_or (λ n. bytes_eq n name) held false

abbrev pub is_place_of : List Location → ℕ → List ℕ → Bool
is_place_of locations at name = option_map_or (λ l. is_named name l.name) (location_at locations at) false

-- the kind of the fault that the entry is no location. The first line after the locations shows it, and it is a fault of what
-- the entry's line says.
abbrev pub NO_ENTRY : ℕ
NO_ENTRY = 8

-- ---- the first line and the entry

abbrev pub version_of : List ℕ → Option ℕ
version_of line =
    if bytes_eq line (codes "jakstab-automaton 1") then Some 1 else if bytes_eq line (codes "jakstab-automaton 2") then Some 2 else None

abbrev pub header_step : AutomatonSoFar → List ℕ → Result AutomatonSoFar ℕ
header_step r line = or_fault HEADER (version_of line) (λ version. Ok (record r { stage = stages.Header; version = version }))

abbrev pub entry_step : AutomatonSoFar → List (List ℕ) → Result AutomatonSoFar ℕ
entry_step r [] = Err WORD
entry_step r (word ∷ fs) =
    if bytes_eq word (codes "entry") then or_fault FIELD (only_word fs) (λ entry. Ok (record r { stage = stages.Locations; entry = entry }))
    else Err WORD

-- ---- `loc` lines

abbrev pub name_of : List ℕ → Option (List ℕ)
name_of field = if is_name field then Some field else None

-- the name of a location or the dash of the exit place, where there is one
abbrev pub suffix_fields : List (List ℕ) → Option (Option (List ℕ))
suffix_fields [] = Some None
suffix_fields (field ∷ fs) = option_and_then (λ name. no_more (Some name) fs) (name_of field)

unfoldable pub location_fields : List (List ℕ) → Option (ℕ × Option (List ℕ))
location_fields fs = then_field word_of fs (λ at fs. option_map (λ suffix. (at, suffix)) (suffix_fields fs))

-- the exit place alone has the dash
abbrev pub has_own_suffix : ℕ → Option (List ℕ) → Bool
has_own_suffix at suffix = if at == EXIT_PLACE then is_named (codes "-") suffix else not (is_named (codes "-") suffix)

-- and no name
abbrev pub own_name : ℕ → Option (List ℕ) → Option (List ℕ)
own_name at suffix = if at == EXIT_PLACE then None else suffix

unfoldable pub location_step : AutomatonSoFar → ℕ → Option (List ℕ) → Result AutomatonSoFar ℕ
location_step r at suffix =
    demand (is_above r.locations at) ORDER (demand (has_own_suffix at suffix) CONTENT
    (Ok (record r { locations = r.locations ++ record { at = at; name = own_name at suffix } ∷ [] })))

-- ---- `edge` lines

-- the ends of an edge, and its other fields
unfoldable pub end_fields : List (List ℕ) → Option (ℕ × ℕ × List (List ℕ))
end_fields fs = then_field word_of fs (λ from fs. then_field word_of fs (λ to fs. Some (from, to, fs)))

unfoldable pub import_fields : List (List ℕ) → Option (List ℕ)
import_fields fs = then_field name_of fs (λ name fs. no_more name fs)

-- all fields that are left, as they stand in the line
abbrev pub text_fields : List (List ℕ) → Option (List ℕ)
text_fields [] = None
text_fields (field ∷ fs) = Some (join_with_byte 32 (field ∷ fs))

-- an instruction's bytes and its text
unfoldable pub code_fields : List ℕ → List (List ℕ) → Option (List ℕ × List ℕ)
code_fields field fs = option_and_then (λ bytes. option_map (λ text. (bytes, text)) (text_fields fs)) (hex_bytes field)

-- whether the bytes of a line stand above those of the last line of an edge
abbrev pub is_line_above : List ℕ → List ℕ → Bool
is_line_above last line = is_lt (slice_cmp nat_cmp last line)

-- whether bytes are those of one instruction, and this is its text
unfoldable pub is_code : ℕ → List ℕ → List ℕ → Bool
is_code from bytes text = nat_le (length bytes) 15 && is_some (spelled bytes) && bytes_eq (code_text from bytes) text

abbrev pub with_edge : AutomatonSoFar → List ℕ → Edge → AutomatonSoFar
with_edge r line e = record r { stage = stages.Edges; edges = r.edges ++ e ∷ []; last_edge = line }

unfoldable pub import_step : AutomatonSoFar → List ℕ → ℕ → ℕ → List ℕ → Result AutomatonSoFar ℕ
import_step r line from to name =
    demand (is_line_above r.last_edge line) ORDER (demand (is_place_of r.locations from name && is_location r.locations to) CONTENT
    (Ok (with_edge r line (record { from = from; to = to; label = Import name }))))

unfoldable pub code_step : AutomatonSoFar → List ℕ → ℕ → ℕ → List ℕ → List ℕ → Result AutomatonSoFar ℕ
code_step r line from to bytes text =
    demand (is_line_above r.last_edge line) ORDER (demand (is_location r.locations from && is_location r.locations to && is_code from bytes text) CONTENT
    (Ok (with_edge r line (record { from = from; to = to; label = Code (record { items = bytes }) }))))

-- the word `import` and a name, or bytes and their text
unfoldable pub label_step : AutomatonSoFar → List ℕ → ℕ → ℕ → List (List ℕ) → Result AutomatonSoFar ℕ
label_step r line from to [] = Err FIELD
label_step r line from to (field ∷ fs) =
    if bytes_eq field (codes "import") then or_fault FIELD (import_fields fs) (λ name. import_step r line from to name)
    else or_fault FIELD (code_fields field fs) (λ code. code_step r line from to code.0 code.1)

unfoldable pub edge_step : AutomatonSoFar → List ℕ → List (List ℕ) → Result AutomatonSoFar ℕ
edge_step r line fs = or_fault FIELD (end_fields fs) (λ ends. label_step r line ends.0 ends.1 ends.2)

-- ---- `open` lines

abbrev pub all_causes : List Cause
all_causes = causes.Bytes ∷ causes.NoStub ∷ causes.Target ∷ causes.Store ∷ causes.Stack ∷ causes.Block ∷ causes.Code ∷ causes.Budget ∷ []

abbrev pub cause_of : List ℕ → Option Cause
cause_of field = find (λ cause. bytes_eq (cause_text cause) field) all_causes

abbrev pub row_of : List ℕ → Option ℕ
row_of field = decimal_below (2 ^ 32) field

-- a row in version 2, and none in version 1
abbrev pub row_fields : ℕ → List (List ℕ) → Option (Option ℕ)
row_fields version fs = if version == 2 then then_field row_of fs (λ row fs. no_more (Some row) fs) else no_more None fs

unfoldable pub mark_fields : ℕ → List (List ℕ) → Option OpenMark
mark_fields version fs =
    then_field word_of fs (λ at fs. then_field cause_of fs (λ cause fs. option_map (λ row. record { at = at; cause = cause; row = row }) (row_fields version fs)))

-- whether a mark stands above the last one; a location and a cause stand once
abbrev pub is_mark_above : List OpenMark → OpenMark → Bool
is_mark_above marks m = follows_last (λ last m. is_lt (opening_cmp last m)) marks m

unfoldable pub mark_step : AutomatonSoFar → OpenMark → Result AutomatonSoFar ℕ
mark_step r m =
    demand (is_mark_above r.marks m) ORDER (demand (is_location r.locations m.at) CONTENT
    (Ok (record r { stage = stages.Marks; marks = r.marks ++ m ∷ [] })))

-- ---- the `end` line

-- whether three numbers are those of the locations, the edges and the marks
unfoldable pub count_fields : AutomatonSoFar → List (List ℕ) → Option Bool
count_fields r fs =
    then_field (decimal_is (length r.locations)) fs (λ locations fs. then_field (decimal_is (length r.edges)) fs (λ edges fs.
    then_field (decimal_is (length r.marks)) fs (λ marks fs. no_more (locations && edges && marks) fs)))

unfoldable pub end_step : AutomatonSoFar → List (List ℕ) → Result AutomatonSoFar ℕ
end_step r fs = or_fault FIELD (count_fields r fs) (λ hold. demand hold COUNT (Ok (record r { stage = stages.Ended })))

-- ---- all lines

abbrev pub is_marks : Stage → Bool
is_marks stages.Marks = true
is_marks _ = false

-- an edge, a mark or the end
unfoldable pub later_step : AutomatonSoFar → List ℕ → List (List ℕ) → Result AutomatonSoFar ℕ
later_step r line [] = Err WORD
later_step r line (word ∷ fs) =
    if bytes_eq word (codes "edge") then (if is_marks r.stage then Err WORD else edge_step r line fs)
    else if bytes_eq word (codes "open") then or_fault FIELD (mark_fields r.version fs) (mark_step r)
    else if bytes_eq word (codes "end") then end_step r fs
    else Err WORD

-- one more location, or the first line that is none
unfoldable pub location_or_later_step : AutomatonSoFar → List ℕ → List (List ℕ) → Result AutomatonSoFar ℕ
location_or_later_step r line [] = Err WORD
location_or_later_step r line (word ∷ fs) =
    if bytes_eq word (codes "loc") then or_fault FIELD (location_fields fs) (λ l. location_step r l.0 l.1)
    else demand (is_location r.locations r.entry) NO_ENTRY (later_step r line (word ∷ fs))

-- the line that follows one of this kind
abbrev pub step_after : Stage → AutomatonSoFar → List ℕ → Result AutomatonSoFar ℕ
step_after stages.Start r line = header_step r line
step_after stages.Header r line = entry_step r (fields line)
step_after stages.Locations r line = location_or_later_step r line (fields line)
step_after stages.Edges r line = later_step r line (fields line)
step_after stages.Marks r line = later_step r line (fields line)
step_after stages.Ended r line = Err END

unfoldable pub automaton_step : AutomatonSoFar → List ℕ → Result AutomatonSoFar ℕ
automaton_step r line = step_after r.stage r line

abbrev pub is_over : Stage → Bool
is_over stages.Ended = true
is_over _ = false

abbrev pub automaton_grammar : Grammar AutomatonSoFar
automaton_grammar = record { step = automaton_step; is_ended = λ r. is_over r.stage }

-- ---- whole texts

-- that the entry is no location is a fault of the entry's line, which is the second
abbrev pub told_fault : LineFault → LineFault
told_fault f = if f.kind == NO_ENTRY then record { line = 2; kind = CONTENT } else f

abbrev pub told : Result AutomatonSoFar LineFault → Result Automaton LineFault
told (Ok r) = Ok (record { version = r.version; entry = r.entry; locations = r.locations; edges = r.edges; marks = r.marks })
told (Err f) = Err (told_fault f)

-- the automaton that a text tells, or its first bad line
unfoldable pub automaton_read : List ℕ → Result Automaton LineFault
automaton_read text = told (read_text automaton_grammar nothing text)
