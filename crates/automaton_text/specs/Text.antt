-- The text of an automaton, versions 1 and 2: lines of ASCII, each ended by one byte 0A.
use Rattle.std.specs.Prelude.{◌≡◌, ℕ, Bool, is_some, map, ◌||◌, List, [], ◌∷◌, ◌++◌, length, Option, None, Some, codes, decimal, flat_map, if◌then◌else◌, ◌==◌, All}
use Rattle.memory_map.specs.Image.{EXIT_PLACE}
use Rattle.text_fields.specs.Hex.{hex8, hex_text}
use Rattle.text_fields.specs.Line.{newline, space}
use Rattle.x86_syntax.specs.Spelling.{spelled}
use Rattle.x86_syntax.specs.Text.{instr_text}
use Rattle.x86_decoder.specs.Refusals.{IsSpelling}
use Rattle.x86_syntax.specs.declared.instr.Instr.{Instr}
use Rattle.flow_log.specs.declared.cause.Cause.{Cause}
use Rattle.flow_log.specs.declared.cause.Cause.TheVariants as causes
use Rattle.flow_log.specs.declared.edge.Edge.{Edge}
use Rattle.flow_log.specs.declared.edge.Label.{Label}
use Rattle.flow_log.specs.declared.edge.Label.TheVariants.{Code, Import}
use Rattle.automaton_text.specs.declared.automaton.Location.{Location}
use Rattle.automaton_text.specs.declared.automaton.OpenMark.{OpenMark}
use Rattle.automaton_text.specs.declared.automaton.Automaton.{Automaton}

abbrev pub header_line : ℕ → List ℕ
header_line version = codes "jakstab-automaton " ++ decimal version ++ newline

abbrev pub entry_line : ℕ → List ℕ
entry_line a = codes "entry " ++ hex8 a ++ newline

abbrev pub import_suffix : Option (List ℕ) → List ℕ
import_suffix None = []
import_suffix (Some name) = space ++ name

-- the exit place has no name and a dash
abbrev pub suffix_of : Location → List ℕ
suffix_of l = if l.at == EXIT_PLACE then codes " -" else import_suffix l.name

unfoldable pub loc_line : Location → List ℕ
loc_line l = codes "loc " ++ hex8 l.at ++ suffix_of l ++ newline

abbrev pub text_at : ℕ → ℕ → Option Instr → List ℕ
text_at from len None = []
text_at from len (Some i) = instr_text from i len

-- the text of the instruction whose bytes these are
unfoldable pub code_text : ℕ → List ℕ → List ℕ
code_text from bytes = text_at from (length bytes) (spelled bytes)

unfoldable pub label_text : ℕ → Label → List ℕ
label_text from (Code bytes) = hex_text bytes.items ++ space ++ code_text from bytes.items
label_text from (Import name) = codes "import " ++ name

unfoldable pub edge_line : Edge → List ℕ
edge_line e = codes "edge " ++ hex8 e.from ++ space ++ hex8 e.to ++ space ++ label_text e.from e.label ++ newline

abbrev pub cause_text : Cause → List ℕ
cause_text causes.Bytes = codes "bytes"
cause_text causes.NoStub = codes "nostub"
cause_text causes.Target = codes "target"
cause_text causes.Store = codes "store"
cause_text causes.Stack = codes "stack"
cause_text causes.Block = codes "block"
cause_text causes.Code = codes "code"
cause_text causes.Budget = codes "budget"

-- the row, where there is one
abbrev pub row_suffix : Option ℕ → List ℕ
row_suffix None = []
row_suffix (Some row) = space ++ decimal row

unfoldable pub open_line : OpenMark → List ℕ
open_line m = codes "open " ++ hex8 m.at ++ space ++ cause_text m.cause ++ row_suffix m.row ++ newline

-- how many locations, edges and marks there are
abbrev pub end_line : ℕ → ℕ → ℕ → List ℕ
end_line locations edges marks = codes "end " ++ decimal locations ++ space ++ decimal edges ++ space ++ decimal marks ++ newline

unfoldable pub text_of : Automaton → List ℕ
text_of a =
    header_line a.version
    ++ entry_line a.entry
    ++ flat_map loc_line a.locations
    ++ flat_map edge_line a.edges
    ++ flat_map open_line a.marks
    ++ end_line (length a.locations) (length a.edges) (length a.marks)

-- the bytes of a code label are a spelling
abbrev pub IsSpelled : Label → Type 0
IsSpelled (Code bytes) = IsSpelling bytes.items
IsSpelled (Import name) = Unit {0}

-- the bytes of each code label are
abbrev pub AreSpelled : List Edge → Type 0
AreSpelled edges = All (λ e. IsSpelled e.label) edges

-- the versions of the text
abbrev pub is_version : ℕ → Bool
is_version version = version == 1 || version == 2

-- each mark has a row exactly in version 2
abbrev pub HaveRowsBy : ℕ → List OpenMark → Type 0
HaveRowsBy version marks = All (λ m. is_some m.row ≡ (version == 2)) marks

abbrev pub without_row : OpenMark → OpenMark
without_row m = record m { row = None }

-- the same automaton as version 1 tells it
abbrev pub as_version_1 : Automaton → Automaton
as_version_1 a = record a { version = 1; marks = map without_row a.marks }
