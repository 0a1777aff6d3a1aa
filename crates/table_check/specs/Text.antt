-- The text of a table, version 1: lines of ASCII, each ended by one byte 0A.
use Rattle.std.specs.Prelude.{ℕ, Bool, true, false, List, [], ◌++◌, length, map, Option, None, Some, codes, decimal, flat_map, ℤ}
use Rattle.text_fields.specs.Hex.{hex8}
use Rattle.text_fields.specs.Line.{newline, space}
use Rattle.bit_words.specs.declared.width.Width.TheVariants.{B32}
use Rattle.bit_words.specs.Width.{bytes_of, word_of}
use Rattle.address_regions.specs.declared.region.Region.{Region}
use Rattle.address_regions.specs.declared.region.Region.TheVariants.{Stack, Fs, Gs, Block}
use Rattle.bounded_values.specs.declared.value.Bounded.{Bounded}
use Rattle.bounded_values.specs.declared.value.Bounded.TheVariants.{Number, Exact, Inside, Any}
use Rattle.partitioned_memory.specs.declared.area.Area.{Area}
use Rattle.partitioned_memory.specs.declared.area.Area.TheVariants.{Image, In}
use Rattle.partitioned_memory.specs.declared.fact.Fact.{Fact}
use Rattle.partitioned_memory.specs.declared.fact.Dirty.{Dirty}
use Rattle.partitioned_memory.specs.declared.fact.Counted.{Counted}
use Rattle.abstract_state.specs.declared.truth.Truth.{Truth}
use Rattle.abstract_state.specs.declared.truth.Truth.TheVariants.{Yes, No, Unknown}
use Rattle.abstract_state.specs.declared.note.Note.{Note}
use Rattle.abstract_state.specs.declared.note.Note.TheVariants.{Register, Word}
use Rattle.abstract_state.specs.declared.plain.StateData.{StateData}
use Rattle.abstract_state.specs.State.{Known}
use Rattle.abstract_state.specs.Building.{plain_of}
use Rattle.table_check.specs.declared.table.Table.{Table}
use Rattle.text_fields.specs.Fields.{bool_text}

-- ---- fields

unfoldable pub region_text : Region → List ℕ
region_text Stack = codes "stack"
region_text Fs = codes "fs"
region_text Gs = codes "gs"
region_text (Block site size zeroed) = codes "b." ++ hex8 site ++ codes "." ++ hex8 size ++ codes "." ++ bool_text zeroed

abbrev pub area_text : Area → List ℕ
area_text Image = codes "image"
area_text (In r) = region_text r

-- an offset or a size, modulo 2 ^ 32
abbrev pub offset_text : ℤ → List ℕ
offset_text o = hex8 (word_of B32 o)

unfoldable pub value_text : Bounded → List ℕ
value_text (Number n) = hex8 n
value_text (Exact r o) = codes "e:" ++ region_text r ++ codes ":" ++ offset_text o
value_text (Inside r) = codes "i:" ++ region_text r
value_text Any = codes "a"

abbrev pub truth_code : Truth → ℕ
truth_code Yes = 49
truth_code No = 48
truth_code Unknown = 63

abbrev pub count_text : Bool → List ℕ
count_text true = codes "many"
count_text false = codes "one"

-- ---- the lines of a state

abbrev pub header_text : List ℕ
header_text = codes "jakstab-table 1"

unfoldable pub regs_line : List Bounded → List ℕ
regs_line values = codes "regs" ++ flat_map (λ v. space ++ value_text v) values ++ newline

unfoldable pub flags_line : List Truth → List ℕ
flags_line truths = codes "flags " ++ map truth_code truths ++ newline

-- where there is a note
unfoldable pub note_line : Option Note → List ℕ
note_line None = []
note_line (Some (Register r c)) = codes "note reg " ++ decimal r ++ space ++ hex8 c ++ newline
note_line (Some (Word o c)) = codes "note word " ++ offset_text o ++ space ++ hex8 c ++ newline

unfoldable pub fact_line : Fact Bounded → List ℕ
fact_line f =
    codes "fact " ++ area_text f.area ++ space ++ offset_text f.low ++ space ++ decimal (bytes_of f.w) ++ space ++ value_text f.value ++ newline

unfoldable pub dirty_line : Dirty → List ℕ
dirty_line r = codes "dirty " ++ area_text r.area ++ space ++ offset_text r.low ++ space ++ offset_text r.size ++ newline

unfoldable pub block_line : Counted → List ℕ
block_line c = codes "block " ++ region_text c.region ++ space ++ count_text c.many ++ newline

unfoldable pub state_text : StateData Bounded → List ℕ
state_text s =
    regs_line s.regs
    ++ flags_line s.flags
    ++ note_line s.note
    ++ flat_map fact_line s.facts
    ++ flat_map dirty_line s.dirty
    ++ flat_map block_line s.blocks

-- ---- the whole

abbrev pub k_line : ℕ → List ℕ
k_line k = codes "k " ++ decimal k ++ newline

abbrev pub open_line : ℕ → List ℕ
open_line at = codes "open " ++ hex8 at ++ newline

abbrev pub row_line : ℕ → List ℕ
row_line at = codes "row " ++ hex8 at ++ newline

abbrev pub row_text : ℕ × Known Bounded → List ℕ
row_text row = row_line row.0 ++ state_text (plain_of row.1)

-- how many rows there were
abbrev pub end_line : ℕ → List ℕ
end_line rows = codes "end " ++ decimal rows ++ newline

unfoldable pub table_text : Table Bounded → List ℕ
table_text t =
    header_text ++ newline
    ++ k_line t.k
    ++ flat_map open_line t.marked
    ++ flat_map row_text t.rows
    ++ end_line (length t.rows)
