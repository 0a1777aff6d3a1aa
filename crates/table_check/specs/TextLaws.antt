-- What the texts of tables keep.
use Rattle.std.specs.Prelude.{ℕ, ◌≡◌, ◌<◌, ◌^◌, ◌≤◌, ◌&&◌, nat_lt, List, length, All, Ok, true, Bool}
use Rattle.std.specs.List.{list_all}
use Rattle.std.specs.Option.{option_map_or}
use Rattle.bit_words.specs.Width.{is_signed}
use Rattle.bit_words.specs.declared.width.Width.TheVariants.{B32}
use Rattle.memory_map.specs.Image.{Image, IsLoaded}
use Rattle.memory_map.specs.Ascending.{ascend}
use Rattle.address_regions.specs.declared.region.Region.{Region}
use Rattle.address_regions.specs.declared.region.Region.TheVariants.{Block}
use Rattle.address_regions.specs.Extents.{has_room}
use Rattle.bounded_values.specs.declared.value.Bounded.{Bounded}
use Rattle.bounded_values.specs.declared.value.Bounded.TheVariants.{Number, Exact, Inside, Any}
use Rattle.bounded_values.specs.BoundedLaws.{bounded}
use Rattle.partitioned_memory.specs.declared.area.Area.{Area}
use Rattle.partitioned_memory.specs.declared.area.Area.TheVariants as areas
use Rattle.partitioned_memory.specs.declared.fact.Fact.{Fact}
use Rattle.partitioned_memory.specs.declared.fact.Dirty.{Dirty}
use Rattle.partitioned_memory.specs.declared.fact.Counted.{Counted}
use Rattle.abstract_state.specs.declared.note.Note.{Note}
use Rattle.abstract_state.specs.declared.note.Note.TheVariants.{Register, Word}
use Rattle.abstract_state.specs.declared.plain.StateData.{StateData}
use Rattle.abstract_state.specs.State.{IsWellState, Known}
use Rattle.abstract_state.specs.Building.{HasImageBytes, plain_of}
use Rattle.automaton_text.specs.Laws.{is_word}
use Rattle.table_check.specs.declared.table.Table.{Table}
use Rattle.table_check.specs.Reading.{table_read}
use Rattle.table_check.specs.Text.{table_text}

-- ---- tables of an image

-- a value that a method makes, and so one with a text: "inside" a region is said only of one with room
abbrev pub is_made : Bounded → Bool
is_made (Inside r) = has_room r
is_made v = true

abbrev pub are_made : StateData Bounded → Bool
are_made s = list_all is_made s.regs && list_all (λ f. is_made f.value) s.facts

-- a well state of the image, of values that methods make
pub record IsStateOf (image : Image) (s : Known Bounded) : Type 0 where
  pub well : IsWellState bounded s
  pub bytes : HasImageBytes image s
  pub made : are_made (plain_of s) ≡ true

abbrev pub is_above : ℕ → ℕ → Bool
is_above a b = nat_lt a b

-- a table whose k is one, whose marks ascend, and whose states are well and of the image
pub record IsTableOf (image : Image) (t : Table Bounded) : Type 0 where
  pub k_least : 1 ≤ t.k
  pub k_greatest : t.k ≤ 1024
  pub marked : ascend is_above t.marked ≡ true
  pub rows : All (λ row. IsStateOf image row.1) t.rows

-- what a text tells is a table of the image, whose text it is
abbrev pub TextsTellTables : Type 0
TextsTellTables = (image : Image) (text : List ℕ) (t : Table Bounded) → length text < 2 ^ 64 → table_read image text ≡ Ok t → IsTableOf image t × (table_text t ≡ text)

-- ---- what the types of a table's parts hold of them

abbrev pub fits_region : Region → Bool
fits_region (Block site size zeroed) = is_word site && is_word size
fits_region r = true

abbrev pub fits_area : Area → Bool
fits_area areas.Image = true
fits_area (areas.In r) = fits_region r

abbrev pub fits_value : Bounded → Bool
fits_value (Number n) = is_word n
fits_value (Exact r o) = fits_region r && is_signed B32 o
fits_value (Inside r) = fits_region r
fits_value Any = true

abbrev pub fits_note : Note → Bool
fits_note (Register r c) = is_word c
fits_note (Word o c) = is_word c

abbrev pub fits_fact : Fact Bounded → Bool
fits_fact f = fits_area f.area && fits_value f.value

abbrev pub fits_dirty : Dirty → Bool
fits_dirty r = fits_area r.area

abbrev pub fits_count : Counted → Bool
fits_count c = fits_region c.region

pub record FitsState (s : StateData Bounded) : Type 0 where
  pub regs : list_all fits_value s.regs ≡ true
  pub note : option_map_or fits_note s.note true ≡ true
  pub facts : list_all fits_fact s.facts ≡ true
  pub dirty : list_all fits_dirty s.dirty ≡ true
  pub blocks : list_all fits_count s.blocks ≡ true

pub record FitsRow (row : ℕ × Known Bounded) : Type 0 where
  pub at : is_word row.0 ≡ true
  pub state : FitsState (plain_of row.1)

pub record FitsTypes (t : Table Bounded) : Type 0 where
  pub marked : list_all is_word t.marked ≡ true
  pub rows : All FitsRow t.rows
  pub few_rows : length t.rows < 2 ^ 64

-- ---- reading what was printed

-- the text of a table of an image tells that table
abbrev pub TablesAreReadBack : Type 0
TablesAreReadBack = (image : Image) (t : Table Bounded) → IsLoaded image → FitsTypes t → IsTableOf image t → table_read image (table_text t) ≡ Ok t
