-- What the code keeps of a table and finds of its rows.
use Rattle.std.specs.Prelude.{ℕ, ◌≡◌, ◌==◌, ◌++◌, Bool, false, List, [], ◌∷◌, length, map, filter, filter_map, flat_map, nat_eq, slice_get, Option, None, Some, option_map, unwrap_or}
use Rattle.std.specs.HashMap.{get}
use Rattle.std.specs.HashSet.{contains}
use Rattle.std.specs.List.{AllZip, enumerate_from, range_with_len}
use Rattle.std.specs.Option.{option_map_or}
use Rattle.domain_laws.specs.Laws.{Values}
use Rattle.memory_map.specs.Image.{Image}
use Rattle.stub_file.specs.Stubs.{StatedStubs}
use Rattle.flow_log.specs.declared.edge.Edge.{Edge}
use Rattle.abstract_state.specs.State.{Known, covers_state}
use Rattle.flow_worklist.specs.Analysis.{ImageAnalysis, analysis_of}
use Rattle.table_check.specs.declared.checking.TableAnswer.{TableAnswer}
use Rattle.table_check.specs.declared.finding.Finding.{Finding}
use Rattle.table_check.specs.declared.finding.Finding.TheVariants.{Broken, Leads}
use Rattle.table_check.specs.declared.marks.Marks.{Marks}
use Rattle.table_check.specs.declared.row_index.RowIndex.{RowIndex}
use Rattle.table_check.specs.declared.table.Table.{Table}
use Rattle.table_check.specs.Closed.{answer_by, broken_by, clause_broken, edges_from, is_marked, leads_from}

-- ---- where rows and marks are

-- the rows at a location
abbrev pub rows_at : {S : Type 0} → ℕ → List (ℕ × S) → List (ℕ × S)
rows_at at rows = filter (λ row. row.0 == at) rows

-- the numbers that are kept of a location
abbrev pub numbers_at : RowIndex → ℕ → List ℕ
numbers_at index at = unwrap_or (option_map (λ v. v.items) (get nat_eq index.numbers at)) []

-- each location's rows are kept by their numbers, in order
pub record IsIndexOf {S : Type 0} (index : RowIndex) (rows : List (ℕ × S)) : Type 0 where
  pub kept : (q : ℕ) → map (slice_get rows) (numbers_at index q) ≡ map Some (rows_at q rows)

-- one number more at a location, and elsewhere as before
pub record AddsNumber (at number : ℕ) (before after : RowIndex) : Type 0 where
  pub here : numbers_at after at ≡ numbers_at before at ++ number ∷ []
  pub elsewhere : (q : ℕ) → nat_eq at q ≡ false → numbers_at after q ≡ numbers_at before q

-- whether the row of a number covers a state
abbrev pub covers_at : {D : Type 0} → Values D → List (ℕ × Known D) → Known D → ℕ → Bool
covers_at d rows s number = option_map_or (λ row. covers_state d row.1 s) (slice_get rows number) false

-- the marked locations are these
pub record AreMarksOf (marks : Marks) (marked : List ℕ) : Type 0 where
  pub kept : (q : ℕ) → contains nat_eq marks.held q ≡ is_marked marked q

-- ---- what is found of rows

-- the row that fails, where it does
abbrev pub broken_in : ℕ × Finding → Option (ℕ × ℕ)
broken_in (number, Broken kind) = Some (number, kind)
broken_in (number, Leads found) = None

-- its edges, where it does not
abbrev pub edges_in : Finding → List Edge
edges_in (Broken kind) = []
edges_in (Leads found) = found.items

-- the answer by what was found of all
abbrev pub answer_found : List Finding → TableAnswer
answer_found found = answer_by (slice_get (filter_map broken_in (enumerate_from 0 found)) 0) (flat_map edges_in found)

-- a finding tells of a row its first clause that fails, or its edges
abbrev pub IsFinding : Option ℕ → List Edge → Finding → Type 0
IsFinding clause edges (Broken kind) = clause ≡ Some kind
IsFinding clause edges (Leads found) = (clause ≡ None) × (found.items ≡ edges)

module _ {D : Type 0} (d : Values D) (image : Image) (stubs : StatedStubs) (t : Table D) where
  abbrev pub table_analysis : ImageAnalysis D
  table_analysis = analysis_of d image stubs t.k

  -- of a row at a location that is not marked
  abbrev pub IsExpandedOf : ℕ × Known D → Finding → Type 0
  IsExpandedOf row found = IsFinding (broken_by table_analysis t.marked t.rows row) (leads_from table_analysis t.marked t.rows row) found

  -- of a row with its number
  abbrev pub IsFindingOf : ℕ → ℕ × Known D → Finding → Type 0
  IsFindingOf number row found = IsFinding (clause_broken table_analysis t.marked t.rows number row) (edges_from table_analysis t.marked t.rows row) found

  -- of the row of a number
  abbrev pub IsFindingAt : ℕ → Finding → Type 0
  IsFindingAt number found = (row : ℕ × Known D) → slice_get t.rows number ≡ Some row → IsFindingOf number row found

  -- of each row, in order
  abbrev pub AreFindings : List Finding → Type 0
  AreFindings found = AllZip IsFindingAt (range_with_len 0 (length t.rows)) found
