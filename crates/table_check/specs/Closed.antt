-- Tables of rows that are closed: what is demanded of each row, and the first one that fails, over any analysis.
use Rattle.std.specs.Prelude.{ℕ, ◌==◌, ◌&&◌, Bool, not, List, [], length, map, flat_map, filter_map, slice_get, Option, None, Some, if◌then◌else◌, option_map}
use Rattle.std.specs.List.{list_all, list_any, enumerate_from}
use Rattle.memory_map.specs.Image.{Image}
use Rattle.stub_file.specs.Stubs.{StatedStubs}
use Rattle.flow_log.specs.Analysis.{Analysis}
use Rattle.flow_log.specs.declared.edge.Edge.{Edge}
use Rattle.flow_log.specs.Ordered.{ordered_set}
use Rattle.flow_log.specs.Orders.{edge_cmp}
use Rattle.domain_laws.specs.Laws.{Values}
use Rattle.flow_worklist.specs.Analysis.{analysis_of}
use Rattle.table_check.specs.declared.table.Table.{Table}
use Rattle.table_check.specs.declared.checking.TableAnswer.{TableAnswer}
use Rattle.table_check.specs.declared.checking.TableAnswer.TheVariants.{Yes, No}

-- The clauses: row 0 is at the entry and covers the start; the expansion of a row at a location that is not marked gives no cause; and
-- each of its next pairs is covered by a row at its location.

abbrev pub START : ℕ
START = 1

abbrev pub CAUSE : ℕ
CAUSE = 2

abbrev pub NEXT : ℕ
NEXT = 3

abbrev pub is_marked : List ℕ → ℕ → Bool
is_marked marked at = list_any (λ m. m == at) marked

-- rows are pairs of a location and a state
module _ {S E C W : Type 0} (a : Analysis S E C W) (marked : List ℕ) (rows : List (ℕ × S)) where
  -- the first row: it is at the entry, and stands for the start
  abbrev pub starts : ℕ × S → Bool
  starts row = row.0 == a.entry && a.covers row.1 a.start

  -- some row at a pair's location covers it
  abbrev pub is_covered : ℕ × S → Bool
  is_covered pair = list_any (λ row. row.0 == pair.0 && a.covers row.1 pair.1) rows

  abbrev pub has_no_cause : ℕ × S → Bool
  has_no_cause row = length (a.expand row.0 row.1).causes == 0

  abbrev pub leads_to_rows : ℕ × S → Bool
  leads_to_rows row = list_all is_covered (a.expand row.0 row.1).next

  -- the first clause that fails of a row
  abbrev pub broken_by : ℕ × S → Option ℕ
  broken_by row = if not (has_no_cause row) then Some CAUSE else if not (leads_to_rows row) then Some NEXT else None

  abbrev pub clause_broken : ℕ → ℕ × S → Option ℕ
  clause_broken number row =
      if number == 0 && not (starts row) then Some START
      else if is_marked marked row.0 then None
      else broken_by row

  -- each row that fails, with its first clause that does
  abbrev pub rows_broken : List (ℕ × ℕ)
  rows_broken = filter_map (λ numbered. option_map (λ clause. (numbered.0, clause)) (clause_broken numbered.0 numbered.1)) (enumerate_from 0 rows)

  -- the first of them; a table without rows fails at row 0
  abbrev pub first_broken : Option (ℕ × ℕ)
  first_broken = if length rows == 0 then Some (0, START) else slice_get rows_broken 0

  -- the edges of the next pairs of a row
  abbrev pub leads_from : ℕ × S → List E
  leads_from row = map (λ pair. a.edge row.0 row.1 pair.0) (a.expand row.0 row.1).next

  -- those that a table has: of rows at locations that are not marked
  abbrev pub edges_from : ℕ × S → List E
  edges_from row = if is_marked marked row.0 then [] else leads_from row

  abbrev pub edges_of : List E
  edges_of = flat_map edges_from rows

-- ---- of an image

abbrev pub answer_by : Option (ℕ × ℕ) → List Edge → TableAnswer
answer_by None edges = Yes (length (ordered_set edge_cmp edges))
answer_by (Some broken) edges = No broken.0 broken.1

module _ {D : Type 0} (d : Values D) (image : Image) (stubs : StatedStubs) (t : Table D) where
  -- the edges of a table
  abbrev pub table_edges : List Edge
  table_edges = edges_of (analysis_of d image stubs t.k) t.marked t.rows

  -- the first row that fails, with the first clause that does, or how many different edges the table has
  unfoldable pub table_answer : TableAnswer
  table_answer = answer_by (first_broken (analysis_of d image stubs t.k) t.marked t.rows) table_edges

abbrev pub IsYes : TableAnswer → Type 0
IsYes (Yes edges) = Unit {0}
IsYes (No row kind) = ⊥
