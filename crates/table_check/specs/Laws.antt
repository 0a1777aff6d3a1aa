-- What a closed table says of the machine's runs.
use Rattle.std.specs.Prelude.{ℕ, ◌≡◌, ◌<◌, ◌^◌, ◌≤◌, List, length, map, slice_get, Contains, All, Ok, true, Bool, Option}
use Rattle.std.specs.List.{list_all}
use Rattle.memory_map.specs.Image.{Image, IsLoaded}
use Rattle.memory_map.specs.Start.{Start}
use Rattle.memory_map.specs.State.{MachineState}
use Rattle.stub_file.specs.Stubs.{StatedStubs}
use Rattle.flow_log.specs.Run.{Follows, IsRun}
use Rattle.flow_log.specs.Sound.{IsClosed, IsKnown}
use Rattle.x86_machine.specs.Machine.{machine_of}
use Rattle.domain_laws.specs.Laws.{Values}
use Rattle.abstract_state.specs.State.{IsWellState}
use Rattle.abstract_state.specs.Describes.{IsDescribed}
use Rattle.flow_worklist.specs.Analysis.{analysis_of}
use Rattle.table_check.specs.declared.table.Table.{Table}
use Rattle.table_check.specs.Closed.{IsYes, table_answer, table_edges}

-- ---- closed tables

module _ {D : Type 0} (d : Values D) (image : Image) (stubs : StatedStubs) (t : Table D) where
  abbrev pub IsMarked : ℕ → Type 0
  IsMarked at = Contains t.marked at

  -- a row for the start, and each row at a location that is not marked is done by the rows and the edges of the table
  abbrev pub IsClosedTable : Type 0
  IsClosedTable = IsClosed (analysis_of d image stubs t.k) t.rows (table_edges d image stubs t) IsMarked

  -- from every allowed start, of every run: until it first stands at a marked location some row describes each of its states, and each step is an
  -- edge of the table
  abbrev pub RunsAreFollowedBy : Type 0
  RunsAreFollowedBy =
      (m : MachineState) (states : List MachineState) → Start image m → IsRun (machine_of image stubs) m states →
      Follows (machine_of image stubs) (IsKnown (machine_of image stubs) (IsDescribed d image) t.rows) IsMarked (table_edges d image stubs t) m states

-- ---- closed tables of well states

module _ {D : Type 0} (d : Values D) where
  -- a table is closed of which no row fails, and no run leaves a closed table whose states are well before it first stands at a marked location
  abbrev pub ClosedTablesAreFollowed : Type 0
  ClosedTablesAreFollowed =
      (image : Image) (stubs : StatedStubs) (t : Table D) → IsLoaded image → All (λ row. IsWellState d row.1) t.rows → IsYes (table_answer d image stubs t) →
      IsClosedTable d image stubs t × RunsAreFollowedBy d image stubs t
