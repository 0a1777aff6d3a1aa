-- What contracts see of a log that grows.
use Rattle.std.specs.Prelude.{ℕ, ◌≡◌, ⊤, false, List, [], Option, Some, None, map, nat_eq, option_map, slice_get, if◌then◌else◌}
use Rattle.std.specs.HashMap.{get}
use Rattle.domain_laws.specs.Laws.{Values}
use Rattle.partitioned_memory.specs.Lists.{Every}
use Rattle.flow_log.specs.declared.cause.Cause.{Cause}
use Rattle.flow_log.specs.declared.cause.Cause.TheVariants as causes
use Rattle.flow_log.specs.Log.{Row, rows_at, states_at}
use Rattle.abstract_state.specs.declared.seen.Holder.{Holder}
use Rattle.abstract_state.specs.State.{IsWellState, Known}
use Rattle.abstract_state.specs.Widening.{seen_of}
use Rattle.flow_worklist.specs.declared.visits.Visits.{Visits}
use Rattle.flow_worklist.specs.declared.exploring.Exploration.{Exploration}
use Rattle.flow_worklist.specs.declared.row_index.RowIndex.{RowIndex}
use Rattle.flow_worklist.specs.Analysis.{ImageLog}
use Rattle.flow_worklist.specs.Grouping.{IsIndexOf}

-- the log as the code holds it
abbrev pub log_in : {D : Type 0} → Exploration D → ImageLog D
log_in e = record { rows = e.rows.items; edges = e.edges.items; causes = e.causes.items; writes = e.writes.items }

-- the cause of a row that is not expanded
abbrev pub cause_unexpanded : {S : Type 0} → Row S → Option Cause
cause_unexpanded row = if row.expanded then None else Some causes.Budget

abbrev pub seen_in : {D : Type 0} → Visits D → Option (List (Holder × D))
seen_in v = option_map (λ b. b.value) v.seen

abbrev pub index_in : {D : Type 0} → Visits D → Option RowIndex
index_in v = option_map (λ b. b.value) v.index

module _ {D : Type 0} (d : Values D) where
  -- what states hold, where it is kept
  abbrev pub IsSeenOf : Option (List (Holder × D)) → List (Known D) → Type 0
  IsSeenOf None states = ⊤
  IsSeenOf (Some seen) states = seen ≡ seen_of d states

  -- what the code keeps of a location, whose states are well: the numbers under which its rows stand, in order, and where there are many, what their
  -- states hold and an index of them
  pub record IsOf (v : Visits D) (at : ℕ) (rows : List (Row (Known D))) : Type 0 where
    pub numbers : map (slice_get rows) v.numbers.items ≡ map Some (rows_at at rows)
    pub well : Every (IsWellState d) (states_at at rows)
    pub seen : IsSeenOf (seen_in v) (states_at at rows)
    pub indexed : IsIndexOf d (index_in v) (states_at at rows)

  abbrev pub IsKept : Option (Visits D) → ℕ → List (Row (Known D)) → Type 0
  IsKept None at rows = rows_at at rows ≡ []
  IsKept (Some v) at rows = IsOf v at rows

  -- it is kept for each location
  pub record IsIndexed (e : Exploration D) : Type 0 where
    pub kept : (q : ℕ) → IsKept (get nat_eq e.visits q) q e.rows.items

  -- it is kept for each other location
  pub record IsIndexedBut (at : ℕ) (e : Exploration D) : Type 0 where
    pub kept : (q : ℕ) → nat_eq at q ≡ false → IsKept (get nat_eq e.visits q) q e.rows.items
