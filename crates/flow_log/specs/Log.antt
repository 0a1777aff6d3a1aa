-- The log of an exploration: a fold over a list of rows.
use Rattle.std.specs.Prelude.{ℕ, ◌≡◌, zero, suc, ◌+◌, Bool, not, List, [], ◌∷◌, ◌++◌, length, map, Option, None, Some, nat_lt, slice_get, filter, ◌==◌, Contains}
use Rattle.std.specs.Prelude.{if◌then◌else◌, filter_map, fold, option_map}
use Rattle.std.specs.List.{list_any, enumerate_from}
use Rattle.flow_log.specs.Analysis.{Analysis, Expansion}

-- a location with a state, the row from whose expansion it came, and whether it is expanded itself
pub record Row (S : Type 0) : Type 0 where
  pub parent : Option ℕ
  pub location : ℕ
  pub state : S
  pub expanded : Bool

pub record Log (S E C W : Type 0) : Type 0 where
  pub rows : List (Row S)
  pub edges : List E
  -- the number of a row, and a cause that its expansion gave
  pub causes : List (ℕ × C)
  pub writes : List W

-- where a row stands, and its state
abbrev pub pair_of : {S : Type 0} → Row S → ℕ × S
pair_of row = (row.location, row.state)

-- the rows at a location, in their order
abbrev pub rows_at : {S : Type 0} → ℕ → List (Row S) → List (Row S)
rows_at location rows = filter (λ row. row.location == location) rows

-- the states of the rows at a location, in their order
unfoldable pub states_at : {S : Type 0} → ℕ → List (Row S) → List S
states_at location rows = map (λ row. row.state) (rows_at location rows)

-- a row that comes to be the last one; the first `budget` rows are those that are expanded
abbrev pub row_after : {S : Type 0} → ℕ → List (Row S) → Option ℕ → ℕ → S → Row S
row_after budget rows parent location state = record { parent = parent; location = location; state = state; expanded = nat_lt (length rows) budget }

-- a row's causes and written ranges
abbrev pub with_notes : {S E C W : Type 0} → ℕ → Expansion S C W → Log S E C W → Log S E C W
with_notes number x log = record log {
  causes = log.causes ++ map (λ c. (number, c)) x.causes;
  writes = log.writes ++ x.writes;
}

module _ {S : Type 0} (covers : S → S → Bool) (budget : ℕ) where
  -- a pair appended as a row, unless a row at its location covers it
  unfoldable pub with_row : ℕ → ℕ → S → List (Row S) → List (Row S)
  with_row parent location state rows =
      if list_any (λ seen. covers seen state) (states_at location rows) then rows else rows ++ row_after budget rows (Some parent) location state ∷ []

module _ {S E C W : Type 0} (covers : S → S → Bool) (widen : List S → S → S) (budget : ℕ) where
  -- one next pair of the row of a number, with the edge to it: widened and appended
  abbrev pub with_next_pair : ℕ → E → ℕ × S → Log S E C W → Log S E C W
  with_next_pair number edge pair log = record log {
    rows = with_row covers budget number pair.0 (widen (states_at pair.0 log.rows) pair.1) log.rows;
    edges = log.edges ++ edge ∷ [];
  }

  -- its next pairs in order, with the edge to each target
  abbrev pub with_next_pairs : ℕ → (ℕ → E) → List (ℕ × S) → Log S E C W → Log S E C W
  with_next_pairs number edge_to pairs log = fold (λ grown pair. with_next_pair number (edge_to pair.0) pair grown) log pairs

module _ {S E C W : Type 0} (a : Analysis S E C W) (budget : ℕ) where
  -- the row of a number expanded
  unfoldable pub with_expansion : ℕ → Row S → Log S E C W → Log S E C W
  with_expansion number row log =
      let x = a.expand row.location row.state in
      with_next_pairs a.covers a.widen budget number (a.edge row.location row.state) x.next (with_notes number x log)

  abbrev pub at_row : Option (Row S) → Log S E C W → (Row S → Log S E C W) → Log S E C W
  at_row None log go = log
  at_row (Some row) log go = go row

  -- rows are expanded in number order from `number` on, `fuel` of them at most
  unfoldable pub explored : ℕ → ℕ → Log S E C W → Log S E C W
  explored zero number log = log
  explored (suc fuel) number log = at_row (slice_get log.rows number) log (λ row. explored fuel (number + 1) (with_expansion number row log))

  -- row 0 alone: the entry with the start state
  abbrev pub first_log : Log S E C W
  first_log = record { rows = row_after budget [] None a.entry a.start ∷ []; edges = []; causes = []; writes = [] }

  unfoldable pub log_of : Log S E C W
  log_of = explored budget 0 first_log

-- a row that leaves its location open, and why
pub record Mark (C : Type 0) : Type 0 where
  pub row : ℕ
  pub location : ℕ
  pub cause : C

-- the mark of a row with its number
abbrev pub mark_of : {S C : Type 0} → ℕ × Row S → C → Mark C
mark_of numbered cause = record { row = numbered.0; location = numbered.1.location; cause = cause }

-- what an expansion gave
abbrev pub expansion_mark : {S C : Type 0} → List (Row S) → ℕ × C → Option (Mark C)
expansion_mark rows noted = option_map (λ row. mark_of (noted.0, row) noted.1) (slice_get rows noted.0)

-- the rows that were not expanded
abbrev pub unexpanded_marks : {S C : Type 0} → C → List (Row S) → List (Mark C)
unexpanded_marks cause rows = map (λ numbered. mark_of numbered cause) (filter (λ numbered. not numbered.1.expanded) (enumerate_from 0 rows))

-- the marks of open locations
unfoldable pub marks_by : {S E C W : Type 0} → C → Log S E C W → List (Mark C)
marks_by unexpanded log = filter_map (expansion_mark log.rows) log.causes ++ unexpanded_marks unexpanded log.rows

module _ {S E C W : Type 0} (a : Analysis S E C W) where
  abbrev pub marks_of : Log S E C W → List (Mark C)
  marks_of log = marks_by a.unexpanded log

  -- some row there is marked
  pub record IsOpen (log : Log S E C W) (location : ℕ) : Type 0 where
    pub mark : Mark C
    pub in_marks : Contains (marks_of log) mark
    pub located : mark.location ≡ location
