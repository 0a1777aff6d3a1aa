-- What makes an analysis sound for a machine, and what it is for rows and edges to be closed.
use Rattle.std.specs.Prelude.{ℕ, ◌≡◌, ◌⊎◌, true, List, Contains}
use Rattle.flow_log.specs.Analysis.{Analysis}
use Rattle.flow_log.specs.Run.{Machine}

-- some next pair of an expansion has the place of a new machine state and describes it, and the step is the pair's edge
pub record IsFound {S E C W M : Type 0} (a : Analysis S E C W) (machine : Machine M E) (Describes : S → M → Type 0) (s : S) (m next : M) : Type 0 where
  pub state : S
  pub pair : Contains (a.expand (machine.place m) s).next (machine.place next, state)
  pub describes : Describes state next
  pub edge : a.edge (machine.place m) s (machine.place next) ≡ machine.edge m next

-- `IsWell s`: the state s is well formed. `Describes s m`: s stands for the machine state m.
pub record Sound {S E C W M : Type 0} (a : Analysis S E C W) (machine : Machine M E) (IsWell : S → Type 0) (Describes : S → M → Type 0) : Type 0 where
  pub start_well : IsWell a.start
  pub next_well : (location : ℕ) (s : S) (pair : ℕ × S) → IsWell s → Contains (a.expand location s).next pair → IsWell pair.1
  pub widen_well : (seen : List S) (s : S) → IsWell s → IsWell (a.widen seen s)
  pub covers : (t s : S) (m : M) → IsWell t → IsWell s → a.covers t s ≡ true → Describes s m → Describes t m
  pub widen : (seen : List S) (s : S) (m : M) → IsWell s → Describes s m → Describes (a.widen seen s) m
  -- one step from a described state for which its expansion gives no cause
  pub step : (s : S) (m next : M) → IsWell s → Describes s m → ((c : C) → Contains (a.expand (machine.place m) s).causes c → ⊥) → machine.Steps m next
      → IsFound a machine Describes s m next

-- rows are pairs of a location and a state, of a log or of any other table
module _ {S E C W : Type 0} (a : Analysis S E C W) where
  -- one state stands for another: it is that state, or covers it
  abbrev pub StandsFor : S → S → Type 0
  StandsFor t s = (t ≡ s) ⊎ (a.covers t s ≡ true)

  -- a row stands for a pair: for its state as it is, or for that widened
  pub record IsRepresented (rows : List (ℕ × S)) (location : ℕ) (state : S) : Type 0 where
    pub row : S
    pub in_rows : Contains rows (location, row)
    pub stands : StandsFor row state ⊎ ((seen : List S) × StandsFor row (a.widen seen state))

  -- no cause holds of a row, and all to which it leads is there
  pub record IsDone (rows : List (ℕ × S)) (edges : List E) (location : ℕ) (state : S) : Type 0 where
    pub no_cause : (c : C) → Contains (a.expand location state).causes c → ⊥
    pub has_next : (pair : ℕ × S) → Contains (a.expand location state).next pair → IsRepresented rows pair.0 pair.1
    pub has_edge : (pair : ℕ × S) → Contains (a.expand location state).next pair → Contains edges (a.edge location state pair.0)

  -- a row stands for the start, and each row at a location that is not open is done
  pub record IsClosed (rows : List (ℕ × S)) (edges : List E) (Open : ℕ → Type 0) : Type 0 where
    pub first : S
    pub first_in_rows : Contains rows (a.entry, first)
    pub first_stands : StandsFor first a.start
    pub done : (location : ℕ) (state : S) → Contains rows (location, state) → (Open location → ⊥) → IsDone rows edges location state

-- a machine state is known to rows: one at its place describes it
pub record IsKnown {S E M : Type 0} (machine : Machine M E) (Describes : S → M → Type 0) (rows : List (ℕ × S)) (m : M) : Type 0 where
  pub state : S
  pub in_rows : Contains rows (machine.place m, state)
  pub describes : Describes state m
