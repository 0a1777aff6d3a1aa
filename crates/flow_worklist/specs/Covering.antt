-- The rows of a location by their numbers.
use Rattle.std.specs.Prelude.{ℕ, Bool, false, List, Option, Some, None, filter_map, option_map, slice_get}
use Rattle.std.specs.Option.{option_map_or}
use Rattle.domain_laws.specs.Laws.{Values}
use Rattle.flow_log.specs.Log.{Row}
use Rattle.abstract_state.specs.State.{Known, covers_state}

-- the row of a number, where there is one
abbrev pub row_of : {S : Type 0} → List (Row S) → Option ℕ → Option (Row S)
row_of rows None = None
row_of rows (Some number) = slice_get rows number

-- the row at a place among those of these numbers
abbrev pub row_nth : {S : Type 0} → List (Row S) → List ℕ → ℕ → Option (Row S)
row_nth rows numbers place = row_of rows (slice_get numbers place)

-- the states of the rows of these numbers
abbrev pub states_of : {S : Type 0} → List (Row S) → List ℕ → List S
states_of rows numbers = filter_map (λ number. option_map (λ row. row.state) (slice_get rows number)) numbers

-- a row, where there is one, covers a state
abbrev pub covers_by : {D : Type 0} → Values D → Known D → Option (Row (Known D)) → Bool
covers_by d s row = option_map_or (λ r. covers_state d r.state s) row false

-- whether the row of a number covers a state
abbrev pub covers_at : {D : Type 0} → Values D → List (Row (Known D)) → Known D → ℕ → Bool
covers_at d rows s number = covers_by d s (slice_get rows number)
