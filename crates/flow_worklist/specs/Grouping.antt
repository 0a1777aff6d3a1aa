-- The rows of a location in groups, by the holders at which they have numbers: where those stand that may cover a state.
use Rattle.std.specs.Prelude.{ℕ, ◌≡◌, ⊤, false, Bool, List, [], Option, Some, None, Any, Contains, nat_eq, slice_get}
use Rattle.std.specs.List.{list_any}
use Rattle.std.specs.Option.{option_map_or}
use Rattle.indexmap.specs.IndexMap.{get}
use Rattle.domain_laws.specs.Laws.{Values}
use Rattle.flow_log.specs.Log.{Row}
use Rattle.abstract_state.specs.State.{Known}
use Rattle.flow_worklist.specs.declared.told.Told.{Told}
use Rattle.flow_worklist.specs.declared.told.Told.TheVariants.{Numbers, Nothing, Unclear}
use Rattle.flow_worklist.specs.declared.row_index.Group.{Group}
use Rattle.flow_worklist.specs.declared.row_index.RowIndex.{RowIndex}
use Rattle.flow_worklist.specs.Telling.{digest_with, told_at}
use Rattle.flow_worklist.specs.Covering.{covers_at, covers_by, row_nth}

-- the places that are kept under a key, a digest of a group's number and of the numbers that states have at its holders
abbrev pub places_at : RowIndex → ℕ → List ℕ
places_at index key = option_map_or (λ v. v.items) (get nat_eq index.places key) []

-- a place is kept in a group that has no holders
pub record IsInRest (index : RowIndex) (place : ℕ) (group : Group) : Type 0 where
  pub none : group.holders.items ≡ []
  pub has : Contains (places_at index (digest_with 0 group.number)) place

module _ {D : Type 0} (d : Values D) where
  -- a place among a location's rows is kept in a group, by the numbers of its state there
  pub record IsIn (index : RowIndex) (place : ℕ) (s : Known D) (group : Group) : Type 0 where
    pub digest : ℕ
    pub told : told_at d group.holders.items s ≡ Numbers digest
    pub has : Contains (places_at index (digest_with digest group.number)) place

  abbrev pub HasPlace : RowIndex → ℕ → Known D → Type 0
  HasPlace index place s = Any (IsIn index place s) index.groups.items

  -- whether the row at a place among those of these numbers covers a state
  abbrev pub covers_nth : List (Row (Known D)) → List ℕ → Known D → ℕ → Bool
  covers_nth rows numbers s place = covers_by d s (row_nth rows numbers place)

  -- whether a row of a group covers a state of which this is told there: one under its numbers, none, or any of the location
  abbrev pub covers_told : RowIndex → List (Row (Known D)) → List ℕ → Known D → Group → Told → Bool
  covers_told index rows numbers s group (Numbers digest) = list_any (covers_nth rows numbers s) (places_at index (digest_with digest group.number))
  covers_told index rows numbers s group Nothing = false
  covers_told index rows numbers s group Unclear = list_any (covers_at d rows s) numbers

  abbrev pub covers_in : RowIndex → List (Row (Known D)) → List ℕ → Known D → Group → Bool
  covers_in index rows numbers s group = covers_told index rows numbers s group (told_at d group.holders.items s)

  -- each row of a location is in a group
  abbrev pub IsIndexOf : Option RowIndex → List (Known D) → Type 0
  IsIndexOf None states = ⊤
  IsIndexOf (Some index) states = (place : ℕ) (s : Known D) → slice_get states place ≡ Some s → HasPlace index place s
