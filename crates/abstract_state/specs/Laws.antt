-- What covering, widening, refining, the start state and states of plain lists keep.
use Rattle.std.specs.Prelude.{ℕ, ◌≡◌, true, List, Contains, Some}
use Rattle.address_regions.specs.Places.{Places}
use Rattle.domain_laws.specs.Laws.{Values}
use Rattle.memory_map.specs.Image.{Image, IsLoaded}
use Rattle.memory_map.specs.State.{MachineState}
use Rattle.memory_map.specs.Start.{Start}
use Rattle.x86_syntax.specs.declared.instr.Cond.{Cond}
use Rattle.x86_semantics.specs.Condition.{is_met}
use Rattle.abstract_state.specs.declared.truth.Truth.TheVariants.{Unknown}
use Rattle.abstract_state.specs.declared.plain.StateData.{StateData}
use Rattle.abstract_state.specs.declared.seen.Holder.{Holder}
use Rattle.abstract_state.specs.Building.{HasImageBytes, built, plain_of}
use Rattle.abstract_state.specs.Describes.{Describes, IsDescribed}
use Rattle.abstract_state.specs.Flags.{truth_met}
use Rattle.abstract_state.specs.Refining.{refined}
use Rattle.abstract_state.specs.State.{IsWellState, Known, covers_state, start_state}
use Rattle.abstract_state.specs.Widening.{widened_state}

module _ {D : Type 0} (d : Values D) where
  -- a covering state describes what the other does, by the same places
  abbrev pub CoveringIsSound : Type 0
  CoveringIsSound = (image : Image) (t s : Known D) (p : Places) (m : MachineState) → covers_state d t s ≡ true → Describes d image s p m → Describes d image t p m

  -- a widened state covers the one that it was
  abbrev pub WideningIsSound : Type 0
  WideningIsSound = (k : ℕ) (seen : List (Holder × D)) (s : Known D) → IsWellState d s → covers_state d (widened_state d k seen s) s ≡ true

  -- and is well again
  abbrev pub WideningKeepsWell : Type 0
  WideningKeepsWell = (k : ℕ) (seen : List (Holder × D)) (s : Known D) → IsWellState d s → IsWellState d (widened_state d k seen s)

  -- the start state describes every start
  abbrev pub StartsAreDescribed : Type 0
  StartsAreDescribed = (image : Image) (m : MachineState) → IsLoaded image → Start image m → IsDescribed d image (start_state d image) m

  abbrev pub StartIsWell : Type 0
  StartIsWell = (image : Image) → IsWellState d (start_state d image)

  -- where a condition was unknown and is met, one of the refined states describes what the state did, by the same places
  abbrev pub RefiningIsSound : Type 0
  RefiningIsSound =
      (image : Image) (k : ℕ) (condition : Cond) (s : Known D) (p : Places) (m : MachineState) →
      IsWellState d s → truth_met condition s.flags ≡ Unknown → is_met condition m.flags ≡ true → Describes d image s p m →
      (t : Known D) × Contains (refined d image k condition s) t × Describes d image t p m

  -- each of them is well
  abbrev pub RefiningKeepsWell : Type 0
  RefiningKeepsWell =
      (image : Image) (k : ℕ) (condition : Cond) (s t : Known D) →
      IsWellState d s → Contains (refined d image k condition s) t → IsWellState d t

  -- the plain lists of a state are built to that state again
  abbrev pub PlainStatesAreBuilt : Type 0
  PlainStatesAreBuilt = (image : Image) (s : Known D) → IsWellState d s → HasImageBytes image s → built d image (plain_of s) ≡ Some s

  -- what is built has the plain lists of which it was built, and is a state of the image
  abbrev pub BuiltStatesArePlain : Type 0
  BuiltStatesArePlain = (image : Image) (p : StateData D) (s : Known D) → built d image p ≡ Some s → (plain_of s ≡ p) × HasImageBytes image s
