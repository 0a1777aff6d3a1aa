-- That the expansion of an instruction stands for what the instruction does, and keeps states well.
use Rattle.std.specs.Prelude.{ℕ, ◌≡◌, ◌+◌, Ok, Some, [], Contains, slice_get}
use Rattle.address_regions.specs.Places.{Places}
use Rattle.domain_laws.specs.Laws.{Values}
use Rattle.memory_map.specs.declared.choice.Choice.{Choice}
use Rattle.memory_map.specs.Image.{Image, IsLoaded}
use Rattle.memory_map.specs.Range.{code_at}
use Rattle.memory_map.specs.State.{MachineState, memory}
use Rattle.x86_syntax.specs.declared.instr.Instr.{Instr}
use Rattle.x86_semantics.specs.Does.{does}
use Rattle.abstract_state.specs.Describes.{Describes}
use Rattle.abstract_state.specs.Expanding.{Expanded}
use Rattle.abstract_state.specs.State.{IsWellState, Known}
use Rattle.transfer_functions.specs.Fetching.{known_run}
use Rattle.transfer_functions.specs.Post.{expand_instr}

module _ {D : Type 0} (d : Values D) (image : Image) where
  -- some next pair has the address of the state after a step, is well, and describes it by the same places
  pub record IsFoundIn (x : Expanded D) (p : Places) (next : MachineState) : Type 0 where
    pub state : Known D
    pub pair : Contains x.next (next.eip, state)
    pub well : IsWellState d state
    pub describes : Describes d image state p next

module _ {D : Type 0} (d : Values D) where
  -- whatever an instruction does to a machine state that is described, under every choice, where no cause leaves it open
  abbrev pub InstrIsSound : Type 0
  InstrIsSound =
      (image : Image) (k : ℕ) (i : Instr) (n : ℕ) (choice : Choice) (s : Known D) (p : Places) (m next : MachineState) →
      IsLoaded image → IsWellState d s → Describes d image s p m → does i n choice m ≡ Ok next →
      (expand_instr d image k i m.eip n s).causes ≡ [] → IsFoundIn d image (expand_instr d image k i m.eip n s) p next

  -- each next pair of a well state is well
  abbrev pub InstrKeepsWell : Type 0
  InstrKeepsWell =
      (image : Image) (k : ℕ) (i : Instr) (at n : ℕ) (s : Known D) (pair : ℕ × Known D) →
      IsLoaded image → IsWellState d s → Contains (expand_instr d image k i at n s).next pair → IsWellState d pair.1

  -- each byte of code that a state knows is an executable byte of each machine state that it describes
  abbrev pub KnownCodeIsFetched : Type 0
  KnownCodeIsFetched =
      (image : Image) (s : Known D) (p : Places) (m : MachineState) (at i n : ℕ) →
      Describes d image s p m → slice_get (known_run d image s at) i ≡ Some n → code_at (memory m) (at + i) ≡ Some n
