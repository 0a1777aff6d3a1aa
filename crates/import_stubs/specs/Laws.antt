-- That the expansion of an import stands for what its stub does, and keeps states well.
use Rattle.std.specs.Prelude.{ℕ, ◌≡◌, ◌≢◌, List, [], Contains}
use Rattle.address_regions.specs.Places.{Places}
use Rattle.domain_laws.specs.Laws.{Values}
use Rattle.memory_map.specs.declared.choice.Choice.{Choice}
use Rattle.memory_map.specs.Image.{Image, IsLoaded}
use Rattle.memory_map.specs.State.{MachineState}
use Rattle.stub_file.specs.declared.stub.Reply.TheVariants.{Never}
use Rattle.stub_file.specs.declared.stub.Stub.{Stub}
use Rattle.stub_file.specs.Stubs.{StatedStubs}
use Rattle.import_semantics.specs.StubDoes.{Returned, stub_does}
use Rattle.abstract_state.specs.Describes.{Describes}
use Rattle.abstract_state.specs.Expanding.{Expanded}
use Rattle.abstract_state.specs.State.{IsWellState, Known}
use Rattle.import_stubs.specs.Stub.{calls, expand_stub, stack_offset}

module _ {D : Type 0} (d : Values D) (image : Image) where
  -- some next pair has the address of the state after a step, is well, and describes it by some places
  pub record IsFoundByPlaces (x : Expanded D) (next : MachineState) : Type 0 where
    pub state : Known D
    pub places : Places
    pub pair : Contains x.next (next.eip, state)
    pub well : IsWellState d state
    pub describes : Describes d image state places next

module _ {D : Type 0} (d : Values D) where
  -- whatever a stub that returns or enters does to a machine state that is described, under every choice, where no cause leaves it open
  abbrev pub CallIsSound : Type 0
  CallIsSound =
      (image : Image) (stub : Stub) (choice : Choice) (s : Known D) (p : Places) (m next : MachineState) →
      IsLoaded image → IsWellState d s → Describes d image s p m → stub.reply ≢ Never → stub_does stub choice m ≡ Returned next →
      (calls d image stub (stack_offset (d.reach s.regs.esp)) s).causes ≡ [] →
      IsFoundByPlaces d image (calls d image stub (stack_offset (d.reach s.regs.esp)) s) next

  -- each next pair of a well state is well
  abbrev pub CallKeepsWell : Type 0
  CallKeepsWell =
      (image : Image) (stubs : StatedStubs) (name : List ℕ) (s : Known D) (pair : ℕ × Known D) →
      IsLoaded image → IsWellState d s → Contains (expand_stub d image stubs name s).next pair → IsWellState d pair.1
