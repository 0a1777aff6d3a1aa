-- That the analysis of an image is sound for the machine, and that no run leaves its log before it first stands at an open location.
use Rattle.std.specs.Prelude.{ℕ, ◌≡◌, ◌<◌, ◌+◌, List, [], Some, map, length, slice_get, take, Contains}
use Rattle.address_regions.specs.Places.{Places}
use Rattle.domain_laws.specs.Laws.{Values}
use Rattle.memory_map.specs.Image.{Image, IsLoaded}
use Rattle.memory_map.specs.Range.{code_at}
use Rattle.memory_map.specs.Start.{Start}
use Rattle.memory_map.specs.State.{MachineState, memory}
use Rattle.x86_syntax.specs.declared.instr.Instr.{Instr}
use Rattle.x86_syntax.specs.Decodes.{decoded}
use Rattle.stub_file.specs.Stubs.{StatedStubs}
use Rattle.flow_log.specs.Log.{IsOpen, pair_of}
use Rattle.flow_log.specs.Run.{Follows, IsRun}
use Rattle.flow_log.specs.Sound.{Sound}
use Rattle.x86_machine.specs.Machine.{machine_of}
use Rattle.x86_machine.specs.StepBy.{fetched}
use Rattle.abstract_state.specs.Describes.{Describes, IsDescribed}
use Rattle.abstract_state.specs.State.{IsWellState, Known}
use Rattle.transfer_functions.specs.Fetching.{known_run}
use Rattle.flow_worklist.specs.declared.site.Site.TheVariants.{Code}
use Rattle.flow_worklist.specs.Analysis.{ImageLog, analysis_of, image_log}
use Rattle.flow_worklist.specs.Post.{post, site_at}

module _ {D : Type 0} (d : Values D) where
  -- some row at the EIP of a machine state describes it, and the executable bytes that this row knows there are the machine's
  pub record IsKnownTo (image : Image) (log : ImageLog D) (m : MachineState) : Type 0 where
    pub state : Known D
    pub in_rows : Contains (map pair_of log.rows) (m.eip, state)
    pub describes : IsDescribed d image state m
    pub code : (i : ℕ) → i < length (known_run d image state m.eip) → code_at (memory m) (m.eip + i) ≡ slice_get (known_run d image state m.eip) i

  -- from every allowed start, of every run: until it first stands at an open location of the log each of its states is known, and each step is an edge
  abbrev pub RunsAreFollowed : Type 0
  RunsAreFollowed =
      (image : Image) (stubs : StatedStubs) (k budget : ℕ) (m : MachineState) (states : List MachineState) →
      IsLoaded image → Start image m → IsRun (machine_of image stubs) m states →
      Follows (machine_of image stubs) (IsKnownTo image (image_log d image stubs k budget)) (IsOpen (analysis_of d image stubs k) (image_log d image stubs k budget))
      (image_log d image stubs k budget).edges m states

  -- the instruction that a machine state fetches is that with which the known bytes begin, byte for byte
  pub record IsFetchedAs (image : Image) (s : Known D) (m : MachineState) (i : Instr) (n : ℕ) : Type 0 where
    pub decodes : decoded (known_run d image s m.eip) ≡ Some (i, n)
    pub bytes : take n (fetched m) ≡ take n (known_run d image s m.eip)

  -- where the expansion of a well formed row has no cause, each machine state at code that the row describes, and that fetches an instruction, fetches
  -- what the row knows
  abbrev pub CodeIsFetched : Type 0
  CodeIsFetched =
      (image : Image) (stubs : StatedStubs) (k : ℕ) (s : Known D) (p : Places) (m : MachineState) (i : Instr) (n : ℕ) →
      IsLoaded image → IsWellState d s → Describes d image s p m → (post d image stubs k m.eip s).causes ≡ [] → site_at image m.eip ≡ Code → decoded (fetched m) ≡ Some (i, n) → IsFetchedAs image s m i n

  -- one step: the analysis of every image is sound for the machine that runs it
  abbrev pub StepsAreSound : Type 0
  StepsAreSound =
      (image : Image) (stubs : StatedStubs) (k : ℕ) → IsLoaded image → Sound (analysis_of d image stubs k) (machine_of image stubs) (IsWellState d) (IsDescribed d image)
