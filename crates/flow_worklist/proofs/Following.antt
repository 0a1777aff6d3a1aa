-- The theorem on logs, of the log of an image.
use Rattle.std.proofs.Common.{ℕ, List, map}
use Rattle.std.specs.Prelude.{All}
use Rattle.domain_laws.specs.Laws.{Values, IsLawful}
use Rattle.memory_map.specs.Image.{Image, IsLoaded}
use Rattle.memory_map.specs.Start.{Start}
use Rattle.memory_map.specs.State.{MachineState}
use Rattle.stub_file.specs.Stubs.{StatedStubs}
use Rattle.flow_log.specs.Log.{IsOpen, pair_of}
use Rattle.flow_log.specs.Run.{Follows, IsRun}
use Rattle.flow_log.specs.Sound.{IsKnown, Sound}
use Rattle.flow_log.proofs.Closing.{log_closed, rows_well}
use Rattle.flow_log.proofs.Induction.{follows_weaker, run_follows, start_known}
use Rattle.x86_machine.specs.Machine.{machine_of}
use Rattle.abstract_state.specs.Describes.{IsDescribed}
use Rattle.abstract_state.specs.State.{IsWellState, Known}
use Rattle.abstract_state.proofs.Starting.{starts-are_described}
use Rattle.flow_worklist.specs.Analysis.{ImageAnalysis, ImageLog, analysis_of, image_log}
use Rattle.flow_worklist.specs.Laws.{IsKnownTo, RunsAreFollowed}
use Rattle.flow_worklist.proofs.StepSound.{analysis_sound, byte_there}

module _ {D : Type 0} (d : Values D) (l : IsLawful d) (image : Image) (stubs : StatedStubs) (loaded : IsLoaded image) (k budget : ℕ) where
  abbrev analysis : ImageAnalysis D
  analysis = analysis_of d image stubs k

  abbrev log : ImageLog D
  log = image_log d image stubs k budget

  abbrev rows : List (ℕ × Known D)
  rows = map pair_of log.rows

  abbrev IsInRows : MachineState → Type 0
  IsInRows m = IsKnown (machine_of image stubs) (IsDescribed d image) rows m

  sound : Sound analysis (machine_of image stubs) (IsWellState d) (IsDescribed d image)
  sound = analysis_sound d l image stubs k loaded

  well : All (λ (row : ℕ × Known D). IsWellState d row.1) rows
  well = rows_well analysis (machine_of image stubs) (IsWellState d) (IsDescribed d image) sound budget

  follows : (m : MachineState) (states : List MachineState) → Start image m → IsRun (machine_of image stubs) m states
      → Follows (machine_of image stubs) IsInRows (IsOpen analysis log) log.edges m states
  follows m states start run =
      run_follows analysis (machine_of image stubs) (IsWellState d) (IsDescribed d image) sound rows log.edges (IsOpen analysis log) (log_closed analysis budget) well m states
      (start_known analysis (machine_of image stubs) (IsWellState d) (IsDescribed d image) sound rows log.edges (IsOpen analysis log) (log_closed analysis budget) well m start.entry
      (starts-are_described d l image m loaded start))
      run

  known_to : (m : MachineState) → IsInRows m → IsKnownTo d image log m
  known_to m known =
      record {
        state = known.state;
        in_rows = known.in_rows;
        describes = known.describes;
        code = byte_there d l image known.state known.describes.0 m known.describes.1;
      }

  log_follows : (m : MachineState) (states : List MachineState) → Start image m → IsRun (machine_of image stubs) m states
      → Follows (machine_of image stubs) (IsKnownTo d image log) (IsOpen analysis log) log.edges m states
  log_follows m states start run = follows_weaker (machine_of image stubs) IsInRows (IsKnownTo d image log) (IsOpen analysis log) log.edges known_to m states (follows m states start run)

pub runs-are_followed : {D : Type 0} (d : Values D) → IsLawful d → RunsAreFollowed d
runs-are_followed d l image stubs k budget m states loaded start run = log_follows d l image stubs loaded k budget m states start run
