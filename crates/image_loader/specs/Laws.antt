-- What holds of all loaded images.
use Rattle.std.specs.Prelude.{ℕ, ◌≤◌, List, length}
use Rattle.memory_map.specs.Image.{Image, IsLoaded}
use Rattle.memory_map.specs.Start.{Start}
use Rattle.memory_map.specs.State.{MachineState}
use Rattle.stub_file.specs.Stubs.{StatedStubs}
use Rattle.image_loader.specs.Binding.{Loads}

-- an image of at most 97 segments has a state from which a run may start: its segments leave a gap for the three windows
abbrev pub ImagesCanStart : Type 0
ImagesCanStart = (image : Image) → IsLoaded image → length image.segments ≤ 97 → (m : MachineState) × Start image m

-- a file lays out no more segments than that: 64 program headers, or 96 sections and the headers
abbrev pub LoadedAreFew : Type 0
LoadedAreFew = (bytes : List ℕ) (stubs : StatedStubs) (image : Image) → Loads bytes stubs image → length image.segments ≤ 97
