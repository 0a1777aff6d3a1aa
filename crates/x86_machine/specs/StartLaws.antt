-- Start files and the states from which a run may begin.
use Rattle.std.specs.Prelude.{◌≡◌, ◌<◌, ◌≤◌, ◌^◌, length, All, Ok}
use Rattle.memory_map.specs.declared.choice.Fill.{Fill}
use Rattle.memory_map.specs.Image.{Image, IsLoaded}
use Rattle.memory_map.specs.Start.{Start}
use Rattle.memory_map.specs.State.{MachineState}
use Rattle.x86_machine.specs.Started.{started}
use Rattle.x86_machine.specs.declared.start_file.StartFile.{StartFile}

-- bytes to fill in, 1 to 1,024 of them
pub record IsFill (f : Fill) : Type 0 where
  pub at : f.at < 2 ^ 32
  pub some : 0 < length f.bytes
  pub most : length f.bytes ≤ 1024
  pub bytes : All (λ b. b < 256) f.bytes

-- what every start file keeps beside its six flags: words, and fills
pub record IsStartFile (s : StartFile) : Type 0 where
  pub registers : length s.regs ≡ 8
  pub words : All (λ n. n < 2 ^ 32) s.regs
  pub fs : s.fs < 2 ^ 32
  pub gs : s.gs < 2 ^ 32
  pub fill : All IsFill s.fill

-- the state that a start file states is one from which a run may begin
abbrev pub StatesMeetStart : Type 0
StatesMeetStart =
    (image : Image) (s : StartFile) (m : MachineState) → IsLoaded image → IsStartFile s → started image s ≡ Ok m → Start image m

-- each state from which a run may begin is stated by some start file
abbrev pub StatesAreStated : Type 0
StatesAreStated =
    (image : Image) (m : MachineState) → IsLoaded image → Start image m → (s : StartFile) × IsStartFile s × (started image s ≡ Ok m)
