-- What the code finds on the way to a text.
use Rattle.std.specs.Prelude.{ℕ, ◌≡◌, ◌⊎◌, ◌<◌, ◌^◌, ⊤, true, false, List, length, Option, None, Some, Result, Ok, Err}
use Rattle.outside_io.specs.Outside.{Gained, GainedPrefix, Rose}
use Rattle.memory_map.specs.Image.{Image, IsLoaded}
use Rattle.stub_file.specs.Stubs.{StatedStubs}
use Rattle.image_loader.specs.Loading.{LaidOut}
use Rattle.image_loader.specs.Binding.{image_of}
use Rattle.jakstab_core.specs.declared.status.Status.{Status}
use Rattle.jakstab_core.specs.declared.status.Status.TheVariants.{Done, VerdictNo, WriteFault, Memory, InputRefused}
use Rattle.jakstab_core.specs.declared.work.Output.{Output}
use Rattle.jakstab_core.specs.declared.work.Work.{Work}
use Rattle.jakstab_core.specs.declared.work.Work.TheVariants as works
use Rattle.text_fields.specs.declared.line_fault.TextFault.{TextFault}
use Rattle.text_fields.specs.declared.line_fault.TextFault.TheVariants as faults
use Rattle.text_fields.specs.declared.line_fault.LineFault.{LineFault}
use Rattle.x86_machine.specs.declared.start_fault.StartFault.{StartFault}
use Rattle.x86_machine.specs.declared.start_fault.StartFault.TheVariants.{Fill}
use Rattle.run_replayer.specs.declared.run_fault.RunFault.{RunFault}
use Rattle.run_replayer.specs.declared.run_fault.RunFault.TheVariants as run_faults
use Rattle.jakstab_core.specs.Inputs.{start_place}
use Rattle.jakstab_core.specs.Says.{Gain}

-- memory was wanting, or this is so of the status
abbrev pub OrMemory : (Status → Type 0) → Status → Type 0
OrMemory Refused status = (status ≡ Memory) ⊎ Refused status

-- the status of a text that is refused
abbrev pub text_status : TextFault → Status
text_status (faults.Line fault) = InputRefused fault.line fault.kind
text_status faults.Memory = Memory

-- the status of a run that does not begin
abbrev pub place_status : Option LineFault → Status
place_status (Some place) = InputRefused place.line place.kind
place_status None = Memory

abbrev pub run_status : RunFault → Status
run_status (run_faults.Start fault) = place_status (start_place fault)
run_status run_faults.Memory = Memory

-- the fill that has the fault is one of the first 2^32
abbrev pub IsNear : StartFault → Type 0
IsNear (Fill index) = index < 2 ^ 32
IsNear _ = ⊤

abbrev pub IsNearRun : RunFault → Type 0
IsNearRun (run_faults.Start fault) = IsNear fault
IsNearRun run_faults.Memory = ⊤

-- the further inputs have fewer fills at the start and fewer steps than 2^32, as files of their limit have
abbrev pub IsFew : Work → Type 0
IsFew (works.Run start steps) = length start.fill < 2 ^ 32
IsFew (works.Replay automaton taken) = (length taken.start.fill < 2 ^ 32) × (length taken.steps < 2 ^ 32)
IsFew _ = ⊤

-- what is laid out is bound to stubs, and this is so of the image
pub record OfImage (laid_out : LaidOut) (stubs : StatedStubs) (Fact : Image → Type 0) : Type 0 where
  pub image : Image
  pub is : image ≡ image_of stubs laid_out
  pub loaded : IsLoaded image
  pub fact : Fact image

-- a text that is due is written whole or in part, and a refusal is handed on
abbrev pub IsDelivered : Result Output Status → Status → Gain → Type 0
IsDelivered (Ok o) Done out = (o.is_no ≡ false) × Gained out.before out.after o.text.items
IsDelivered (Ok o) VerdictNo out = (o.is_no ≡ true) × Gained out.before out.after o.text.items
IsDelivered (Ok o) WriteFault out = Rose out.faults_before out.faults_after × GainedPrefix out.before out.after o.text.items
IsDelivered (Ok o) _ out = ⊥
IsDelivered (Err refusal) status out = (status ≡ refusal) × (out.after ≡ out.before)
