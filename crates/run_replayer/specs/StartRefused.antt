-- Why there is no run: the start file's fault, or want of memory.
use Rattle.std.specs.Prelude.{◌≡◌, ⊤, Err}
use Rattle.memory_map.specs.Image.{Image}
use Rattle.x86_machine.specs.Started.{started}
use Rattle.x86_machine.specs.declared.start_fault.StartFault.{StartFault}
use Rattle.x86_machine.specs.declared.start_fault.StartFault.TheVariants as faults
use Rattle.x86_machine.specs.declared.start_file.StartFile.{StartFile}
use Rattle.run_replayer.specs.declared.run_fault.RunFault.{RunFault}
use Rattle.run_replayer.specs.declared.run_fault.RunFault.TheVariants.{Start, Memory}

-- want of memory is told as such
abbrev pub run_fault_of : StartFault → RunFault
run_fault_of faults.Align = Start faults.Align
run_fault_of faults.Window = Start faults.Window
run_fault_of faults.Overlap = Start faults.Overlap
run_fault_of (faults.Fill index) = Start (faults.Fill index)
run_fault_of faults.Memory = Memory

-- the start file has this fault; want of memory is free
abbrev pub IsRefused : Image → StartFile → RunFault → Type 0
IsRefused image start (Start fault) = started image start ≡ Err fault
IsRefused image start Memory = ⊤
