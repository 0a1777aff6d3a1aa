use Rattle.std.proofs.Common.{◌≡◌, take}
use Rattle.x86_machine.specs.Started.{unset_zeros, with_fills}
use Rattle.x86_machine.proofs.Zeroing.{IsDone}
use Rattle.x86_machine.proofs.filling.zero_sorted.Given as goal

abbrev pub invariant-loop-span : goal.invariant-loop-span
invariant-loop-span l = (l.cells ≡ with_fills (unset_zeros (take l.span-index l.sorted)) l.initial.cells) × IsDone l.sorted l.span-index l.done
