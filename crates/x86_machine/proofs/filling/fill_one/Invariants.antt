use Rattle.std.proofs.Common.{◌≡◌, ◌+◌, drop}
use Rattle.std.specs.List.{enumerate_from}
use Rattle.x86_machine.specs.Started.{with_fills}
use Rattle.x86_machine.proofs.filling.fill_one.Given as goal

abbrev pub invariant-loop-i : goal.invariant-loop-i
invariant-loop-i l = with_fills (enumerate_from (l.fill.at + l.i) (drop l.i l.fill.bytes)) l.cells ≡ with_fills (enumerate_from l.fill.at l.fill.bytes) l.initial.cells
