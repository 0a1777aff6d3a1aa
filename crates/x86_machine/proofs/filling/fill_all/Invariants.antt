use Rattle.std.proofs.Common.{◌≡◌, drop}
use Rattle.x86_machine.specs.Started.{with_fills}
use Rattle.statement_lang.specs.Filling.{bytes_of_fills}
use Rattle.x86_machine.proofs.filling.fill_all.Given as goal

abbrev pub invariant-loop-fill : goal.invariant-loop-fill
invariant-loop-fill l = with_fills (bytes_of_fills (drop l.fill-index l.fills)) l.cells ≡ with_fills (bytes_of_fills l.fills) l.initial.cells
