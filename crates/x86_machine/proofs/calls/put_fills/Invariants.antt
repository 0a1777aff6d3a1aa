use Rattle.std.proofs.Common.{◌≡◌, drop}
use Rattle.import_semantics.specs.StubDoes.{with_bytes}
use Rattle.statement_lang.specs.Filling.{bytes_of_fills}
use Rattle.x86_machine.proofs.calls.put_fills.Given as goal

abbrev pub invariant-loop-fill : goal.invariant-loop-fill
invariant-loop-fill l = with_bytes (bytes_of_fills (drop l.fill-index l.fills)) l.cells ≡ with_bytes (bytes_of_fills l.fills) l.initial.cells
