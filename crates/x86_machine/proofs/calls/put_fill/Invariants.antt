use Rattle.std.proofs.Common.{◌≡◌, ◌+◌, drop}
use Rattle.std.specs.List.{enumerate_from}
use Rattle.import_semantics.specs.StubDoes.{with_bytes}
use Rattle.x86_machine.proofs.calls.put_fill.Given as goal

abbrev pub invariant-loop-i : goal.invariant-loop-i
invariant-loop-i l = with_bytes (enumerate_from (l.fill.at + l.i) (drop l.i l.fill.bytes)) l.cells ≡ with_bytes (enumerate_from l.fill.at l.fill.bytes) l.initial.cells
