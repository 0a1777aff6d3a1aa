use Rattle.std.proofs.Common.{◌≡◌, ◌+◌, drop}
use Rattle.std.specs.List.{enumerate_from, list_all}
use Rattle.import_semantics.specs.StubDoes.{may_fill}
use Rattle.x86_machine.proofs.refusals.may_fill_each.Given as goal

abbrev pub invariant-loop-i : goal.invariant-loop-i
invariant-loop-i l = list_all (may_fill l.stub l.choice l.cells) (enumerate_from (l.fill.at + l.i) (drop l.i l.fill.bytes)) ≡ list_all (may_fill l.stub l.choice l.cells) (enumerate_from l.fill.at l.fill.bytes)
