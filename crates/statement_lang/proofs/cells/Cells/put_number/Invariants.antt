use Rattle.std.proofs.Common.{◌≡◌, ◌-◌}
use Rattle.x86_semantics.specs.Memory.{with_number}
use Rattle.statement_lang.proofs.cells.Cells.put_number.Given as goal

abbrev pub invariant-loop-i : goal.invariant-loop-i
invariant-loop-i l = with_number (l.count - l._i) l.at l.left l.self ≡ with_number l.count l.a l.v l.initial.self
