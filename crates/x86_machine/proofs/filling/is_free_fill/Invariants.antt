use Rattle.std.proofs.Common.{◌≡◌, ◌+◌, drop}
use Rattle.std.specs.List.{enumerate_from, list_all}
use Rattle.x86_machine.specs.Started.{is_free_byte}
use Rattle.x86_machine.proofs.filling.is_free_fill.Given as goal

abbrev pub invariant-loop-i : goal.invariant-loop-i
invariant-loop-i l = list_all (λ at. is_free_byte l.image l.start at.0) (enumerate_from (l.fill.at + l.i) (drop l.i l.fill.bytes)) ≡ list_all (λ at. is_free_byte l.image l.start at.0) (enumerate_from l.fill.at l.fill.bytes)
