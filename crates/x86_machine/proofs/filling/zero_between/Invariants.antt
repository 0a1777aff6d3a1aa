use Rattle.std.proofs.Common.{◌≡◌, ◌-◌, map}
use Rattle.std.specs.List.{range_with_len}
use Rattle.x86_machine.specs.Started.{with_fills}
use Rattle.x86_machine.proofs.filling.zero_between.Given as goal

abbrev pub invariant-loop-a : goal.invariant-loop-a
invariant-loop-a l = with_fills (map (λ a. (a, 0)) (range_with_len l.a (l.end - l.a))) l.cells ≡ with_fills (map (λ a. (a, 0)) (range_with_len l.from (l.end - l.from))) l.initial.cells
