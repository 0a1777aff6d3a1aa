use Rattle.std.proofs.Common.{◌≡◌, map}
use Rattle.std.specs.List.{range_with_len}
use Rattle.abstract_state.proofs.refining.numbers_below.Given as goal

abbrev pub invariant-loop-x : goal.invariant-loop-x
invariant-loop-x g l = l.all.items ≡ map g.D.Domain.number (range_with_len 0 l.x)
