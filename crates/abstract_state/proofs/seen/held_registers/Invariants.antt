use Rattle.std.proofs.Common.{◌≡◌, take}
use Rattle.abstract_state.specs.Widening.{held_registers}
use Rattle.abstract_state.proofs.seen.held_registers.Given as goal

abbrev pub invariant-loop-r : goal.invariant-loop-r
invariant-loop-r g l = l.pairs.items ≡ take l.r (held_registers l.s)
