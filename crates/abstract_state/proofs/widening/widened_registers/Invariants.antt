use Rattle.std.proofs.Common.{◌≡◌, fold}
use Rattle.std.specs.List.{range_with_len}
use Rattle.domain_laws.specs.Made.{values_of}
use Rattle.abstract_state.specs.Widening.{with_widened_register}
use Rattle.abstract_state.proofs.widening.widened_registers.Given as goal

abbrev pub invariant-loop-r : goal.invariant-loop-r
invariant-loop-r g l =
    l.regs ≡ fold (with_widened_register (values_of g.D.Domain g.D.PartialEq.eq) l.k l.seen) l.initial.regs (range_with_len 0 l.r)
