use Rattle.std.proofs.Common.{◌≡◌, drop}
use Rattle.abstract_state.specs.Expanding.{with_writes}
use Rattle.abstract_state.proofs.expansion.record_writes.Given as goal

abbrev pub invariant-loop-w : goal.invariant-loop-w
invariant-loop-w l = with_writes (drop l.w-index l.more) l.writes.items ≡ with_writes l.more l.initial.writes.items
