use Rattle.std.proofs.Common.{◌≡◌, take, map}
use Rattle.flow_worklist.proofs.automaton.addresses.Given as goal

abbrev pub invariant-loop-row : goal.invariant-loop-row
invariant-loop-row g l = l.found.items ≡ map (λ row. row.location) (take l.row-index l.rows)
