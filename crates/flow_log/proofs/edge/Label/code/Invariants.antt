use Rattle.std.proofs.Common.{◌≡◌, take}
use Rattle.flow_log.proofs.edge.Label.code.Given as goal

abbrev pub invariant-loop-b : goal.invariant-loop-b
invariant-loop-b l = l.held.items ≡ take l.b-index l.bytes
