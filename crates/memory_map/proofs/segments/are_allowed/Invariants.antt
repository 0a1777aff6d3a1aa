use Rattle.std.proofs.Common.{◌-◌, ◌≤◌}
use Rattle.memory_map.specs.Map.{AreAllowed, range_of}
use Rattle.std.proofs.Common.{map}
use Rattle.memory_map.proofs.segments.are_allowed.Given as goal

abbrev pub invariant-loop-at : goal.invariant-loop-at
invariant-loop-at l = (l.from ≤ l.at) × AreAllowed (map range_of l.list) l.perm l.from l.at

abbrev pub decreases-loop-at : goal.decreases-loop-at
decreases-loop-at l = l.end - l.at
