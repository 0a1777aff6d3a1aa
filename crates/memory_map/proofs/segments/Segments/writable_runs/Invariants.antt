use Rattle.std.proofs.Common.{◌-◌, ◌≡◌, ◌≤◌, map}
use Rattle.memory_map.specs.Range.{may_write}
use Rattle.memory_map.specs.Spans.{runs_of}
use Rattle.memory_map.specs.Map.{range_of}
use Rattle.memory_map.proofs.segments.Segments.writable_runs.Given as goal

abbrev pub invariant-loop-at : goal.invariant-loop-at
invariant-loop-at l = (l.from ≤ l.at) × (l.at ≤ l.end) × (l.runs.items ≡ runs_of (may_write (map range_of l.self)) l.at (l.end - l.at))

abbrev pub decreases-loop-at : goal.decreases-loop-at
decreases-loop-at l = l.at - l.from
