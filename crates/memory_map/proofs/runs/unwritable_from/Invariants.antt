use Rattle.std.proofs.Common.{◌≡◌, ◌≤◌, ◌<◌, ℕ, get_or, true}
use Rattle.memory_map.specs.Map.{permits, range_of}
use Rattle.memory_map.specs.Range.{end_of}
use Rattle.memory_map.specs.declared.segment.Segment.{Segment}
use Rattle.memory_map.proofs.Reaching.{writable}
use Rattle.memory_map.proofs.runs.unwritable_from.Given as goal

abbrev pub invariant-loop-s : goal.invariant-loop-s
invariant-loop-s l = (l.from ≤ l.low) × (l.low ≤ l.a) × ((k : ℕ) (d : Segment) → k < l.s-index → permits writable (range_of (get_or l.list k d)) ≡ true → end_of (range_of (get_or l.list k d)) ≤ l.a → end_of (range_of (get_or l.list k d)) ≤ l.low)
