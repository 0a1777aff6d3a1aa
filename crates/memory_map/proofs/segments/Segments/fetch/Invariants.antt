use Rattle.std.proofs.Common.{◌≡◌, ◌+◌, ◌-◌, ◌++◌, map, length}
use Rattle.memory_map.specs.Range.{code_at, run_of}
use Rattle.memory_map.specs.Map.{range_of}
use Rattle.memory_map.proofs.segments.Segments.fetch.Given as goal

abbrev pub invariant-loop-i : goal.invariant-loop-i
invariant-loop-i l = (length l.bytes.items ≡ l.i) × (run_of (code_at (map range_of l.self)) 15 l.a ≡ l.bytes.items ++ run_of (code_at (map range_of l.self)) (15 - l.i) (l.a + l.i))
