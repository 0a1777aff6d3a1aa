use Rattle.std.proofs.Common.{◌≡◌, ◌+◌, ◌-◌, ◌++◌, length}
use Rattle.memory_map.specs.Range.{code_at, run_of}
use Rattle.memory_map.specs.State.{memory}
use Rattle.statement_lang.proofs.cells.Cells.fetch.Given as goal

abbrev pub invariant-loop-i : goal.invariant-loop-i
invariant-loop-i l = (length l.bytes.items ≡ l.i) × (run_of (code_at (memory l.self)) 15 l.at ≡ l.bytes.items ++ run_of (code_at (memory l.self)) (15 - l.i) (l.at + l.i))
