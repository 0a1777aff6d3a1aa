use Rattle.std.proofs.Common.{ℕ, ◌-◌, ◌≤◌, ◌<◌, ◌≡◌, true}
use Rattle.memory_map.specs.Range.{may_write}
use Rattle.memory_map.specs.State.{memory}
use Rattle.statement_lang.proofs.cells.Cells.may_write_each.Given as goal

abbrev pub invariant-loop-at : goal.invariant-loop-at
invariant-loop-at l = record {
  from : l.a ≤ l.at;
  each : (b : ℕ) → l.a ≤ b → b < l.at → may_write (memory l.self) b ≡ true;
}

abbrev pub decreases-loop-at : goal.decreases-loop-at
decreases-loop-at l = l.end - l.at
