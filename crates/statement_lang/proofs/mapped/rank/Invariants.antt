use Rattle.std.proofs.Common.{ℕ, ◌-◌, ◌<◌, ◌≤◌, length}
use Rattle.std.specs.Prelude.{slice_index}
use Rattle.statement_lang.specs.Indexed.{range_at}
use Rattle.statement_lang.proofs.mapped.rank.Given as goal

abbrev pub invariant-loop-low : goal.invariant-loop-low
invariant-loop-low l = record {
  ordered : l.low ≤ l.high;
  within : l.high ≤ length l.order;
  below : (j : ℕ) → j < l.low → (range_at l.list (slice_index l.order j)).low ≤ l.a;
  above : (j : ℕ) → l.high ≤ j → j < length l.order → l.a < (range_at l.list (slice_index l.order j)).low;
}

abbrev pub decreases-loop-low : goal.decreases-loop-low
decreases-loop-low l = l.high - l.low
