use Rattle.std.proofs.Common.{◌≡◌, ℕ, ◌+◌, ◌<◌, length}
use Rattle.std.specs.Prelude.{slice_index}
use Rattle.memory_map.specs.Indexing.{EndBy}
use Rattle.memory_map.proofs.span_index.ends_of.Given as goal

abbrev pub invariant-loop-s : goal.invariant-loop-s
invariant-loop-s l =
    (length l.ends.items ≡ l.s-index) × EndBy l.sorted l.s-index l.end × ((k : ℕ) → k < l.s-index → EndBy l.sorted (k + 1) (slice_index l.ends.items k))
