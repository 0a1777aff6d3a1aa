use Rattle.std.proofs.Common.{◌≡◌, ℕ, ◌<◌, ◌≤◌, take, length, get_or}
use Rattle.memory_map.specs.declared.span.Span.{Span}
use Rattle.image_listing.specs.Merging.{AreRuns, BeginBy}
use Rattle.image_listing.proofs.unset.merged.Given as goal

abbrev pub invariant-loop-s : goal.invariant-loop-s
invariant-loop-s l = AreRuns (take l.s-index l.sorted) l.runs.items × ((j : ℕ) (d : Span) → l.s-index ≤ j → j < length l.sorted → BeginBy (get_or l.sorted j d).low l.runs.items)
