-- Ranges of addresses merged into the longest that they make.
use Rattle.std.specs.Prelude.{ℕ, ◌≡◌, ◌+◌, ◌<◌, ◌≤◌, ◌⊎◌, ⊤, List, [], ◌∷◌, ◌||◌, All}
use Rattle.memory_map.specs.Range.{USER_END}
use Rattle.memory_map.specs.Spans.{is_in_ranges, is_in_span, IsBelow}
use Rattle.memory_map.specs.declared.span.Span.{Span}

-- from an address on, each of some addresses, with a gap before the next one
abbrev pub AreSeparate : ℕ → List Span → Type 0
AreSeparate lo [] = ⊤
AreSeparate lo (r ∷ rs) = (lo ≤ r.low) × (0 < r.size) × AreSeparate (r.low + r.size + 1) rs

-- the longest ranges that have the addresses of others
pub record AreRuns (spans runs : List Span) : Type 0 where
  pub separate : AreSeparate 0 runs
  pub below : All (IsBelow USER_END) runs
  pub same : (x : ℕ) → is_in_ranges x runs ≡ is_in_ranges x spans

-- empty, or below the end of where a program's memory may lie
abbrev pub Fits : Span → Type 0
Fits s = (s.size ≡ 0) ⊎ IsBelow USER_END s

-- none begins above an address
abbrev pub BeginBy : ℕ → List Span → Type 0
BeginBy top runs = All (λ r. r.low ≤ top) runs

-- ranges with the addresses of one more
pub record Extends (old : List Span) (s : Span) (new : List Span) : Type 0 where
  pub separate : AreSeparate 0 new
  pub below : All (IsBelow USER_END) new
  pub same : (x : ℕ) → is_in_ranges x new ≡ (is_in_ranges x old || is_in_span x s)
  pub by : BeginBy s.low new
