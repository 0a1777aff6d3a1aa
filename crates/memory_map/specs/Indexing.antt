-- Spans in the order of their first addresses, to find soon whether one has an address.
use Rattle.std.specs.Prelude.{ℕ, ◌≡◌, ◌+◌, ◌<◌, ◌≤◌, List, length, nat_lt, slice_index, take}
use Rattle.std.specs.List.{AllWithin}
use Rattle.std.specs.List.Sorted.{IsNonDecreasingBy}
use Rattle.memory_map.specs.Spans.{is_in_ranges}
use Rattle.memory_map.specs.declared.span.Span.{Span}

-- the first k spans end there: an address that none of them begins above is in one of them exactly where it is below
pub record EndBy (spans : List Span) (k end : ℕ) : Type 0 where
  pub each : (a : ℕ) → AllWithin (λ s. s.low ≤ a) spans 0 k → is_in_ranges a (take k spans) ≡ nat_lt a end

-- spans ascend by their first addresses, and with each stands where the ones up to it end
pub record IsIndexed (spans : List Span) (ends : List ℕ) : Type 0 where
  pub order : IsNonDecreasingBy (λ s. s.low) spans
  pub count : length ends ≡ length spans
  pub each : (k : ℕ) → k < length spans → EndBy spans (k + 1) (slice_index ends k)
