-- Ranges of addresses without their bytes.
use Rattle.std.specs.Prelude.{ℕ, zero, suc, ◌≡◌, ◌+◌, ◌<◌, ◌≤◌, Bool, List, [], ◌∷◌, ◌&&◌, nat_le, nat_lt, ◌==◌, if◌then◌else◌}
use Rattle.std.specs.List.{list_any}
use Rattle.memory_map.specs.declared.span.Span.{Span}

-- whether an address is one of a span
abbrev pub is_in_span : ℕ → Span → Bool
is_in_span a s = nat_le s.low a && nat_lt a (s.low + s.size)

-- whether it is one of some span
abbrev pub is_in_ranges : ℕ → List Span → Bool
is_in_ranges a ranges = list_any (is_in_span a) ranges

-- n addresses before runs of later ones: they lengthen the first of these where it begins right after them
abbrev pub join_span : ℕ → ℕ → List Span → List Span
join_span a n [] = record { low = a; size = n } ∷ []
join_span a n (r ∷ runs) = if r.low == a + n then record { low = a; size = n + r.size } ∷ runs else record { low = a; size = n } ∷ r ∷ runs

-- the longest runs of addresses that pass a test, among `count` addresses from one on, ascending
unfoldable pub runs_of : (ℕ → Bool) → ℕ → ℕ → List Span
runs_of test a zero = []
runs_of test a (suc count) = if test a then join_span a 1 (runs_of test (a + 1) count) else runs_of test (a + 1) count

-- a test gives the same of each address from one up to another
pub record AreAll (test : ℕ → Bool) (answer : Bool) (from end : ℕ) : Type 0 where
  pub each : (b : ℕ) → from ≤ b → b < end → test b ≡ answer

-- a span ends there at the latest
abbrev pub IsBelow : ℕ → Span → Type 0
IsBelow end s = s.low + s.size ≤ end
