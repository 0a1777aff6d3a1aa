-- Ranges of addresses, and the longest runs of those that pass a test.
use Rattle.std.proofs.Common.{ℕ, zero, suc, ◌≡◌, ◌+◌, ◌<◌, ◌≤◌, Bool, true, false, cond, List, [], ◌∷◌, refl, sym, ap, ◌∙◌, subst, arith, inl, inr}
use Rattle.std.specs.Prelude.{◌&&◌, ◌||◌, ◌⊎◌, ◌==◌, nat_le, nat_lt, All}
use Rattle.std.specs.List.{list_all, list_any, range_with_len}
use Rattle.std.proofs.lemmas.Bool.{and_from, and_parts, both_ways, cases_Bool, cases_eq, eqb-true, false≢true, leb-true, ltb-true, or_cases, or_left, or_parts, or_right}
use Rattle.std.proofs.lemmas.List.Elements.{All-cons, All-head, All-nil, All-tail}
use Rattle.memory_map.specs.declared.span.Span.{Span}
use Rattle.memory_map.specs.Spans.{join_span, runs_of}

-- an address is one of a span's
pub record IsInSpan (a : ℕ) (s : Span) : Type 0 where
  pub low : s.low ≤ a
  pub end : a < s.low + s.size

-- ---- tests of a range of addresses

-- the least address, or a later one
first-or : (a c n : ℕ) → a ≤ c → c < a + suc n → (c ≡ a) ⊎ ((a + 1 ≤ c) × (c < a + 1 + n))
first-or a c n low high =
    elim (cases_eq c a) [ inl e ↦ inl e | inr e ↦ inr (omega arith, omega arith) ]

pub all_in_range : (test : ℕ → Bool) (a n c : ℕ) → list_all test (range_with_len a n) ≡ true → a ≤ c → c < a + n → test c ≡ true
all_in_range test a zero c e low high = absurd (omega arith)
all_in_range test a (suc n) c e low high =
    let parts = and_parts (test a) (list_all test (range_with_len (a + 1) n)) e in
    elim (first-or a c n low high) [
      | inl same ↦ ap test same ∙ parts.0
      | inr later ↦ all_in_range test (a + 1) n c parts.1 later.0 later.1
    ]

pub none_in_range : (test : ℕ → Bool) (a n c : ℕ) → list_any test (range_with_len a n) ≡ false → a ≤ c → c < a + n → test c ≡ false
none_in_range test a zero c e low high = absurd (omega arith)
none_in_range test a (suc n) c e low high =
    let parts = or_parts (test a) (list_any test (range_with_len (a + 1) n)) e in
    elim (first-or a c n low high) [
      | inl same ↦ ap test same ∙ parts.0
      | inr later ↦ none_in_range test (a + 1) n c parts.1 later.0 later.1
    ]

pub all_from_each : (test : ℕ → Bool) (a n : ℕ) → ((c : ℕ) → a ≤ c → c < a + n → test c ≡ true) → list_all test (range_with_len a n) ≡ true
all_from_each test a zero each = refl
all_from_each test a (suc n) each =
    and_from (test a) (list_all test (range_with_len (a + 1) n)) (each a (omega arith) (omega arith)) (all_from_each test (a + 1) n (λ c low high. each c (omega arith) (omega arith)))

-- ---- runs

-- an address is in one of some spans
abbrev pub IsInOne : ℕ → List Span → Type 0
IsInOne a [] = ⊥
IsInOne a (s ∷ ss) = IsInSpan a s ⊎ IsInOne a ss

join-turn : (a c : ℕ) (r : Span) (runs : List Span) (b : Bool) → (r.low == a + 1) ≡ b → (c ≡ a) ⊎ IsInOne c (r ∷ runs)
    → IsInOne c (cond b (record { low = a; size = 1 + r.size } ∷ runs) (record { low = a; size = 1 } ∷ r ∷ runs))
join-turn a c r runs true e (inl same) = inl (record { low = omega arith; end = omega arith })
join-turn a c r runs true e (inr (inl i)) = (let low = eqb-true r.low (a + 1) e in inl (record { low = omega (arith, i.low); end = omega (arith, i.end) }))
join-turn a c r runs true e (inr (inr i)) = inr i
join-turn a c r runs false e (inl same) = inl (record { low = omega arith; end = omega arith })
join-turn a c r runs false e (inr i) = inr i

-- the new address is in a run, and those that were are
join-has : (a c : ℕ) (runs : List Span) → (c ≡ a) ⊎ IsInOne c runs → IsInOne c (join_span a 1 runs)
join-has a c [] (inl same) = inl (record { low = omega arith; end = omega arith })
join-has a c [] (inr i) = absurd i
join-has a c (r ∷ runs) i = join-turn a c r runs (r.low == a + 1) refl i

one-only : (a c : ℕ) → IsInSpan c (record { low = a; size = 1 }) → c ≡ a
one-only a c i = omega (arith, i.low, i.end)

only-turn : (a c : ℕ) (r : Span) (runs : List Span) (b : Bool) → (r.low == a + 1) ≡ b
    → IsInOne c (cond b (record { low = a; size = 1 + r.size } ∷ runs) (record { low = a; size = 1 } ∷ r ∷ runs)) → (c ≡ a) ⊎ IsInOne c (r ∷ runs)
only-turn a c r runs true e (inl i) =
    let low = eqb-true r.low (a + 1) e in
    elim (cases_eq c a) [ inl same ↦ inl same | inr off ↦ inr (inl (record { low = omega (arith, i.low, off); end = omega (arith, i.end) })) ]
only-turn a c r runs true e (inr i) = inr (inr i)
only-turn a c r runs false e (inl i) = inl (one-only a c i)
only-turn a c r runs false e (inr i) = inr i

-- and no others
join-only : (a c : ℕ) (runs : List Span) → IsInOne c (join_span a 1 runs) → (c ≡ a) ⊎ IsInOne c runs
join-only a c [] (inl i) = inl (one-only a c i)
join-only a c [] (inr i) = absurd i
join-only a c (r ∷ runs) i = only-turn a c r runs (r.low == a + 1) refl i

has-turn : (test : ℕ → Bool) (a count c : ℕ) (b : Bool) → test a ≡ b → test c ≡ true
    → ((a + 1 ≤ c) × (c < a + 1 + count) → IsInOne c (runs_of test (a + 1) count))
    → (c ≡ a) ⊎ ((a + 1 ≤ c) × (c < a + 1 + count)) → IsInOne c (cond b (join_span a 1 (runs_of test (a + 1) count)) (runs_of test (a + 1) count))
has-turn test a count c true is e later (inl same) = join-has a c (runs_of test (a + 1) count) (inl same)
has-turn test a count c true is e later (inr l) = join-has a c (runs_of test (a + 1) count) (inr (later l))
has-turn test a count c false is e later (inl same) = absurd (both_ways (test a) is (sym (ap test same) ∙ e))
has-turn test a count c false is e later (inr l) = later l

-- each address that passes is in a run
pub run_has : (test : ℕ → Bool) (a count c : ℕ) → a ≤ c → c < a + count → test c ≡ true → IsInOne c (runs_of test a count)
unfolding runs_of
run_has test a zero c low high e = absurd (omega arith)
run_has test a (suc count) c low high e = has-turn test a count c (test a) refl e (λ l. run_has test (a + 1) count c l.0 l.1 e) (first-or a c count low high)

-- an address among them that passes
pub record IsPassing (test : ℕ → Bool) (a count c : ℕ) : Type 0 where
  pub low : a ≤ c
  pub end : c < a + count
  pub passes : test c ≡ true

later-passes : (test : ℕ → Bool) (a count c : ℕ) → IsPassing test (a + 1) count c → IsPassing test a (suc count) c
later-passes test a count c p = record { low = omega (arith, p.low); end = omega (arith, p.end); passes = p.passes }

passes-turn : (test : ℕ → Bool) (a count c : ℕ) (b : Bool) → test a ≡ b
    → (IsInOne c (runs_of test (a + 1) count) → IsPassing test (a + 1) count c)
    → IsInOne c (cond b (join_span a 1 (runs_of test (a + 1) count)) (runs_of test (a + 1) count)) → IsPassing test a (suc count) c
passes-turn test a count c true is later j =
    elim (join-only a c (runs_of test (a + 1) count) j) [
      | inl same ↦ record { low = omega arith; end = omega arith; passes = ap test same ∙ is }
      | inr k ↦ later-passes test a count c (later k)
    ]
passes-turn test a count c false is later j = later-passes test a count c (later j)

-- each address of a run passes
pub run_passes : (test : ℕ → Bool) (a count c : ℕ) → IsInOne c (runs_of test a count) → IsPassing test a count c
unfolding runs_of
run_passes test a zero c i = absurd i
run_passes test a (suc count) c i = passes-turn test a count c (test a) refl (run_passes test (a + 1) count c) i
