-- Runs of addresses end below the last one.
use Rattle.std.proofs.Common.{◌≡◌, ℕ, zero, suc, ◌+◌, ◌-◌, ◌^◌, ◌<◌, ◌≤◌, Bool, true, false, cond, List, [], ◌∷◌, refl, sym, ◌∙◌, ap, subst, arith}
use Rattle.std.specs.Prelude.{reverse, ◌==◌}
use Rattle.memory_map.specs.declared.span.Span.{Span}
use Rattle.memory_map.specs.Spans.{join_span, runs_of}
use Rattle.partitioned_memory.specs.Lists.{Every}
use Rattle.abstract_state.proofs.Covering.{nat-same}

runs-none : (test : ℕ → Bool) (a : ℕ) → runs_of test a 0 ≡ []
unfolding runs_of
runs-none test a = refl

runs-more : (test : ℕ → Bool) (a i : ℕ) → runs_of test a (suc i) ≡ cond (test a) (join_span a 1 (runs_of test (a + 1) i)) (runs_of test (a + 1) i)
unfolding runs_of
runs-more test a i = refl

join-within : (a e : ℕ) (rs : List Span) → a + 1 ≤ e → Every (λ s. s.low + s.size ≤ e) rs → Every (λ s. s.low + s.size ≤ e) (join_span a 1 rs)
join-within a e [] below h = (below, tt)
join-within a e (r ∷ rs) below h =
    elim (r.low == a + 1) as (λ b. (r.low == a + 1) ≡ b → Every (λ s. s.low + s.size ≤ e) (cond b (record { low = a; size = 1 + r.size } ∷ rs) (record { low = a; size = 1 } ∷ r ∷ rs))) [
      | true ↦ λ q. let same : r.low ≡ a + 1 = nat-same r.low (a + 1) q in let first = h.0 in (omega (arith, same, first), h.1)
      | false ↦ λ q. (below, h)
    ] refl

runs-within : (test : ℕ → Bool) (a n e : ℕ) → a + n ≤ e → Every (λ s. s.low + s.size ≤ e) (runs_of test a n)
runs-within test a zero e below = subst (Every (λ s. s.low + s.size ≤ e)) (sym (runs-none test a)) tt
runs-within test a (suc n) e below =
    let rest = runs-within test (a + 1) n e (omega arith) in
    subst (Every (λ s. s.low + s.size ≤ e)) (sym (runs-more test a n))
    (elim (test a) as (λ b. Every (λ s. s.low + s.size ≤ e) (cond b (join_span a 1 (runs_of test (a + 1) n)) (runs_of test (a + 1) n))) [
      | true ↦ join-within a e (runs_of test (a + 1) n) (omega arith) rest
      | false ↦ rest
    ])

pub within-from : (test : ℕ → Bool) (a n : ℕ) (runs : List Span) → a + n ≤ 2 ^ 32 → runs ≡ runs_of test a n → Every (λ s. s.low + s.size ≤ 2 ^ 32) runs
within-from test a n runs below e = subst (Every (λ s. s.low + s.size ≤ 2 ^ 32)) (sym e) (runs-within test a n (2 ^ 32) (omega arith))

pub among-runs : (test : ℕ → Bool) (a n : ℕ) (runs : List Span) → runs ≡ runs_of test a ((a + n) - a) → runs ≡ runs_of test a n
among-runs test a n runs e =
    let all : (a + n) - a ≡ n = omega arith in
    e ∙ ap (runs_of test a) all
