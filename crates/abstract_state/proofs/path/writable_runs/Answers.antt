use Rattle.std.proofs.Common.{◌≡◌, ◌+◌, ◌-◌, map, ◌∙◌, ap, arith, ℕ, Bool, rules}
use Rattle.memory_map.specs.Map.{range_of}
use Rattle.memory_map.specs.Range.{may_write}
use Rattle.memory_map.specs.Spans.{runs_of}
use Rattle.abstract_state.proofs.Counting.{among-runs, within-from}
use Rattle.abstract_state.proofs.path.writable_runs.Goals as goal

low_is : (test : ℕ → Bool) (low a n : ℕ) → low ≡ a → runs_of test low ((low + n) - low) ≡ runs_of test a ((a + n) - a)
low_is test low a n e = ap (λ x. runs_of test x ((x + n) - x)) e

pub returns-clause-runs : goal.returns-clause-runs
returns-clause-runs c = among-runs (may_write (map range_of c.args.segments.now)) c.args.a c.args.n _ (c.in_ok-writable_runs.ensures ∙ low_is (may_write (map range_of c.args.segments.now)) c.from-low.result c.args.a c.args.n (search rules))

pub returns-clause-within : goal.returns-clause-within
returns-clause-within c =
    within-from (may_write (map range_of c.args.segments.now)) c.args.a c.args.n _ (omega (arith, c.requires))
    (among-runs (may_write (map range_of c.args.segments.now)) c.args.a c.args.n _ (c.in_ok-writable_runs.ensures ∙ low_is (may_write (map range_of c.args.segments.now)) c.from-low.result c.args.a c.args.n (search rules)))
