-- Bytes one after another: the first, and the others.
use Rattle.std.proofs.Common.{ℕ, zero, suc, ◌≡◌, ◌+◌, ◌/◌, ◌%◌, true, false, List, ap, ◌∙◌, arith}
use Rattle.std.specs.Prelude.{◌&&◌}
use Rattle.memory_map.specs.Range.{Range, may_write}
use Rattle.memory_map.specs.State.{MachineState}
use Rattle.x86_semantics.specs.Memory.{may_write_all, next_byte, with_number, with_byte}

all-step : (ranges : List Range) (n k a : ℕ) → n ≡ k + 1 → may_write_all ranges n a ≡ (may_write ranges a && may_write_all ranges k (next_byte a))
unfolding may_write_all
all-step ranges zero k a e = absurd (omega (arith, e))
all-step ranges (suc n) k a e = (let same : n ≡ k = omega (arith, e) in ap (λ j. may_write ranges a && may_write_all ranges j (next_byte a)) same)

pub all-goes : (ranges : List Range) (n k a : ℕ) → n ≡ k + 1 → may_write ranges a ≡ true → may_write_all ranges n a ≡ may_write_all ranges k (next_byte a)
all-goes ranges n k a e h = all-step ranges n k a e ∙ ap (λ b. b && may_write_all ranges k (next_byte a)) h

pub all-stops : (ranges : List Range) (n k a : ℕ) → n ≡ k + 1 → may_write ranges a ≡ false → may_write_all ranges n a ≡ false
all-stops ranges n k a e h = all-step ranges n k a e ∙ ap (λ b. b && may_write_all ranges k (next_byte a)) h

pub all-none : (ranges : List Range) (n a : ℕ) → n ≡ 0 → may_write_all ranges n a ≡ true
unfolding may_write_all
all-none ranges n a e = ap (λ k. may_write_all ranges k a) e

pub number-step : (n k a v : ℕ) (m : MachineState) → n ≡ k + 1 → with_number n a v m ≡ with_number k (next_byte a) (v / 256) (with_byte a (v % 256) m)
unfolding with_number
number-step zero k a v m e = absurd (omega (arith, e))
number-step (suc n) k a v m e = (let same : n ≡ k = omega (arith, e) in ap (λ j. with_number j (next_byte a) (v / 256) (with_byte a (v % 256) m)) same)

pub number-none : (n a v : ℕ) (m : MachineState) → n ≡ 0 → with_number n a v m ≡ m
unfolding with_number
number-none n a v m e = ap (λ k. with_number k a v m) e
