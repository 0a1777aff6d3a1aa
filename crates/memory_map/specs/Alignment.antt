-- The alignments that a stack pointer may have at the start.
use Rattle.std.specs.Prelude.{ℕ, ◌^◌, Bool, IsTrue, nat_eq}
use Rattle.std.specs.List.{list_any, range_with_len}

-- a power of two from 4 to 4,096: one with an exponent from 2 to 12
abbrev pub is_alignment : ℕ → Bool
is_alignment n = list_any (λ k. nat_eq n (2 ^ k)) (range_with_len 2 11)

abbrev pub IsAlignment : ℕ → Type 0
IsAlignment n = IsTrue (is_alignment n)
