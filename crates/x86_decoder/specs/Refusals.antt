-- When no instruction stands at the front of a string of bytes.
use Rattle.std.specs.Prelude.{◌≡◌, ℕ, zero, suc, ◌+◌, ◌-◌, ◌<◌, Bool, true, false, ◌||◌, List, [], ◌∷◌, ◌++◌, length, take, Some, is_some}
use Rattle.std.specs.List.{list_any, range_with_len}
use Rattle.x86_syntax.specs.declared.instr.Instr.{Instr}
use Rattle.x86_syntax.specs.Spelling.{spelled}
use Rattle.x86_decoder.specs.declared.fault.DecodeFault.{DecodeFault}
use Rattle.x86_decoder.specs.declared.fault.DecodeFault.TheVariants.{NotListed, Truncated, TooLong}

abbrev pub IsSpelling : List ℕ → Type 0
IsSpelling bytes = (i : Instr) × (spelled bytes ≡ Some i)

-- a prefix of a spelling, or a whole one
abbrev pub IsFront : List ℕ → Type 0
IsFront bytes = (rest : List ℕ) × IsSpelling (bytes ++ rest)

-- no spelling begins so, and the byte at this index is the first that none goes on with
pub record LeavesAt (at : ℕ) (bytes : List ℕ) : Type 0 where
  pub within : at < length bytes
  pub before : (i : ℕ) → i < at → IsFront (take (i + 1) bytes)
  pub there : IsFront (take (at + 1) bytes) → ⊥

-- whether one to n bytes more make a spelling
unfoldable pub goes_on : ℕ → List ℕ → Bool
goes_on zero bytes = false
goes_on (suc n) bytes = list_any (λ b. is_some (spelled (bytes ++ b ∷ [])) || goes_on n (bytes ++ b ∷ [])) (range_with_len 0 256)

-- fewer than 15 bytes, and more of them make a spelling of at most 15
abbrev pub is_truncated : List ℕ → Bool
is_truncated bytes = goes_on (15 - length bytes) bytes

abbrev pub GoesOn : List ℕ → Type 0
GoesOn bytes = is_truncated bytes ≡ true

-- why no instruction stands at the front: only the first 15 bytes count
abbrev pub Refused : DecodeFault → List ℕ → Type 0
Refused (NotListed at) bytes = LeavesAt at (take 15 bytes)
Refused Truncated bytes = GoesOn bytes
Refused TooLong bytes = IsFront (take 15 bytes) × (GoesOn bytes → ⊥)
