-- Sets of byte strings that are read from the front.
use Rattle.std.specs.Prelude.{ℕ, suc, zero, ◌+◌, ◌*◌, List, [], ◌∷◌, Option, Some, None}

-- a set of byte strings, each with what it names: the empty string alone, no string, or a byte
-- with what may follow that byte
pub data Format (A : Type 0) : Type 0 where
  Whole : A → Format A
  Never : Format A
  Byte : (ℕ → Format A) → Format A

-- what the whole string names, where the set has it
unfoldable pub matched : {A : Type 0} → Format A → List ℕ → Option A
matched (Whole a) [] = Some a
matched (Byte next) (b ∷ bytes) = matched (next b) bytes
matched _ _ = None

-- n bytes, the least first, and then what follows their number
abbrev pub number_then : {A : Type 0} → ℕ → (ℕ → Format A) → Format A
number_then zero go = go 0
number_then (suc n) go = Byte (λ low. number_then n (λ high. go (low + 256 * high)))

-- the number that bytes stand for, the least first
abbrev pub little_endian : List ℕ → ℕ
little_endian [] = 0
little_endian (low ∷ bytes) = low + 256 * little_endian bytes
