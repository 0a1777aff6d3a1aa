-- Which instruction stands at the front of a string of bytes.
use Rattle.std.specs.Prelude.{◌≡◌, ℕ, suc, zero, ◌+◌, ◌≤◌, nat_le, if◌then◌else◌, List, length, take, Option, Some, None}
use Rattle.x86_syntax.specs.declared.instr.Instr.{Instr}
use Rattle.x86_syntax.specs.Spelling.{spelled}

-- the first n bytes are a spelling of i, and n is at most 15, the longest that a processor takes
pub record Decodes (bytes : List ℕ) (i : Instr) (n : ℕ) : Type 0 where
  pub within : n ≤ length bytes
  pub short : n ≤ 15
  pub names : spelled (take n bytes) ≡ Some i

-- some spelling of this length names i
pub record HasSpelling (i : Instr) (len : ℕ) : Type 0 where
  pub bytes : List ℕ
  pub size : length bytes ≡ len
  pub names : spelled bytes ≡ Some i

-- the instruction that the first n bytes spell
unfoldable pub spelled_front : ℕ → List ℕ → Option Instr
spelled_front n bytes = if nat_le n (length bytes) then spelled (take n bytes) else None

-- an answer, or else the next try
abbrev pub or_else : Option Instr → ℕ → Option (Instr × ℕ) → Option (Instr × ℕ)
or_else (Some i) n next = Some (i, n)
or_else None n next = next

-- the first of `tries` fronts, the shortest of n bytes, that is a spelling
unfoldable pub decoded_from : ℕ → ℕ → List ℕ → Option (Instr × ℕ)
decoded_from zero n bytes = None
decoded_from (suc tries) n bytes = or_else (spelled_front n bytes) n (decoded_from tries (n + 1) bytes)

-- the instruction at the front and its length: the fronts of 1 to 15 bytes are tried
unfoldable pub decoded : List ℕ → Option (Instr × ℕ)
decoded bytes = decoded_from 15 1 bytes
