-- The lines of a text: ASCII, each ended by one byte 0A.
use Rattle.std.specs.Prelude.{ℕ, List, [], ◌∷◌}

-- the end of a line
abbrev pub newline : List ℕ
newline = 10 ∷ []

-- what stands between two fields
abbrev pub space : List ℕ
space = 32 ∷ []
