-- Numbers one after another, each with its lowest byte first.
use Rattle.std.specs.Prelude.{ℕ, List, flat_map}
use Rattle.std.specs.Int.{w16, w32, to_le_bytes}

unfoldable pub halves : List ℕ → List ℕ
halves list = flat_map (to_le_bytes w16) list

unfoldable pub words : List ℕ → List ℕ
words list = flat_map (to_le_bytes w32) list
