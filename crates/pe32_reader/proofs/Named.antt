-- A name more.
use Rattle.std.proofs.Common.{ℕ, ◌+◌, ◌≤◌, Bool, true, false, cond, List, [], ◌∷◌, ◌++◌, length, arith}
use Rattle.std.proofs.lemmas.List.{length-append}
use Rattle.file_pieces.specs.Names.{is_named, with_name}

pub length-with_name : (names : List (List ℕ)) (name : List ℕ) → length (with_name names name) ≤ length names + 1
unfolding with_name
length-with_name names name = by (is_named names name)
  where
    by : (t : Bool) → length (cond t names (names ++ name ∷ [])) ≤ length names + 1
    by true = omega arith
    by false = omega (arith, length-append names (name ∷ []))
