-- The imported names of a file, in the order in which they are first seen, each once.
use Rattle.std.specs.Prelude.{◌≡◌, ◌≤◌, length, true, ℕ, Bool, List, [], ◌∷◌, ◌++◌, if◌then◌else◌, nat_eq}
use Rattle.std.specs.List.{list_all, list_any, position_or_len}
use Rattle.memory_map.specs.Name.{MOST_NAMES, is_name}
use Rattle.std.specs.Cmp.Lexicographic.{pointwise}

-- whether a name is among others
unfoldable pub is_named : List (List ℕ) → List ℕ → Bool
is_named names name = list_any (pointwise nat_eq name) names

-- the index of a name among others, or of the place after the last one
unfoldable pub index_of : List (List ℕ) → List ℕ → ℕ
index_of names name = position_or_len (pointwise nat_eq name) names

-- names together with one more, which goes last where it is not among them
unfoldable pub with_name : List (List ℕ) → List ℕ → List (List ℕ)
with_name names name = if is_named names name then names else names ++ name ∷ []

-- what a list of names keeps
pub record AreNames (list : List (List ℕ)) : Type 0 where
  pub names : list_all is_name list ≡ true
  pub few : length list ≤ MOST_NAMES
