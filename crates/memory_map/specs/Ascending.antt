-- Lists in which each element stands above the one before it.
use Rattle.std.specs.Prelude.{Bool, true, ◌&&◌, List, [], ◌∷◌}

-- each element comes before the next one
abbrev pub ascend : {X : Type 0} → (X → X → Bool) → List X → Bool
ascend before [] = true
ascend before (x ∷ []) = true
ascend before (x ∷ y ∷ ys) = before x y && ascend before (y ∷ ys)
