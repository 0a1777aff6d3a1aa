-- Lists in order with each member once.
use Rattle.std.specs.Prelude.{◌≡◌, List, [], ◌∷◌, fold}
use Rattle.std.specs.declared.cmp.Ordering.{Ordering}
use Rattle.std.specs.declared.cmp.Ordering.TheVariants.{Less, Equal, Greater}

-- equal by the order is the same
pub record IsExact {X : Type 0} (cmp : X → X → Ordering) : Type 0 where
  pub same : (x y : X) → cmp x y ≡ Equal → x ≡ y

module _ {X : Type 0} (cmp : X → X → Ordering) where
  abbrev pub by_order : Ordering → List X → List X → List X → List X
  by_order Less before same after = before
  by_order Equal before same after = same
  by_order Greater before same after = after

  -- a member put at its place, unless it is there
  abbrev pub insert_once : X → List X → List X
  insert_once x [] = x ∷ []
  insert_once x (y ∷ ys) = by_order (cmp x y) (x ∷ y ∷ ys) (y ∷ ys) (y ∷ insert_once x ys)

  -- the members of a list in ascending order, each once
  unfoldable pub ordered_set : List X → List X
  ordered_set xs = fold (λ set x. insert_once x set) [] xs
