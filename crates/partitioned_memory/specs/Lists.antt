-- Lists in an order, by a test that says of two elements that the first comes before the second.
use Rattle.std.specs.Prelude.{◌≡◌, Bool, true, false, List, [], ◌∷◌, ◌++◌, filter, Option, option_to_list, if◌then◌else◌}

-- a fact holds of each element
abbrev pub Every : {X : Type 0} → (X → Type 0) → List X → Type 0
Every P [] = Unit {0}
Every P (x ∷ xs) = P x × Every P xs

-- each element comes before all later ones
abbrev pub Ascends : {X : Type 0} → (X → X → Bool) → List X → Type 0
Ascends before [] = Unit {0}
Ascends before (x ∷ xs) = Every (λ y. before x y ≡ true) xs × Ascends before xs

-- the list with one more element, which stands after all that come before it
abbrev pub placed : {X : Type 0} → (X → X → Bool) → X → List X → List X
placed before y [] = y ∷ []
placed before y (x ∷ xs) = if before x y then x ∷ placed before y xs else y ∷ x ∷ xs

-- once an element fails a test, so do all later ones
abbrev pub Falls : {X : Type 0} → (X → Bool) → List X → Type 0
Falls t [] = Unit {0}
Falls t (x ∷ xs) = (t x ≡ false → Every (λ y. t y ≡ false) xs) × Falls t xs

-- the elements that pass one test, perhaps a new one, and then those that pass another
abbrev pub around : {X : Type 0} → (X → Bool) → Option X → (X → Bool) → List X → List X
around before new after xs = filter before xs ++ (option_to_list new ++ filter after xs)
