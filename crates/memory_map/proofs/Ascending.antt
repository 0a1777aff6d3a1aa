-- Lists that ascend, as a walk along neighbours finds them.
use Rattle.std.proofs.Common.{◌≡◌, ℕ, suc, zero, ◌+◌, ◌<◌, Bool, true, false, List, [], ◌∷◌, length, get_or, refl, sym, ap, ◌∙◌, subst, arith}
use Rattle.std.specs.Prelude.{◌&&◌}
use Rattle.std.specs.List.{IsAllAdjacentAnswer}
use Rattle.std.proofs.lemmas.Bool.{and_from}
use Rattle.std.proofs.Math.Bool.{and-false}
use Rattle.memory_map.specs.Ascending.{ascend}

each-neighbour : {X : Type 0} (before : X → X → Bool) (xs : List X) → ((k n : ℕ) (d : X) → n ≡ k + 1 → n < length xs → true ≡ before (get_or xs k d) (get_or xs n d)) → ascend before xs ≡ true
each-neighbour before [] h = refl
each-neighbour before (x ∷ []) h = refl
each-neighbour before (x ∷ y ∷ ys) h =
    and_from (before x y) (ascend before (y ∷ ys)) (sym (h 0 1 x refl (omega arith)))
    (each-neighbour before (y ∷ ys) (λ k n d e l. h (suc k) (suc n) d (omega (arith, e)) (omega (arith, l))))

some-neighbour : {X : Type 0} (before : X → X → Bool) (xs : List X) (k n : ℕ) → n ≡ k + 1 → n < length xs → ((d : X) → false ≡ before (get_or xs k d) (get_or xs n d)) → ascend before xs ≡ false
some-neighbour before [] k n e l h = absurd (omega (arith, l))
some-neighbour before (x ∷ []) k n e l h = absurd (omega (arith, e, l))
some-neighbour before (x ∷ y ∷ ys) k zero e l h = absurd (omega (arith, e))
some-neighbour before (x ∷ y ∷ ys) zero (suc n) e l h =
    let next : n ≡ zero = omega (arith, e) in
    let first : false ≡ before x y = subst (λ j. false ≡ before x (get_or (y ∷ ys) j x)) next (h x) in
    ap (λ s. s && ascend before (y ∷ ys)) (sym first)
some-neighbour before (x ∷ y ∷ ys) (suc k) (suc n) e l h =
    ap (λ s. before x y && s) (some-neighbour before (y ∷ ys) k n (omega (arith, e)) (omega (arith, l)) h) ∙ and-false (before x y)

pub sorted : {X : Type 0} (before : X → X → Bool) (xs : List X) (r : Bool) → IsAllAdjacentAnswer (λ x y b. b ≡ before x y) xs r → r ≡ ascend before xs
sorted before xs true h = sym (each-neighbour before xs (λ k n d e l. subst (λ j. true ≡ before (get_or xs k d) (get_or xs j d)) (sym e) (h k d (omega (arith, e, l)))))
sorted before xs false h = sym (some-neighbour before xs h.0 (h.0 + 1) refl h.1 h.2)
