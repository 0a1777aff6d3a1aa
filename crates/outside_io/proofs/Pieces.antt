-- What a sink gained by one piece after another.
use Rattle.std.proofs.Common.{◌≡◌, ℕ, ◌+◌, ◌-◌, ◌≤◌, List, ◌++◌, take, drop, length, Option, Some, None, arith, ◌∙◌, ap, min, refl}
use Rattle.std.proofs.lemmas.List.{take-take, drop-take, take-append-drop, length-take, length-drop, append_assoc}
use Rattle.outside_io.specs.Outside.{Gained}

-- the first m bytes of the k bytes from place a on
abbrev pub piece : List ℕ → ℕ → ℕ → ℕ → List ℕ
piece xs a k m = take m (take k (drop a xs))

pub length-piece : (xs : List ℕ) (a k m : ℕ) → length (piece xs a k m) ≡ min m (min k (length xs - a))
length-piece xs a k m = rw (length-take m (take k (drop a xs)), length-take k (drop a xs), length-drop a xs) refl

-- a piece ends within the list
pub piece_within : (xs : List ℕ) (a k m n : ℕ) → a ≤ length xs → n ≤ length (piece xs a k m) → a + n ≤ length xs
piece_within xs a k m n start within = let size = length-piece xs a k m in omega arith

-- the first bytes of a piece continue what was taken before
pub take_piece : (xs : List ℕ) (a k m n : ℕ) → n ≤ length (piece xs a k m) → take a xs ++ take n (piece xs a k m) ≡ take (a + n) xs
take_piece xs a k m n within =
    let size = length-piece xs a k m in
    let inner : n ≤ m = omega arith in
    let outer : n ≤ k = omega arith in
    let before : a ≤ a + n = omega arith in
    rw (take-take n m (take k (drop a xs)) inner, take-take n k (drop a xs) outer, ← drop-take a n xs, ← take-take a (a + n) xs before)
    (take-append-drop a (take (a + n) xs))

-- two gains in a row are one
pub gained_then : (a b c : Option (List ℕ)) (xs ys : List ℕ) → Gained a b xs → Gained b c ys → Gained a c (xs ++ ys)
gained_then None None c xs ys first more = more
gained_then None (Some now) c xs ys first more = let never : ⊥ = cc in absurd never
gained_then (Some old) None c xs ys first more = let never : ⊥ = cc in absurd never
gained_then (Some old) (Some now) c xs ys first more =
    let same : now ≡ old ++ xs = cc in
    more ∙ ap Some (ap (λ held. held ++ ys) same ∙ append_assoc old xs ys)

pub gained_piece : (a b c : Option (List ℕ)) (xs : List ℕ) (at k m n : ℕ) → Gained a b (take at xs) → n ≤ length (piece xs at k m) → Gained b c (take n (piece xs at k m)) → Gained a c (take (at + n) xs)
gained_piece a b c xs at k m n before within more =
    rw (← take_piece xs at k m n within) (gained_then a b c (take at xs) (take n (piece xs at k m)) before more)
