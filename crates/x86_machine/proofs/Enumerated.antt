-- Bytes at their addresses, taken one after another.
use Rattle.std.proofs.Common.{◌≡◌, ℕ, suc, ◌+◌, ◌<◌, ◌≤◌, Bool, List, [], ◌∷◌, ◌++◌, length, get_or, drop, refl, ◌∙◌, ap, arith}
use Rattle.std.specs.Prelude.{◌&&◌, flat_map, fold}
use Rattle.std.specs.List.{enumerate_from, list_all, range_with_len}
use Rattle.std.proofs.lemmas.List.{drop_all, drop_more}
use Rattle.std.proofs.lemmas.List.Folds.{list_all-append}

pub enumerate_more : (xs : List ℕ) (a i : ℕ) → i < length xs → enumerate_from (a + i) (drop i xs) ≡ (a + i, get_or xs i 0) ∷ enumerate_from (a + (i + 1)) (drop (i + 1) xs)
enumerate_more xs a i h =
    let next : a + i + 1 ≡ a + (i + 1) = omega arith in
    ap (λ l. enumerate_from (a + i) l) (drop_more xs i 0 h) ∙ ap (λ n. (a + i, get_or xs i 0) ∷ enumerate_from n (drop (i + 1) xs)) next

pub enumerate_end : (xs : List ℕ) (n i : ℕ) → length xs ≤ i → enumerate_from n (drop i xs) ≡ []
enumerate_end xs n i h = ap (λ l. enumerate_from n l) (drop_all i xs h)

pub fold-append : {A B : Type 0} (f : B → A → B) (b : B) (xs ys : List A) → fold f b (xs ++ ys) ≡ fold f (fold f b xs) ys
fold-append f b [] ys = refl
fold-append f b (x ∷ xs) ys = fold-append f (f b x) xs ys

pub flat_map_drop : {X A : Type 0} (f : X → List A) (xs : List X) (i : ℕ) (d : X) → i < length xs → flat_map f (drop i xs) ≡ f (get_or xs i d) ++ flat_map f (drop (i + 1) xs)
flat_map_drop f xs i d h = ap (flat_map f) (drop_more xs i d h)

pub flat_map_end : {X A : Type 0} (f : X → List A) (xs : List X) (i : ℕ) → length xs ≤ i → flat_map f (drop i xs) ≡ []
flat_map_end f xs i h = ap (flat_map f) (drop_all i xs h)

pub all_of_flat : {X A : Type 0} (p : A → Bool) (f : X → List A) (xs : List X) → list_all p (flat_map f xs) ≡ list_all (λ x. list_all p (f x)) xs
all_of_flat p f [] = refl
all_of_flat p f (x ∷ xs) = list_all-append p (f x) (flat_map f xs) ∙ ap (λ b. list_all p (f x) && b) (all_of_flat p f xs)

pub range_more : (a n : ℕ) → range_with_len a (suc n) ≡ a ∷ range_with_len (a + 1) n
range_more a n = refl
