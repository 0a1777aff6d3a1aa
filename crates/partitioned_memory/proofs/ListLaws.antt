-- Laws of lists in an order.
use Rattle.std.proofs.Common.{◌≡◌, ℕ, ◌+◌, Bool, true, false, cond, List, [], ◌∷◌, length, map, filter, Some, refl, sym, ap, ◌∙◌}
use Rattle.std.specs.Prelude.{◌||◌, find}
use Rattle.std.proofs.Math.Numerals.{one-add}
use Rattle.std.specs.List.{take_while, insert, prefix_len, list_any}
use Rattle.std.proofs.lemmas.Bool.{false≢true}
use Rattle.std.proofs.lemmas.List.Folds.{length-prefix_len}
use Rattle.partitioned_memory.specs.Lists.{Every, Ascends, placed}

-- ---- what holds of each element

pub Every-weaker : {X : Type 0} (P Q : X → Type 0) (xs : List X) → ((x : X) → P x → Q x) → Every P xs → Every Q xs
Every-weaker P Q [] f h = tt
Every-weaker P Q (x ∷ xs) f h = (f x h.0, Every-weaker P Q xs f h.1)

pub Every-both : {X : Type 0} (P Q R : X → Type 0) (xs : List X) → ((x : X) → P x → Q x → R x) → Every P xs → Every Q xs → Every R xs
Every-both P Q R [] f h k = tt
Every-both P Q R (x ∷ xs) f h k = (f x h.0 k.0, Every-both P Q R xs f h.1 k.1)

pub Every-filter : {X : Type 0} (P : X → Type 0) (t : X → Bool) (xs : List X) → Every P xs → Every P (filter t xs)
Every-filter P t [] h = tt
Every-filter P t (x ∷ xs) h =
    elim (t x) as (λ b. Every P (cond b (x ∷ filter t xs) (filter t xs))) [
      | true ↦ (h.0, Every-filter P t xs h.1)
      | false ↦ Every-filter P t xs h.1
    ]

pub Every-kept : {X : Type 0} (t : X → Bool) (xs : List X) → Every (λ x. t x ≡ true) (filter t xs)
Every-kept t [] = tt
Every-kept t (x ∷ xs) =
    elim (t x) as (λ b. t x ≡ b → Every (λ y. t y ≡ true) (cond b (x ∷ filter t xs) (filter t xs))) [
      | true ↦ λ e. (e, Every-kept t xs)
      | false ↦ λ e. Every-kept t xs
    ] refl

pub Every-map : {X Y : Type 0} (P : X → Type 0) (Q : Y → Type 0) (f : X → Y) (xs : List X) → ((x : X) → P x → Q (f x)) → Every P xs → Every Q (map f xs)
Every-map P Q f [] g h = tt
Every-map P Q f (x ∷ xs) g h = (g x h.0, Every-map P Q f xs g h.1)

pub Every-placed : {X : Type 0} (P : X → Type 0) (t : X → X → Bool) (y : X) (xs : List X) → P y → Every P xs → Every P (placed t y xs)
Every-placed P t y [] p h = (p, tt)
Every-placed P t y (x ∷ xs) p h =
    elim (t x y) as (λ b. Every P (cond b (x ∷ placed t y xs) (y ∷ x ∷ xs))) [
      | true ↦ (h.0, Every-placed P t y xs p h.1)
      | false ↦ (p, h)
    ]

-- no element passes a test that a list fails
pub Every-none : {X : Type 0} (t : X → Bool) (xs : List X) → list_any t xs ≡ false → Every (λ x. t x ≡ false) xs
Every-none t [] e = tt
Every-none t (x ∷ xs) e =
    elim (t x) as (λ b. t x ≡ b → (b || list_any t xs) ≡ false → Every (λ y. t y ≡ false) (x ∷ xs)) [
      | true ↦ λ p q. absurd (false≢true (sym q))
      | false ↦ λ p q. (p, Every-none t xs q)
    ] refl e

-- ---- tests that agree

pub filter-by : {X : Type 0} (p q : X → Bool) (xs : List X) → Every (λ x. p x ≡ q x) xs → filter p xs ≡ filter q xs
filter-by p q [] h = refl
filter-by p q (x ∷ xs) h = ap (λ b. cond b (x ∷ filter p xs) (filter p xs)) h.0 ∙ ap (λ ys. cond (q x) (x ∷ ys) ys) (filter-by p q xs h.1)

pub find-same : {X : Type 0} (p q : X → Bool) → ((x : X) → p x ≡ q x) → (xs : List X) → find p xs ≡ find q xs
find-same p q h [] = refl
find-same p q h (x ∷ xs) = ap (λ b. cond b (Some x) (find p xs)) (h x) ∙ ap (λ r. cond (q x) (Some x) r) (find-same p q h xs)

-- ---- lists in an order

pub Ascends-filter : {X : Type 0} (t : X → X → Bool) (p : X → Bool) (xs : List X) → Ascends t xs → Ascends t (filter p xs)
Ascends-filter t p [] h = tt
Ascends-filter t p (x ∷ xs) h =
    elim (p x) as (λ b. Ascends t (cond b (x ∷ filter p xs) (filter p xs))) [
      | true ↦ (Every-filter (λ y. t x y ≡ true) p xs h.0, Ascends-filter t p xs h.1)
      | false ↦ Ascends-filter t p xs h.1
    ]

pub Ascends-map : {X : Type 0} (t : X → X → Bool) (f : X → X) (xs : List X) → ((x y : X) → t x y ≡ true → t (f x) (f y) ≡ true) → Ascends t xs → Ascends t (map f xs)
Ascends-map t f [] k h = tt
Ascends-map t f (x ∷ xs) k h =
    (Every-map (λ y. t x y ≡ true) (λ y. t (f x) y ≡ true) f xs (k x) h.0, Ascends-map t f xs k h.1)

pub Ascends-placed : {X : Type 0} (t : X → X → Bool) (trans : (x y z : X) → t x y ≡ true → t y z ≡ true → t x z ≡ true) (y : X) (xs : List X) → Ascends t xs → Every (λ x. (t x y || t y x) ≡ true) xs → Ascends t (placed t y xs)
Ascends-placed t trans y [] h off = (tt, tt)
Ascends-placed t trans y (x ∷ xs) h off =
    elim (t x y) as (λ b. t x y ≡ b → (b || t y x) ≡ true → Ascends t (cond b (x ∷ placed t y xs) (y ∷ x ∷ xs))) [
      | true ↦ λ e o. (Every-placed (λ z. t x z ≡ true) t y xs e h.0, Ascends-placed t trans y xs h.1 off.1)
      | false ↦ λ e o. ((o, Every-weaker (λ z. t x z ≡ true) (λ z. t y z ≡ true) xs (λ z k. trans y x z o k) h.0), h)
    ] refl off.0

-- ---- placing by `insert`

insert-more : {X : Type 0} (x y : X) (xs : List X) (n : ℕ) → insert (x ∷ xs) (1 + n) y ≡ x ∷ insert xs n y
insert-more x y xs n = ap (λ k. insert (x ∷ xs) k y) (one-add n)

insert-prefix : {X : Type 0} (before : X → X → Bool) (y : X) (xs : List X) → insert xs (prefix_len (λ x. before x y) xs) y ≡ placed before y xs
insert-prefix before y [] = refl
insert-prefix before y (x ∷ xs) =
    elim (before x y) as (λ b. insert (x ∷ xs) (cond b (1 + prefix_len (λ z. before z y) xs) 0) y ≡ cond b (x ∷ placed before y xs) (y ∷ x ∷ xs)) [
      | true ↦ insert-more x y xs (prefix_len (λ z. before z y) xs) ∙ ap (λ ys. x ∷ ys) (insert-prefix before y xs)
      | false ↦ refl
    ]

-- to insert after the front that comes before an element is to place it
pub placed-at : {X : Type 0} (before : X → X → Bool) (y : X) (xs : List X) → insert xs (length (take_while (λ x. before x y) xs)) y ≡ placed before y xs
placed-at before y xs = ap (λ k. insert xs k y) (length-prefix_len (λ x. before x y) xs) ∙ insert-prefix before y xs

-- the same, as a call of `insert` says it
pub placed-from : {X : Type 0} (before : X → X → Bool) (y : X) (xs ys zs : List X) (at : ℕ) → xs ≡ zs → at ≡ length (take_while (λ x. before x y) zs) → ys ≡ insert xs at y → ys ≡ placed before y zs
placed-from before y xs ys zs at s e h =
    h ∙ ap (λ l. insert l at y) s ∙ ap (λ k. insert zs k y) e ∙ placed-at before y zs
