-- Facts on lists of ranges: a front of such a list decides what the whole list maps only together with the rest.
use Rattle.std.proofs.Common.{ℕ, ◌≡◌, ◌+◌, ◌-◌, Bool, true, false, cond, List, [], ◌∷◌, map, Option, Some, None, refl, ap, ◌∙◌, arith, zero, suc}
use Rattle.std.specs.Prelude.{◌&&◌, slice_get, filter, find, option_and_then}
use Rattle.std.specs.List.{list_all}
use Rattle.memory_map.specs.Range.{Range, byte_at, code_at, has, run_of, cons_or_end}
use Rattle.memory_map.specs.Map.{all_apart, are_apart}

pub list_all-map : {X Y : Type 0} (p : Y → Bool) (f : X → Y) (xs : List X) → list_all p (map f xs) ≡ list_all (λ x. p (f x)) xs
list_all-map p f [] = refl
list_all-map p f (x ∷ xs) = ap (λ b. p (f x) && b) (list_all-map p f xs)

pub all_apart-cons : (r : Range) (rs : List Range) → all_apart (r ∷ rs) ≡ (list_all (are_apart r) rs && all_apart rs)
unfolding all_apart
all_apart-cons r rs = refl

-- a look-up finds its byte in the first range that has the address, or else in the others
pub byte_at-here : (r : Range) (rs : List Range) (a : ℕ) → has a r ≡ true → byte_at (r ∷ rs) a ≡ slice_get r.bytes (a - r.low)
unfolding byte_at
byte_at-here r rs a h = ap (λ b. option_and_then (λ (x : Range). slice_get x.bytes (a - x.low)) (cond b (Some r) (find (has a) rs))) h

pub byte_at-there : (r : Range) (rs : List Range) (a : ℕ) → has a r ≡ false → byte_at (r ∷ rs) a ≡ byte_at rs a
unfolding byte_at
byte_at-there r rs a h = ap (λ b. option_and_then (λ (x : Range). slice_get x.bytes (a - x.low)) (cond b (Some r) (find (has a) rs))) h

pub byte_at-none : (a : ℕ) → byte_at [] a ≡ None
unfolding byte_at
byte_at-none a = refl

pub code_at-here : (r : Range) (rs : List Range) (a : ℕ) → r.execute ≡ true → has a r ≡ true → code_at (r ∷ rs) a ≡ slice_get r.bytes (a - r.low)
unfolding code_at
code_at-here r rs a x h =
    ap (λ b. byte_at (cond b (r ∷ filter (λ (s : Range). s.execute) rs) (filter (λ (s : Range). s.execute) rs)) a) x ∙ byte_at-here r _ a h

pub code_at-not_here : (r : Range) (rs : List Range) (a : ℕ) → has a r ≡ false → code_at (r ∷ rs) a ≡ code_at rs a
unfolding code_at
code_at-not_here r rs a h =
    elim r.execute as (λ b. byte_at (cond b (r ∷ filter (λ (s : Range). s.execute) rs) (filter (λ (s : Range). s.execute) rs)) a ≡ byte_at (filter (λ (s : Range). s.execute) rs) a) [
      | true ↦ byte_at-there r _ a h
      | false ↦ refl
    ]

pub code_at-not_code : (r : Range) (rs : List Range) (a : ℕ) → r.execute ≡ false → code_at (r ∷ rs) a ≡ code_at rs a
unfolding code_at
code_at-not_code r rs a x =
    ap (λ b. byte_at (cond b (r ∷ filter (λ (s : Range). s.execute) rs) (filter (λ (s : Range). s.execute) rs)) a) x

pub code_at-none : (a : ℕ) → code_at [] a ≡ None
unfolding code_at
code_at-none a = byte_at-none a

-- a first part that holds
pub and-true : (a b : Bool) → a ≡ true → (a && b) ≡ b
and-true a b h = ap (λ t. t && b) h

pub all_apart-nil : all_apart [] ≡ true
unfolding all_apart
all_apart-nil = refl

-- a run of bytes stops where the look-up gives none, and else goes on
pub run_of-stops : (look : ℕ → Option ℕ) (n a : ℕ) → look a ≡ None → run_of look n a ≡ []
unfolding run_of
run_of-stops look zero a h = refl
run_of-stops look (suc n) a h = ap (λ o. cons_or_end o (run_of look n (a + 1))) h

pub run_of-goes : (look : ℕ → Option ℕ) (n m a b : ℕ) → n ≡ m + 1 → look a ≡ Some b → run_of look n a ≡ b ∷ run_of look m (a + 1)
unfolding run_of
run_of-goes look zero m a b e h = absurd (omega (arith, e))
run_of-goes look (suc n) m a b e h =
    let same : n ≡ m = omega (arith, e) in
    ap (λ o. cons_or_end o (run_of look n (a + 1))) h ∙ ap (λ k. b ∷ run_of look k (a + 1)) same

pub run_of-none : (look : ℕ → Option ℕ) (n a : ℕ) → n ≡ 0 → run_of look n a ≡ []
unfolding run_of
run_of-none look n a h = ap (λ k. run_of look k a) h
