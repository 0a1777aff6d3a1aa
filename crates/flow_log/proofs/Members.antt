-- Members of lists, and the rows at a location.
use Rattle.std.proofs.Common.{◌≡◌, ℕ, zero, suc, ◌+◌, ◌<◌, ◌≤◌, ◌⊎◌, Bool, true, false, List, [], ◌∷◌, ◌++◌, length, map, refl, sym, ◌∙◌, ap, subst, inl, inr, arith, cond, Option, Some, None}
use Rattle.std.specs.Prelude.{Contains, filter, filter_map, flat_map, ◌==◌, nat_eq, slice_get}
use Rattle.std.specs.List.{list_any, cons_option, enumerate_from}
use Rattle.std.proofs.lemmas.Option.{slice_get_read}
use Rattle.std.proofs.lemmas.List.Elements.{Contains-append_right, Contains-append_left, Contains-append_cases}
use Rattle.flow_log.specs.Log.{Row, states_at}

pub Contains-here : {X : Type 0} (x : X) (xs : List X) → Contains (x ∷ xs) x
Contains-here x xs = (0, omega arith, refl)

pub Contains-later : {X : Type 0} (y x : X) (xs : List X) → Contains xs x → Contains (y ∷ xs) x
Contains-later y x xs held = Contains-append_right (y ∷ []) xs x held

pub Contains-none : {X : Type 0} (x : X) → Contains [] x → ⊥
Contains-none x held = omega (arith, held.1)

-- the only member of a list of one
only : {X : Type 0} (y x : X) → Contains (y ∷ []) x → y ≡ x
only y x (zero, below, at) = at
only y x (suc k, below, at) = absurd (omega arith)

pub Contains-cases : {X : Type 0} (y x : X) (xs : List X) → Contains (y ∷ xs) x → (y ≡ x) ⊎ Contains xs x
Contains-cases y x xs held = elim (Contains-append_cases (y ∷ []) xs x held) [ inl h ↦ inl (only y x h) | inr h ↦ inr h ]

-- where a row at a location passes a test of its state
pub record IsRowAt {S : Type 0} (test : S → Bool) (location : ℕ) (rows : List (Row S)) : Type 0 where
  pub row : Row S
  pub in_rows : Contains rows row
  pub located : row.location ≡ location
  pub passes : test row.state ≡ true

later : {S : Type 0} (test : S → Bool) (location : ℕ) (r : Row S) (rows : List (Row S)) → IsRowAt test location rows → IsRowAt test location (r ∷ rows)
later test location r rows h = record { row = h.row; in_rows = Contains-later r h.row rows h.in_rows; located = h.located; passes = h.passes }

eq_of : (m n : ℕ) → nat_eq m n ≡ true → m ≡ n
eq_of m n h = grind arith

here_or : {S : Type 0} (test : S → Bool) (location : ℕ) (r : Row S) (rows : List (Row S)) (at passes : Bool)
    → nat_eq r.location location ≡ at → test r.state ≡ passes
    → (list_any test (states_at location rows) ≡ true → IsRowAt test location rows)
    → list_any test (map (λ row. row.state) (cond at (r ∷ filter (λ row. row.location == location) rows) (filter (λ row. row.location == location) rows))) ≡ true
    → IsRowAt test location (r ∷ rows)
unfolding states_at
here_or test location r rows true true at passes rest any = record { row = r; in_rows = Contains-here r rows; located = eq_of r.location location at; passes = passes }
here_or test location r rows true false at passes rest any = later test location r rows (rest (let e : list_any test (map (λ row. row.state) (filter (λ row. row.location == location) rows)) ≡ true = rw passes at any in e))
here_or test location r rows false passes at tested rest any = later test location r rows (rest any)

pub row_of_any : {S : Type 0} (test : S → Bool) (location : ℕ) (rows : List (Row S)) → list_any test (states_at location rows) ≡ true → IsRowAt test location rows
unfolding states_at
row_of_any test location [] any = cc
row_of_any test location (r ∷ rows) any = here_or test location r rows (nat_eq r.location location) (test r.state) refl refl (row_of_any test location rows) any

-- a number within the first part of a list finds there what it finds in the whole
pub slice_get-append : {X : Type 0} (xs ys : List X) (k : ℕ) (x : X) → slice_get xs k ≡ Some x → slice_get (xs ++ ys) k ≡ Some x
slice_get-append [] ys k x h = cc
slice_get-append (y ∷ xs) ys zero x h = h
slice_get-append (y ∷ xs) ys (suc k) x h = slice_get-append xs ys k x h

pub slice_get-append_back : {X : Type 0} (xs ys : List X) (k : ℕ) (x : X) → k < length xs → slice_get (xs ++ ys) k ≡ Some x → slice_get xs k ≡ Some x
slice_get-append_back [] ys k x within h = absurd (omega arith)
slice_get-append_back (y ∷ xs) ys zero x within h = h
slice_get-append_back (y ∷ xs) ys (suc k) x within h = slice_get-append_back xs ys k x (omega arith) h

pub Contains-slice_get : {X : Type 0} (xs : List X) (k : ℕ) (x : X) → slice_get xs k ≡ Some x → Contains xs x
Contains-slice_get [] k x h = cc
Contains-slice_get (y ∷ xs) zero x h = (let e : y ≡ x = cc in let P = λ (z : _). Contains (z ∷ xs) x in subst P (sym e) (Contains-here x xs))
Contains-slice_get (y ∷ xs) (suc k) x h = Contains-later y x xs (Contains-slice_get xs k x h)

pub slice_get-last : {X : Type 0} (xs : List X) (x : X) → slice_get (xs ++ x ∷ []) (length xs) ≡ Some x
slice_get-last [] x = refl
slice_get-last (y ∷ xs) x = slice_get-last xs x

pub lt_or_le : (m n : ℕ) → (m < n) ⊎ (n ≤ m)
lt_or_le m zero = inr (omega arith)
lt_or_le zero (suc n) = inl (omega arith)
lt_or_le (suc m) (suc n) = elim (lt_or_le m n) [ inl h ↦ inl (omega arith) | inr h ↦ inr (omega arith) ]

pub Contains-map : {X Y : Type 0} (f : X → Y) (xs : List X) (x : X) → Contains xs x → Contains (map f xs) (f x)
Contains-map f [] x held = absurd (Contains-none x held)
Contains-map {X} {Y} f (y ∷ xs) x held =
    elim (Contains-cases y x xs held) [
      | inl e ↦ (let P : X → Type 0 = λ z. Contains (f y ∷ map f xs) (f z) in subst P e (Contains-here (f y) (map f xs)))
      | inr h ↦ Contains-later (f y) (f x) (map f xs) (Contains-map f xs x h)
    ]

pub Contains-flat_map : {X Y : Type 0} (f : X → List Y) (xs : List X) (x : X) (y : Y) → Contains xs x → Contains (f x) y → Contains (flat_map f xs) y
Contains-flat_map f [] x y held from = absurd (Contains-none x held)
Contains-flat_map {X} {Y} f (z ∷ xs) x y held from =
    elim (Contains-cases z x xs held) [
      | inl e ↦ (let P : X → Type 0 = λ w. Contains (f w) y in Contains-append_left (f z) (flat_map f xs) y (subst P (sym e) from))
      | inr h ↦ Contains-append_right (f z) (flat_map f xs) y (Contains-flat_map f xs x y h from)
    ]

filtered_here : {X : Type 0} (p : X → Bool) (x : X) (xs : List X) → p x ≡ true → Contains (filter p (x ∷ xs)) x
filtered_here p x xs passes = rw passes (Contains-here x (filter p xs))

filtered_later : {X : Type 0} (p : X → Bool) (y x : X) (xs : List X) → Contains (filter p xs) x → Contains (filter p (y ∷ xs)) x
filtered_later p y x xs held = elim (p y) as (λ b. Contains (cond b (y ∷ filter p xs) (filter p xs)) x) [ true ↦ Contains-later y x (filter p xs) held | false ↦ held ]

pub Contains-filter : {X : Type 0} (p : X → Bool) (xs : List X) (x : X) → Contains xs x → p x ≡ true → Contains (filter p xs) x
Contains-filter p [] x held passes = absurd (Contains-none x held)
Contains-filter {X} p (y ∷ xs) x held passes =
    elim (Contains-cases y x xs held) [
      | inl e ↦ (let P : X → Type 0 = λ z. Contains (filter p (z ∷ xs)) x in subst P (sym e) (filtered_here p x xs passes))
      | inr h ↦ filtered_later p y x xs (Contains-filter p xs x h passes)
    ]

mapped_later : {X Y : Type 0} (h : X → Option Y) (z : X) (y : Y) (xs : List X) → Contains (filter_map h xs) y → Contains (filter_map h (z ∷ xs)) y
mapped_later h z y xs held = elim (h z) as (λ o. Contains (cons_option o (filter_map h xs)) y) [ None ↦ held | Some w ↦ Contains-later w y (filter_map h xs) held ]

pub Contains-filter_map : {X Y : Type 0} (h : X → Option Y) (xs : List X) (x : X) (y : Y) → Contains xs x → h x ≡ Some y → Contains (filter_map h xs) y
Contains-filter_map h [] x y held gives = absurd (Contains-none x held)
Contains-filter_map {X} {Y} h (z ∷ xs) x y held gives =
    elim (Contains-cases z x xs held) [
      | inl e ↦ (let g : h z ≡ Some y = ap h e ∙ gives in rw g (Contains-here y (filter_map h xs)))
      | inr l ↦ mapped_later h z y xs (Contains-filter_map h xs x y l gives)
    ]

-- a member has a position
pub position_of : {X : Type 0} (xs : List X) (x : X) → Contains xs x → (k : ℕ) × (slice_get xs k ≡ Some x)
position_of xs x (k, below, at) = (k, slice_get_read xs (length xs) k x refl below (sym at))

-- what a list has under a number it has with that number
pub Contains-numbered : {X : Type 0} (n : ℕ) (xs : List X) (k : ℕ) (x : X) → slice_get xs k ≡ Some x → Contains (enumerate_from n xs) (n + k, x)
Contains-numbered n [] k x at = cc
Contains-numbered {X} n (y ∷ xs) zero x at =
    let same : y ≡ x = cc in
    let P : X → Type 0 = λ z. Contains ((n, y) ∷ enumerate_from (n + 1) xs) (n + 0, z) in
    let Q : ℕ → Type 0 = λ i. Contains ((n, y) ∷ enumerate_from (n + 1) xs) (i, y) in
    let here : n ≡ n + 0 = omega arith in
    subst P same (subst Q here (Contains-here (n, y) (enumerate_from (n + 1) xs)))
Contains-numbered {X} n (y ∷ xs) (suc k) x at =
    let next : (n + 1) + k ≡ n + suc k = omega arith in
    let Q : ℕ → Type 0 = λ i. Contains (enumerate_from (n + 1) xs) (i, x) in
    Contains-later (n, y) (n + suc k, x) (enumerate_from (n + 1) xs) (subst Q next (Contains-numbered (n + 1) xs k x at))

-- what a mapped list has under a number comes from what the list has there
pub record IsMappedAt {X Y : Type 0} (f : X → Y) (xs : List X) (k : ℕ) (y : Y) : Type 0 where
  pub from : X
  pub at : slice_get xs k ≡ Some from
  pub is : f from ≡ y

pub mapped_at : {X Y : Type 0} (f : X → Y) (xs : List X) (k : ℕ) (y : Y) → slice_get (map f xs) k ≡ Some y → IsMappedAt f xs k y
mapped_at f [] k y at = cc
mapped_at f (x ∷ xs) zero y at = record { from = x; at = refl; is = cc }
mapped_at f (x ∷ xs) (suc k) y at = (let found = mapped_at f xs k y at in record { from = found.from; at = found.at; is = found.is })
