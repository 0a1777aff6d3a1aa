-- What a look-up in a list of ranges finds.
use Rattle.std.proofs.Common.{ℕ, ◌≡◌, ◌≢◌, ◌+◌, ◌-◌, Bool, true, false, cond, List, [], ◌∷◌, take, drop, Option, Some, None, refl, sym, ap, ◌∙◌, Bor}
use Rattle.std.specs.Prelude.{◌||◌, nat_le, find, is_some, option_copied}
use Rattle.std.specs.Option.{option_map, option_map_or}
use Rattle.std.specs.List.{list_any}
use Rattle.std.proofs.lemmas.Bool.{leb-true, and_parts}
use Rattle.memory_map.specs.Range.{Range, end_of}
use Rattle.memory_map.specs.Range.{holds}
use Rattle.file_pieces.specs.Found.{IsHeld, is_in_one, bytes_at, rest_at}
use Rattle.file_pieces.proofs.Texts.{not_zero}

pub is_some-find : {X : Type 0} (p : X → Bool) (xs : List X) → is_some (find p xs) ≡ list_any p xs
is_some-find p [] = refl
is_some-find p (x ∷ xs) = by (p x) (is_some-find p xs)
  where
    by : (t : Bool) → is_some (find p xs) ≡ list_any p xs → is_some (cond t (Some x) (find p xs)) ≡ (t || list_any p xs)
    by true rest = refl
    by false rest = rest

-- what is found passes the test
pub find-passes : {X : Type 0} (p : X → Bool) (xs : List X) (y : X) → find p xs ≡ Some y → p y ≡ true
find-passes p [] y h = cc
find-passes {X} p (x ∷ xs) y h = by (p x) refl (find-passes p xs y) h
  where
    by : (t : Bool) → p x ≡ t → (find p xs ≡ Some y → p y ≡ true) → cond t (Some x) (find p xs) ≡ Some y → p y ≡ true
    by true e rest g = let same : x ≡ y = cc in sym (ap p same) ∙ e
    by false e rest g = rest g

pub held : (ranges : List Range) (a n : ℕ) (r : Range) → find (holds a n) ranges ≡ Some r → IsHeld a n r
held ranges a n r h =
    let parts = and_parts (nat_le r.low a) (nat_le (a + n) (end_of r)) (find-passes (holds a n) ranges r h) in
    record { above = leb-true r.low a parts.0; below = leb-true (a + n) (end_of r) parts.1 }

pub bytes_at-none_asked : (ranges : List Range) (a n : ℕ) → n ≡ 0 → bytes_at ranges a n ≡ Some []
unfolding bytes_at
bytes_at-none_asked ranges a n h = ap (bytes_at ranges a) h

pub bytes_at-find : (ranges : List Range) (a n : ℕ) → n ≢ 0 → bytes_at ranges a n ≡ option_map (λ r. take n (drop (a - r.low) r.bytes)) (find (holds a n) ranges)
unfolding bytes_at
bytes_at-find ranges a n h = ap (λ t. cond t (Some []) (option_map (λ (r : Range). take n (drop (a - r.low) r.bytes)) (find (holds a n) ranges))) (not_zero n h)

pub bytes_at-found : (ranges : List Range) (a n : ℕ) (r : Range) → n ≢ 0 → find (holds a n) ranges ≡ Some r → bytes_at ranges a n ≡ Some (take n (drop (a - r.low) r.bytes))
bytes_at-found ranges a n r h found = bytes_at-find ranges a n h ∙ ap (option_map (λ (r : Range). take n (drop (a - r.low) r.bytes))) found

pub bytes_at-none : (ranges : List Range) (a n : ℕ) → n ≢ 0 → find (holds a n) ranges ≡ None → bytes_at ranges a n ≡ None
bytes_at-none ranges a n h found = bytes_at-find ranges a n h ∙ ap (option_map (λ (r : Range). take n (drop (a - r.low) r.bytes))) found

pub rest_at-found : (ranges : List Range) (a : ℕ) (r : Range) → find (holds a 1) ranges ≡ Some r → rest_at ranges a ≡ drop (a - r.low) r.bytes
unfolding rest_at
rest_at-found ranges a r found = ap (λ o. option_map_or (λ (r : Range). drop (a - r.low) r.bytes) o []) found

pub rest_at-none : (ranges : List Range) (a : ℕ) → find (holds a 1) ranges ≡ None → rest_at ranges a ≡ []
unfolding rest_at
rest_at-none ranges a found = ap (λ o. option_map_or (λ (r : Range). drop (a - r.low) r.bytes) o []) found

pub is_in_one-none_asked : (ranges : List Range) (a n : ℕ) → n ≡ 0 → is_in_one ranges a n ≡ true
is_in_one-none_asked ranges a n h = ap (is_in_one ranges a) h

pub is_in_one-find : (ranges : List Range) (a n : ℕ) → n ≢ 0 → is_in_one ranges a n ≡ is_some (find (holds a n) ranges)
is_in_one-find ranges a n h = ap (λ t. t || list_any (holds a n) ranges) (not_zero n h) ∙ sym (is_some-find (holds a n) ranges)

pub is_some-copied : {X Y : Type 0} (f : X → Y) (o : Option (Bor X)) → is_some o ≡ is_some (option_map f (option_copied o))
is_some-copied f None = refl
is_some-copied f (Some x) = refl
