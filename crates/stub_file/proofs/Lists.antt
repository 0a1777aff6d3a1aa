-- The lists of a document beside those of the values that the program holds.
use Rattle.std.proofs.lemmas.List.{take_more}
use Rattle.std.proofs.Common.{◌≡◌, ℕ, suc, ◌+◌, ◌<◌, ◌++◌, length, take, get_or, subst, sym, List, [], ◌∷◌, map, refl, ap, Bool, ◌||◌, String, Global, string_bytes}
use Rattle.std.specs.List.{AllZip, list_any}
use Rattle.std.specs.Map.{keys_of}
use Rattle.toml.specs.View.{view, items_view, members_view}
use Rattle.toml.specs.declared.value.Value.{Value}
use Rattle.stub_file.specs.Document.{items_in, keys_in}

pub items_in-view : (vs : List Value) → items_in (items_view vs) ≡ map view vs
items_in-view [] = refl
items_in-view (v ∷ vs) = ap (λ ds. view v ∷ ds) (items_in-view vs)

pub list_any-map : {X Y : Type 0} (p : Y → Bool) (f : X → Y) (xs : List X) → list_any p (map f xs) ≡ list_any (λ x. p (f x)) xs
list_any-map p f [] = refl
list_any-map p f (x ∷ xs) = ap (λ b. p (f x) || b) (list_any-map p f xs)

pub keys_in-view : (es : List (String Global × Value)) → keys_in (members_view es) ≡ map string_bytes (keys_of es)
keys_in-view [] = refl
keys_in-view (e ∷ es) = ap (λ ks. string_bytes e.0 ∷ ks) (keys_in-view es)

-- a test of the keys of a table
pub any_key : (p : List ℕ → Bool) (es : List (String Global × Value)) → list_any p (keys_in (members_view es)) ≡ list_any (λ k. p (string_bytes k)) (keys_of es)
any_key p [] = refl
any_key p (e ∷ es) = ap (λ b. p (string_bytes e.0) || b) (any_key p es)

module _ {A B : Type 0} (R : A → B → Type 0) where
  pub zip_length : (xs : List A) (ys : List B) → AllZip R xs ys → length ys ≡ length xs
  zip_length [] [] h = refl
  zip_length [] (y ∷ ys) h = elim h [ ]
  zip_length (x ∷ xs) [] h = elim h [ ]
  zip_length (x ∷ xs) (y ∷ ys) h = ap suc (zip_length xs ys h.1)

  zip_push : (xs : List A) (ys : List B) (x : A) (y : B) → AllZip R xs ys → R x y → AllZip R (xs ++ x ∷ []) (ys ++ y ∷ [])
  zip_push [] [] x y h last = (last, tt)
  zip_push [] (z ∷ ys) x y h last = elim h [ ]
  zip_push (z ∷ xs) [] x y h last = elim h [ ]
  zip_push (z ∷ xs) (w ∷ ys) x y h last = (h.0, zip_push xs ys x y h.1 last)

  pub zip_more : (xs : List A) (ys : List B) (i : ℕ) (x : A) (y : B) → i < length xs → x ≡ get_or xs i x → AllZip R (take i xs) ys → R x y → AllZip R (take (i + 1) xs) (ys ++ y ∷ [])
  zip_more xs ys i x y inside is h last =
      let P : List A → Type 0 = λ zs. AllZip R zs (ys ++ y ∷ []) in
      subst P (sym (take_more xs i x inside)) (rw (← is) (zip_push (take i xs) ys x y h last))

pub zip_map : {A B C : Type 0} (f : A → B) (R : B → C → Type 0) (xs : List A) (ys : List C) → AllZip (λ x y. R (f x) y) xs ys → AllZip R (map f xs) ys
zip_map f R [] [] h = tt
zip_map f R [] (y ∷ ys) h = elim h [ ]
zip_map f R (x ∷ xs) [] h = elim h [ ]
zip_map f R (x ∷ xs) (y ∷ ys) h = (h.0, zip_map f R xs ys h.1)
