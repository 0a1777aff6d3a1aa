-- Names that a set of keys holds, in its order.
use Rattle.std.proofs.Common.{ℕ, ◌≡◌, ◌+◌, ◌<◌, Bool, true, false, cond, List, [], ◌∷◌, ◌++◌, length, map, Some, None, refl, sym, ap, ◌∙◌, arith, subst}
use Rattle.std.specs.Prelude.{◌&&◌, ◌||◌, not, nat_eq, nat_lt}
use Rattle.std.specs.List.{list_all, list_any, position, position_or_len}
use Rattle.std.specs.Cmp.Lexicographic.{pointwise}
use Rattle.std.proofs.lemmas.Bool.{ltb-true}
use Rattle.std.proofs.lemmas.List.{length-append, length-map, map-append}
use Rattle.memory_map.specs.Name.{is_name}
use Rattle.memory_map.specs.Name.{MOST_NAMES}
use Rattle.file_pieces.specs.Names.{AreNames, index_of, is_named, with_name}

pub with_name-old : (names : List (List ℕ)) (name : List ℕ) → is_named names name ≡ true → with_name names name ≡ names
unfolding with_name
with_name-old names name h = ap (λ t. cond t names (names ++ name ∷ [])) h

pub with_name-new : (names : List (List ℕ)) (name : List ℕ) → is_named names name ≡ false → with_name names name ≡ names ++ name ∷ []
unfolding with_name
with_name-new names name h = ap (λ t. cond t names (names ++ name ∷ [])) h

pub list_all-push : {X : Type 0} (p : X → Bool) (xs : List X) (x : X) → list_all p xs ≡ true → p x ≡ true → list_all p (xs ++ x ∷ []) ≡ true
list_all-push p [] x h k = ap (λ t. t && true) k
list_all-push {X} p (y ∷ ys) x h k = by (p y) (list_all-push p ys x) h
  where
    by : (t : Bool) → (list_all p ys ≡ true → p x ≡ true → list_all p (ys ++ x ∷ []) ≡ true) → (t && list_all p ys) ≡ true → (t && list_all p (ys ++ x ∷ [])) ≡ true
    by true rest g = rest g k
    by false rest g = g

module _ {V : Type 0} (f : V → List ℕ) where
  list_any-map : (p : List ℕ → Bool) (ks : List V) → list_any p (map f ks) ≡ list_any (λ k. p (f k)) ks
  list_any-map p [] = refl
  list_any-map p (k ∷ ks) = ap (λ b. p (f k) || b) (list_any-map p ks)

  position_or_len-map : (p : List ℕ → Bool) (ks : List V) → position_or_len p (map f ks) ≡ position_or_len (λ k. p (f k)) ks
  position_or_len-map p [] = refl
  position_or_len-map p (k ∷ ks) = ap (λ n. cond (not (p (f k))) (1 + n) 0) (position_or_len-map p ks)

  pub is_named-keys : (ks : List V) (name : List ℕ) → is_named (map f ks) name ≡ list_any (λ k. pointwise nat_eq name (f k)) ks
  unfolding is_named
  is_named-keys ks name = list_any-map (pointwise nat_eq name) ks

  pub index_of-keys : (ks : List V) (name : List ℕ) → index_of (map f ks) name ≡ position_or_len (λ k. pointwise nat_eq name (f k)) ks
  unfolding index_of
  index_of-keys ks name = position_or_len-map (pointwise nat_eq name) ks

  position-at : (p : V → Bool) (ks : List V) (i : ℕ) → position p ks ≡ Some i → (i ≡ position_or_len p ks) × (i < length ks)
  position-at p ks i h = by (nat_lt (position_or_len p ks) (length ks)) refl h
    where
      by : (t : Bool) → nat_lt (position_or_len p ks) (length ks) ≡ t → cond t (Some (position_or_len p ks)) None ≡ Some i → (i ≡ position_or_len p ks) × (i < length ks)
      by true e g =
          let same : position_or_len p ks ≡ i = cc in
          let Below : ℕ → Type 0 = λ (n : ℕ). n < length ks in
          (sym same, subst Below same (ltb-true (position_or_len p ks) (length ks) e))
      by false e g = cc

  -- a name that was given before, in the names as they show
  pub found : (names : List (List ℕ)) (ks : List V) (name : List ℕ) (i : ℕ) → map f ks ≡ names → position (λ k. pointwise nat_eq name (f k)) ks ≡ Some i → list_any (λ k. pointwise nat_eq name (f k)) ks ≡ true → (i ≡ index_of names name) × (names ≡ with_name names name) × (i < length names)
  found names ks name i view h named =
      let at = position-at (λ k. pointwise nat_eq name (f k)) ks i h in
      let Shown : List (List ℕ) → Type 0 = λ (l : List (List ℕ)). (i ≡ index_of l name) × (l ≡ with_name l name) × (i < length l) in
      subst Shown view (at.0 ∙ sym (index_of-keys ks name), sym (with_name-old (map f ks) name (is_named-keys ks name ∙ named)), omega (arith, at.1, length-map ks f))

  pub absent : (names : List (List ℕ)) (ks : List V) (name : List ℕ) → map f ks ≡ names → false ≡ list_any (λ k. pointwise nat_eq name (f k)) ks → is_named names name ≡ false
  absent names ks name view h = ap (λ (l : List (List ℕ)). is_named l name) (sym view) ∙ is_named-keys ks name ∙ sym h

  -- one that was not
  pub pushed : (names : List (List ℕ)) (ks ks' : List V) (key : V) (name : List ℕ) → map f ks ≡ names → f key ≡ name → is_named names name ≡ false → ks' ≡ cond (list_any (λ k. pointwise nat_eq (f key) (f k)) ks) ks (ks ++ key ∷ []) → map f ks' ≡ names ++ name ∷ []
  pushed names ks ks' key name view same other put =
      let not_there = ap (λ (n : List ℕ). list_any (λ k. pointwise nat_eq n (f k)) ks) same ∙ sym (is_named-keys ks name) ∙ ap (λ (l : List (List ℕ)). is_named l name) view ∙ other in
      ap (map f) (put ∙ ap (λ t. cond t ks (ks ++ key ∷ [])) not_there) ∙ map-append f ks (key ∷ []) ∙ ap (λ (l : List (List ℕ)). l ++ f key ∷ []) view ∙ ap (λ (n : List ℕ). names ++ n ∷ []) same

  pub pushed_at : (names : List (List ℕ)) (ks : List V) (key : V) (name : List ℕ) (i : ℕ) → map f ks ≡ names → f key ≡ name → i ≡ position_or_len (λ k. pointwise nat_eq (f key) (f k)) ks → i ≡ index_of names name
  pushed_at names ks key name i view same at =
      at ∙ ap (λ (n : List ℕ). position_or_len (λ k. pointwise nat_eq n (f k)) ks) same ∙ sym (index_of-keys ks name) ∙ ap (λ (l : List (List ℕ)). index_of l name) view

pub names-push : (names names' : List (List ℕ)) (name : List ℕ) → AreNames names → is_name name ≡ true → length names < MOST_NAMES → names' ≡ names ++ name ∷ [] → AreNames names'
names-push names names' name h k room e =
    let Kept : List (List ℕ) → Type 0 = λ (l : List (List ℕ)). AreNames l in
    subst Kept (sym e) (record { names = list_all-push is_name names name h.names k; few = omega (arith, length-append names (name ∷ []), room) })
