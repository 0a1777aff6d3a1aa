-- What is kept of each location stays true as rows come, and tells which rows are there.
use Rattle.std.proofs.Common.{◌≡◌, ℕ, Bool, true, false, List, [], ◌∷◌, ◌++◌, length, map, cond, Some, refl, sym, ◌∙◌, ap, subst, ◌==◌, ◌||◌, ◌&&◌, ◌+◌, ◌<◌, take, get_or, arith}
use Rattle.std.specs.Prelude.{nat_eq, slice_get, option_map, unwrap_or}
use Rattle.std.specs.Map.{lookup}
use Rattle.std.specs.List.{list_any}
use Rattle.std.specs.Option.{option_map_or}
use Rattle.std.proofs.lemmas.Bool.{eqb-true}
use Rattle.std.proofs.lemmas.List.{append-nil, length-take, take_more}
use Rattle.std.proofs.lemmas.List.Elements.{filter-append}
use Rattle.table_check.specs.declared.row_index.RowIndex.{RowIndex}
use Rattle.table_check.specs.Checking.{AddsNumber, IsIndexOf, numbers_at, rows_at}
use Rattle.flow_worklist.proofs.Indexing.{numbers_kept, numbers_more}

-- a row more is at its own location, and at no other
rows_more : {S : Type 0} (row : ℕ × S) (q : ℕ) (rows : List (ℕ × S)) (b : Bool) → (row.0 == q) ≡ b → rows_at q (rows ++ row ∷ []) ≡ rows_at q rows ++ cond b (row ∷ []) []
rows_more row q rows b is = filter-append (λ r. r.0 == q) rows (row ∷ []) ∙ ap (λ c. rows_at q rows ++ cond c (row ∷ []) []) is

module _ {S : Type 0} (before after : RowIndex) (rows : List (ℕ × S)) (row : ℕ × S) where
  more_by : (q : ℕ) (b : Bool) → nat_eq row.0 q ≡ b → IsIndexOf before rows → AddsNumber row.0 (length rows) before after
      → map (slice_get (rows ++ row ∷ [])) (numbers_at after q) ≡ map Some (rows_at q (rows ++ row ∷ []))
  more_by q true is h adds =
      let P : ℕ → Type 0 = λ z. numbers_at after z ≡ numbers_at before z ++ length rows ∷ [] in
      ap (map (slice_get (rows ++ row ∷ []))) (subst P (eqb-true row.0 q is) adds.here)
      ∙ numbers_more rows row (numbers_at before q) (rows_at q rows) (h.kept q)
      ∙ sym (ap (map Some) (rows_more row q rows true is))
  more_by q false is h adds =
      ap (map (slice_get (rows ++ row ∷ []))) (adds.elsewhere q is)
      ∙ numbers_kept rows (row ∷ []) (numbers_at before q) (rows_at q rows) (h.kept q)
      ∙ sym (ap (map Some) (rows_more row q rows false is ∙ append-nil (rows_at q rows)))

  -- a row more
  pub index_more : IsIndexOf before rows → AddsNumber row.0 (length rows) before after → IsIndexOf after (rows ++ row ∷ [])
  index_more h adds = record { kept = λ q. more_by q (nat_eq row.0 q) refl h adds }

-- no row yet
pub index_none : {S : Type 0} (index : RowIndex) → index.numbers.entries ≡ [] → IsIndexOf {S = S} index []
index_none {S} index none = record { kept = λ q. ap (λ es. map (slice_get {X = ℕ × S} []) (unwrap_or (option_map (λ v. v.items) (lookup (nat_eq q) es)) [])) none }

-- the rows up to one
pub index_grows : {S : Type 0} (before after : RowIndex) (rows : List (ℕ × S)) (n : ℕ) (row : ℕ × S) → n < length rows → row ≡ get_or rows n row
    → IsIndexOf before (take n rows) → AddsNumber row.0 n before after → IsIndexOf after (take (n + 1) rows)
index_grows {S} before after rows n row within is h adds =
    let count : length (take n rows) ≡ n = omega (arith, length-take n rows, within) in
    let P : ℕ → Type 0 = λ z. AddsNumber row.0 z before after in
    let Q : List (ℕ × S) → Type 0 = λ l. IsIndexOf after l in
    let grown : take (n + 1) rows ≡ take n rows ++ row ∷ [] = take_more rows n row within ∙ ap (λ r. take n rows ++ r ∷ []) (sym is) in
    subst Q (sym grown) (index_more before after (take n rows) row h (subst P (sym count) adds))

-- ---- which rows are there

module _ {S : Type 0} (test : S → Bool) (at : ℕ) where
  abbrev pub passes : ℕ × S → Bool
  passes row = row.0 == at && test row.1

  any_there : (b : Bool) (row : ℕ × S) (rows : List (ℕ × S)) → (row.0 == at) ≡ b → list_any (λ r. test r.1) (cond b (row ∷ rows) rows) ≡ ((b && test row.1) || list_any (λ r. test r.1) rows)
  any_there true row rows is = refl
  any_there false row rows is = refl

  any_at : (rows : List (ℕ × S)) → list_any (λ r. test r.1) (rows_at at rows) ≡ list_any passes rows
  any_at [] = refl
  any_at (row ∷ rows) = any_there (row.0 == at) row (rows_at at rows) refl ∙ ap (λ b. passes row || b) (any_at rows)

  any_numbered : (rows : List (ℕ × S)) (ns : List ℕ) (found : List (ℕ × S)) → map (slice_get rows) ns ≡ map Some found
      → list_any (λ n. option_map_or (λ r. test r.1) (slice_get rows n) false) ns ≡ list_any (λ r. test r.1) found
  any_numbered rows [] [] e = refl
  any_numbered rows [] (row ∷ found) e = cc
  any_numbered rows (n ∷ ns) [] e = cc
  any_numbered rows (n ∷ ns) (row ∷ found) e =
      let here : slice_get rows n ≡ Some row = cc in
      let rest : map (slice_get rows) ns ≡ map Some found = cc in
      ap (λ o. option_map_or (λ (r : ℕ × S). test r.1) o false || list_any (λ n. option_map_or (λ (r : ℕ × S). test r.1) (slice_get rows n) false) ns) here
      ∙ ap (λ b. test row.1 || b) (any_numbered rows ns found rest)

  -- a number's row passes where a row at the location does
  pub any_kept : (index : RowIndex) (rows : List (ℕ × S)) → IsIndexOf index rows
      → list_any (λ n. option_map_or (λ r. test r.1) (slice_get rows n) false) (numbers_at index at) ≡ list_any passes rows
  any_kept index rows h = any_numbered rows (numbers_at index at) (rows_at at rows) (h.kept at) ∙ any_at rows
