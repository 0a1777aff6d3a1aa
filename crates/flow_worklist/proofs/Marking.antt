-- Lists of marks, as they are pushed.
use Rattle.std.proofs.Common.{◌≡◌, ℕ, suc, ◌+◌, ◌<◌, Bool, true, false, not, cond, List, [], ◌∷◌, ◌++◌, length, take, get_or, map, Option, Some, None, refl, sym, ◌∙◌, ap, arith}
use Rattle.std.specs.Prelude.{filter, filter_map, option_map, option_to_list, unwrap_or, slice_get}
use Rattle.std.specs.List.{cons_option, enumerate_from}
use Rattle.std.proofs.lemmas.List.{length-take, map-append, take_more}
use Rattle.std.proofs.lemmas.List.Elements.{filter-append, filter_map-append}
use Rattle.std.proofs.lemmas.Option.{slice_get_read}
use Rattle.flow_log.specs.Log.{Row, Mark, mark_of, expansion_mark, unexpanded_marks}
use Rattle.flow_log.specs.declared.cause.Cause.{Cause}
use Rattle.flow_log.specs.declared.cause.Cause.TheVariants as causes
use Rattle.flow_log.specs.declared.edge.Edge.{Edge}
use Rattle.automaton_text.specs.declared.automaton.Automaton.{Automaton}
use Rattle.automaton_text.specs.declared.automaton.Location.{Location}
use Rattle.automaton_text.specs.declared.automaton.OpenMark.{OpenMark}
use Rattle.flow_worklist.specs.Analysis.{entry_of, open_at, open_mark}
use Rattle.flow_worklist.specs.Exploring.{cause_unexpanded}

abbrev automaton : ℕ → List Location → List Edge → List OpenMark → Automaton
automaton entry locations edges marks = record { version = 2; entry = entry; locations = locations; edges = edges; marks = marks }

-- two parts mapped, one after another
pub pushed_two : {X Y : Type 0} (f : X → Y) (xs ys : List X) (empty first second : List Y) → empty ≡ [] → first ≡ empty ++ map f xs → second ≡ first ++ map f ys
    → second ≡ map f (xs ++ ys)
pushed_two f xs ys empty first second none a b = b ∙ ap (λ l. l ++ map f ys) (a ∙ ap (λ l. l ++ map f xs) none) ∙ sym (map-append f xs ys)

pub same_automaton : (e e' : ℕ) (l l' : List Location) (d d' : List Edge) (m m' : List OpenMark) → e ≡ e' → l ≡ l' → d ≡ d' → m ≡ m'
    → automaton e l d m ≡ automaton e' l' d' m'
same_automaton e e' l l' d d' m m' p q r s =
    ap (λ x. automaton x l d m) p ∙ ap (λ x. automaton e' x d m) q ∙ ap (λ x. automaton e' l' x m) r ∙ ap (λ x. automaton e' l' d' x) s

one_mapped : {X Y Z : Type 0} (h : X → Option Y) (f : Y → Z) (x : X) → map f (filter_map h (x ∷ [])) ≡ option_to_list (option_map f (h x))
one_mapped {Y = Y} {Z = Z} h f x = by_answer (h x)
  where
    by_answer : (o : Option Y) → map f (cons_option o []) ≡ option_to_list (option_map f o)
    by_answer None = refl
    by_answer (Some y) = refl

-- one more element of a list, filtered and mapped
pub filtered_more : {X Y Z : Type 0} (h : X → Option Y) (f : Y → Z) (xs : List X) (i : ℕ) (d : X) → i < length xs
    → map f (filter_map h (take (i + 1) xs)) ≡ map f (filter_map h (take i xs)) ++ option_to_list (option_map f (h (get_or xs i d)))
filtered_more h f xs i d within =
    ap (λ l. map f (filter_map h l)) (take_more xs i d within)
    ∙ ap (map f) (filter_map-append h (take i xs) (get_or xs i d ∷ []))
    ∙ map-append f (filter_map h (take i xs)) (filter_map h (get_or xs i d ∷ []))
    ∙ ap (λ last. map f (filter_map h (take i xs)) ++ last) (one_mapped h f (get_or xs i d))

-- the mark of a cause at the row that it names
pub mark_at : {S : Type 0} (rows : List (Row S)) (number at : ℕ) (cause : Cause) → Some at ≡ option_map (λ (row : Row S). row.location) (slice_get rows number)
    → option_to_list (option_map open_mark (expansion_mark rows (number, cause))) ≡ open_at at cause number ∷ []
mark_at {S} rows number at cause e = by_row (slice_get rows number) e
  where
    by_row : (o : Option (Row S)) → Some at ≡ option_map (λ (row : Row S). row.location) o
        → option_to_list (option_map open_mark (option_map (λ (row : Row S). mark_of (number, row) cause) o)) ≡ open_at at cause number ∷ []
    by_row None e' = cc
    by_row (Some row) e' = (let same : at ≡ row.location = cc in ap (λ n. open_at n cause number ∷ []) (sym same))

pub no_mark_at : {S : Type 0} (rows : List (Row S)) (number : ℕ) (cause : Cause) → None ≡ option_map (λ (row : Row S). row.location) (slice_get rows number)
    → option_to_list (option_map open_mark (expansion_mark rows (number, cause))) ≡ []
no_mark_at {S} rows number cause e = by_row (slice_get rows number) e
  where
    by_row : (o : Option (Row S)) → None ≡ option_map (λ (row : Row S). row.location) o
        → option_to_list (option_map open_mark (option_map (λ (row : Row S). mark_of (number, row) cause) o)) ≡ []
    by_row None e' = refl
    by_row (Some row) e' = cc

pub entry_at : {S : Type 0} (rows : List (Row S)) (row : Row S) → 0 < length rows → row ≡ get_or rows 0 row → row.location ≡ entry_of rows
entry_at {S} rows row some at =
    sym (ap (λ o. unwrap_or (option_map (λ (r : Row S). r.location) o) 0) (slice_get_read rows (length rows) 0 row refl some at))

-- a list with numbers, with one element more
numbered_more : {X : Type 0} (n : ℕ) (xs : List X) (x : X) → enumerate_from n (xs ++ x ∷ []) ≡ enumerate_from n xs ++ (n + length xs, x) ∷ []
numbered_more n [] x = (let e : n ≡ n + 0 = omega arith in ap (λ k. (k, x) ∷ []) e)
numbered_more n (y ∷ xs) x =
    let e : (n + 1) + length xs ≡ n + suc (length xs) = omega arith in
    ap (λ l. (n, y) ∷ l) (numbered_more (n + 1) xs x ∙ ap (λ k. enumerate_from (n + 1) xs ++ (k, x) ∷ []) e)

-- the mark of one row more that is not expanded
unexpanded_last : {S : Type 0} (numbered : ℕ × Row S) (b : Bool) → numbered.1.expanded ≡ b
    → map open_mark (map (λ (r : ℕ × Row S). mark_of r causes.Budget) (cond (not numbered.1.expanded) (numbered ∷ []) []))
    ≡ map (λ cause. open_at numbered.1.location cause numbered.0) (option_to_list (cause_unexpanded numbered.1))
unexpanded_last {S} numbered true is =
    ap (λ b. map open_mark (map (λ (r : ℕ × Row S). mark_of r causes.Budget) (cond (not b) (numbered ∷ []) []))) is
    ∙ sym (ap (λ b. map (λ cause. open_at numbered.1.location cause numbered.0) (option_to_list (cond b None (Some causes.Budget)))) is)
unexpanded_last {S} numbered false is =
    ap (λ b. map open_mark (map (λ (r : ℕ × Row S). mark_of r causes.Budget) (cond (not b) (numbered ∷ []) []))) is
    ∙ sym (ap (λ b. map (λ cause. open_at numbered.1.location cause numbered.0) (option_to_list (cond b None (Some causes.Budget)))) is)

unexpanded_one : {S : Type 0} (rows : List (Row S)) (row : Row S) → map open_mark (unexpanded_marks causes.Budget (rows ++ row ∷ []))
    ≡ map open_mark (unexpanded_marks causes.Budget rows) ++ map (λ cause. open_at row.location cause (0 + length rows)) (option_to_list (cause_unexpanded row))
unexpanded_one {S} rows row =
    let p : ℕ × Row S → Bool = λ numbered. not numbered.1.expanded in
    let f : ℕ × Row S → Mark Cause = λ numbered. mark_of numbered causes.Budget in
    let last : ℕ × Row S = (0 + length rows, row) in
    ap (λ l. map open_mark (map f (filter p l))) (numbered_more 0 rows row)
    ∙ ap (λ l. map open_mark (map f l)) (filter-append p (enumerate_from 0 rows) (last ∷ []))
    ∙ ap (map open_mark) (map-append f (filter p (enumerate_from 0 rows)) (filter p (last ∷ [])))
    ∙ map-append open_mark (unexpanded_marks causes.Budget rows) (map f (filter p (last ∷ [])))
    ∙ ap (λ l. map open_mark (unexpanded_marks causes.Budget rows) ++ l) (unexpanded_last last row.expanded refl)

pub unexpanded_more : {S : Type 0} (rows : List (Row S)) (i : ℕ) (row : Row S) → i < length rows → row ≡ get_or rows i row
    → map open_mark (unexpanded_marks causes.Budget (take (i + 1) rows))
    ≡ map open_mark (unexpanded_marks causes.Budget (take i rows)) ++ map (λ cause. open_at row.location cause i) (option_to_list (cause_unexpanded row))
unexpanded_more rows i row within is =
    let number : 0 + length (take i rows) ≡ i = omega (arith, length-take i rows) in
    ap (λ l. map open_mark (unexpanded_marks causes.Budget l)) (take_more rows i row within)
    ∙ ap (λ r. map open_mark (unexpanded_marks causes.Budget (take i rows ++ r ∷ []))) (sym is)
    ∙ unexpanded_one (take i rows) row
    ∙ ap (λ n. map open_mark (unexpanded_marks causes.Budget (take i rows)) ++ map (λ cause. open_at row.location cause n) (option_to_list (cause_unexpanded row))) number
