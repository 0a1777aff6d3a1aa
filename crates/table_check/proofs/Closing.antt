-- A table of which no row fails is closed, and no run leaves it before a marked location.
use Rattle.std.proofs.Common.{◌≡◌, ℕ, ◌+◌, ◌==◌, Bool, true, false, List, [], ◌∷◌, length, map, Option, Some, None, refl, ◌∙◌, ap, subst, arith, inl, inr}
use Rattle.std.specs.Prelude.{Contains, All, not, ◌&&◌, ◌||◌, slice_get, option_map, if◌then◌else◌}
use Rattle.std.specs.List.{list_all, list_any, enumerate_from}
use Rattle.memory_map.specs.Image.{Image, IsLoaded}
use Rattle.stub_file.specs.Stubs.{StatedStubs}
use Rattle.flow_log.specs.Analysis.{Analysis}
use Rattle.flow_log.specs.declared.edge.Edge.{Edge}
use Rattle.flow_log.specs.Sound.{IsClosed, IsDone, IsRepresented}
use Rattle.flow_log.proofs.Members.{Contains-filter_map, Contains-flat_map, Contains-here, Contains-later, Contains-map, Contains-none, Contains-numbered, Contains-slice_get, position_of}
use Rattle.flow_log.proofs.Induction.{run_follows, start_known}
use Rattle.x86_machine.specs.Machine.{machine_of}
use Rattle.domain_laws.specs.Laws.{Values, IsLawful}
use Rattle.abstract_state.specs.Describes.{IsDescribed}
use Rattle.abstract_state.specs.State.{IsWellState, Known}
use Rattle.abstract_state.proofs.Starting.{starts-are_described}
use Rattle.flow_worklist.specs.Analysis.{ImageAnalysis, analysis_of}
use Rattle.flow_worklist.proofs.StepSound.{analysis_sound}
use Rattle.table_check.specs.declared.table.Table.{Table}
use Rattle.table_check.specs.Closed.{IsYes, answer_by, broken_by, clause_broken, edges_from, edges_of, first_broken, has_no_cause, is_covered, is_marked, leads_to_rows, rows_broken, starts, table_answer, table_edges, START, CAUSE, NEXT}
use Rattle.table_check.specs.Laws.{IsClosedTable, IsMarked, RunsAreFollowedBy}
use Rattle.std.proofs.lemmas.Bool.{and_parts}
use Rattle.std.proofs.lemmas.List.Elements.{All-contains}
use Rattle.std.proofs.lemmas.List.Sums.{AllPass-from_list_all}
use Rattle.text_fields.proofs.Found.{equal}

-- ---- members that pass a test

pub record IsFoundBy {X : Type 0} (t : X → Bool) (xs : List X) : Type 0 where
  pub item : X
  pub held : Contains xs item
  pub passes : t item ≡ true

found_later : {X : Type 0} (t : X → Bool) (x : X) (xs : List X) → IsFoundBy t xs → IsFoundBy t (x ∷ xs)
found_later t x xs f = record { item = f.item; held = Contains-later x f.item xs f.held; passes = f.passes }

found_by : {X : Type 0} (t : X → Bool) (x : X) (xs : List X) (b : Bool) → t x ≡ b → (b || list_any t xs) ≡ true → (list_any t xs ≡ true → IsFoundBy t xs) → IsFoundBy t (x ∷ xs)
found_by t x xs true e h later = record { item = x; held = Contains-here x xs; passes = e }
found_by t x xs false e h later = found_later t x xs (later h)

pub any_found : {X : Type 0} (t : X → Bool) (xs : List X) → list_any t xs ≡ true → IsFoundBy t xs
any_found t [] h = absurd (cc)
any_found t (x ∷ xs) h = found_by t x xs (t x) refl h (any_found t xs)

pub all_of : {X : Type 0} (t : X → Bool) (xs : List X) (x : X) → list_all t xs ≡ true → Contains xs x → t x ≡ true
all_of t xs x all held = All-contains (λ x. t x ≡ true) xs x (AllPass-from_list_all t xs all) held

empty_none : {X : Type 0} (xs : List X) (x : X) → (length xs == 0) ≡ true → Contains xs x → ⊥
empty_none [] x e held = Contains-none x held
empty_none (y ∷ ys) x e held = let none : length (y ∷ ys) ≡ 0 = equal (length (y ∷ ys)) 0 e in omega arith

pub first_none : {X : Type 0} (xs : List X) → slice_get xs 0 ≡ None → xs ≡ []
first_none [] e = refl
first_none (x ∷ xs) e = cc

-- ---- over any analysis

module _ {S E C W : Type 0} (a : Analysis S E C W) (marked : List ℕ) (rows : List (ℕ × S)) where
  -- no row fails
  pub record NoneBroken : Type 0 where
    pub some : (length rows == 0) ≡ false
    pub none : rows_broken a marked rows ≡ []

  none_by : (e : Bool) → (length rows == 0) ≡ e → ◌≡◌ {A = Option (ℕ × ℕ)} (if e then Some (0, START) else slice_get (rows_broken a marked rows) 0) None → NoneBroken
  none_by true e h = cc
  none_by false e h = record { some = e; none = first_none (rows_broken a marked rows) h }

  pub none_broken : first_broken a marked rows ≡ None → NoneBroken
  none_broken h = none_by (length rows == 0) refl h

  clause_none : (k : ℕ) (row : ℕ × S) (o : Option ℕ) → NoneBroken → slice_get rows k ≡ Some row → clause_broken a marked rows k row ≡ o → o ≡ None
  clause_none k row None n at e = refl
  clause_none k row (Some c) n at e =
      let test : ℕ × (ℕ × S) → Option (ℕ × ℕ) = λ numbered. option_map (λ clause. (numbered.0, clause)) (clause_broken a marked rows numbered.0 numbered.1) in
      let from_zero : 0 + k ≡ k = omega arith in
      let broken : clause_broken a marked rows (0 + k) row ≡ Some c = ap (λ n. clause_broken a marked rows n row) from_zero ∙ e in
      let pairing : ℕ → ℕ × ℕ = λ clause. (0 + k, clause) in
      let gives : test (0 + k, row) ≡ Some (0 + k, c) = ap (option_map pairing) broken in
      let in_broken : Contains (rows_broken a marked rows) (0 + k, c) = Contains-filter_map test (enumerate_from 0 rows) (0 + k, row) (0 + k, c) (Contains-numbered 0 rows k row at) gives in
      absurd (Contains-none (0 + k, c) (subst (λ (l : List (ℕ × ℕ)). Contains l (0 + k, c)) n.none in_broken))

  -- no clause fails of a row
  pub no_clause : (k : ℕ) (row : ℕ × S) → NoneBroken → slice_get rows k ≡ Some row → clause_broken a marked rows k row ≡ None
  no_clause k row n at = clause_none k row (clause_broken a marked rows k row) n at refl

  starts_by : (row : ℕ × S) (b : Bool) (rest : Option ℕ) → starts a marked rows row ≡ b → (if not b then Some START else rest) ≡ None → starts a marked rows row ≡ true
  starts_by row true rest e h = e
  starts_by row false rest e h = cc

  first_starts : (row : ℕ × S) → clause_broken a marked rows 0 row ≡ None → starts a marked rows row ≡ true
  first_starts row h = starts_by row (starts a marked rows row) (if is_marked marked row.0 then None else broken_by a marked rows row) refl h

  later_by : (t m : Bool) (b : Option ℕ) → m ≡ false → ◌≡◌ {A = Option ℕ} (if t then Some START else if m then None else b) None → b ≡ None
  later_by true m b e h = cc
  later_by false true b e h = cc
  later_by false false b e h = h

  pub record IsUnbroken (row : ℕ × S) : Type 0 where
    pub no_cause : has_no_cause a marked rows row ≡ true
    pub leads : leads_to_rows a marked rows row ≡ true

  unbroken_by : (row : ℕ × S) (c l : Bool) → has_no_cause a marked rows row ≡ c → leads_to_rows a marked rows row ≡ l → ◌≡◌ {A = Option ℕ} (if not c then Some CAUSE else if not l then Some NEXT else None) None → IsUnbroken row
  unbroken_by row true true e f h = record { no_cause = e; leads = f }
  unbroken_by row true false e f h = cc
  unbroken_by row false l e f h = cc

  -- an unmarked row breaks no clause
  pub unbroken : (k : ℕ) (row : ℕ × S) → is_marked marked row.0 ≡ false → clause_broken a marked rows k row ≡ None → IsUnbroken row
  unbroken k row e h =
      unbroken_by row (has_no_cause a marked rows row) (leads_to_rows a marked rows row) refl refl
      (later_by (k == 0 && not (starts a marked rows row)) (is_marked marked row.0) (broken_by a marked rows row) e h)

  marked_by : (at : ℕ) (b : Bool) → is_marked marked at ≡ b → (Contains marked at → ⊥) → is_marked marked at ≡ false
  marked_by at false e shut = e
  marked_by at true e shut =
      let f = any_found (λ m. m == at) marked e in
      absurd (shut (subst (Contains marked) (equal f.item at f.passes) f.held))

  represented : (pair : ℕ × S) → is_covered a marked rows pair ≡ true → IsRepresented a rows pair.0 pair.1
  represented pair e =
      let f = any_found (λ (row : ℕ × S). row.0 == pair.0 && a.covers row.1 pair.1) rows e in
      let (at, covers) = and_parts (f.item.0 == pair.0) (a.covers f.item.1 pair.1) f.passes in
      let P : ℕ → Type 0 = λ l. Contains rows (l, f.item.1) in
      record { row = f.item.1; in_rows = subst P (equal f.item.0 pair.0 at) f.held; stands = inl (inr covers) }

  edge_by : (row : ℕ × S) (b : Bool) (e : E) → b ≡ false → Contains (map (λ (pair : ℕ × S). a.edge row.0 row.1 pair.0) (a.expand row.0 row.1).next) e
      → Contains (if b then [] else map (λ (pair : ℕ × S). a.edge row.0 row.1 pair.0) (a.expand row.0 row.1).next) e
  edge_by row true e off held = cc
  edge_by row false e off held = held

  done : NoneBroken → (location : ℕ) (state : S) → Contains rows (location, state) → (Contains marked location → ⊥) → IsDone a rows (edges_of a marked rows) location state
  done n location state held shut =
      let row : ℕ × S = (location, state) in
      let p = position_of rows row held in
      let off : is_marked marked location ≡ false = marked_by location (is_marked marked location) refl shut in
      let u = unbroken p.0 row off (no_clause p.0 row n p.1) in
      record {
        no_cause = λ c h. empty_none (a.expand location state).causes c u.no_cause h;
        has_next = λ pair h. represented pair (all_of (is_covered a marked rows) (a.expand location state).next pair u.leads h);
        has_edge = λ pair h.
            Contains-flat_map (edges_from a marked rows) rows row (a.edge location state pair.0) held
            (edge_by row (is_marked marked location) (a.edge location state pair.0) off (Contains-map (λ (q : ℕ × S). a.edge location state q.0) (a.expand location state).next pair h));
      }

  closed_by : (first : Option (ℕ × S)) → slice_get rows 0 ≡ first → NoneBroken → IsClosed a rows (edges_of a marked rows) (Contains marked)
  closed_by None at n = let none : rows ≡ [] = first_none rows at in let e : (length rows == 0) ≡ true = ap (λ (l : List (ℕ × S)). length l == 0) none in absurd (let some = n.some in cc)
  closed_by (Some row) at n =
      let (entry, covers) = and_parts (row.0 == a.entry) (a.covers row.1 a.start) (first_starts row (no_clause 0 row n at)) in
      let P : ℕ → Type 0 = λ l. Contains rows (l, row.1) in
      record {
        first = row.1;
        first_in_rows = subst P (equal row.0 a.entry entry) (Contains-slice_get rows 0 row at);
        first_stands = inr covers;
        done = done n;
      }

  pub closed : first_broken a marked rows ≡ None → IsClosed a rows (edges_of a marked rows) (Contains marked)
  closed h = closed_by (slice_get rows 0) refl (none_broken h)

-- ---- of an image

yes_by : (o : Option (ℕ × ℕ)) (edges : List Edge) → IsYes (answer_by o edges) → o ≡ None
yes_by None edges h = refl
yes_by (Some broken) edges h = absurd h

module _ {D : Type 0} (d : Values D) (l : IsLawful d) (image : Image) (stubs : StatedStubs) (t : Table D) where
  pub yes-closed : IsYes (table_answer d image stubs t) → IsClosedTable d image stubs t
  unfolding table_answer
  yes-closed h = closed (analysis_of d image stubs t.k) t.marked t.rows (yes_by (first_broken (analysis_of d image stubs t.k) t.marked t.rows) (table_edges d image stubs t) h)

  -- no run leaves a closed table before it first stands at a marked location
  pub runs-are_followed : IsLoaded image → All (λ (row : ℕ × Known D). IsWellState d row.1) t.rows → IsClosedTable d image stubs t → RunsAreFollowedBy d image stubs t
  runs-are_followed loaded well shut m states start run =
      let a : ImageAnalysis D = analysis_of d image stubs t.k in
      let machine = machine_of image stubs in
      let sound = analysis_sound d l image stubs t.k loaded in
      run_follows a machine (IsWellState d) (IsDescribed d image) sound t.rows (table_edges d image stubs t) (IsMarked d image stubs t) shut well m states
      (start_known a machine (IsWellState d) (IsDescribed d image) sound t.rows (table_edges d image stubs t) (IsMarked d image stubs t) shut well m start.entry
      (starts-are_described d l image m loaded start))
      run
