-- Closed rows of which the first is the start fail nowhere, where what covers a widened state covers the state.
use Rattle.std.proofs.Common.{◌≡◌, ℕ, zero, suc, ◌+◌, ◌==◌, ◌&&◌, Bool, true, false, List, [], ◌∷◌, length, map, Some, None, inl, inr, refl, sym, ◌∙◌, ap, subst, arith}
use Rattle.std.specs.Prelude.{All, Contains, not, slice_get, filter_map, option_map, ◌⊎◌}
use Rattle.std.specs.List.{cons_option, enumerate_from}
use Rattle.std.specs.Cmp.{nat_cmp_total}
use Rattle.std.proofs.lemmas.Map.Lookups.{exact_unsigned}
use Rattle.std.specs.Ordering.{nat_cmp}
use Rattle.std.proofs.lemmas.Option.{slice_get-map, same_Some}
use Rattle.std.proofs.lemmas.Grind.{common_steps}
use Rattle.std.proofs.lemmas.List.Elements.{All-contains}
use Rattle.flow_log.specs.Analysis.{Analysis}
use Rattle.flow_log.specs.declared.edge.Edge.{Edge}
use Rattle.flow_log.specs.Sound.{IsClosed, IsDone, IsRepresented, StandsFor}
use Rattle.flow_log.specs.Log.{Log, Mark, IsOpen, explored, first_log, log_of, marks_of, pair_of, row_after}
use Rattle.flow_log.specs.Ordered.{IsExact, ordered_set}
use Rattle.flow_log.proofs.Closing.{log_closed, rows_well}
use Rattle.flow_log.proofs.Growing.{explored-grows, row_kept}
use Rattle.flow_log.proofs.Members.{Contains-here, Contains-map, Contains-slice_get}
use Rattle.flow_log.proofs.Ordering.{ordered_set-is}
use Rattle.stub_file.specs.Stubs.{StatedStubs}
use Rattle.memory_map.specs.Image.{Image, IsLoaded}
use Rattle.x86_machine.specs.Machine.{machine_of}
use Rattle.domain_laws.specs.Laws.{Values, IsLawful}
use Rattle.abstract_state.specs.Describes.{IsDescribed}
use Rattle.abstract_state.specs.State.{IsWellState}
use Rattle.abstract_state.specs.Widening.{seen_of}
use Rattle.flow_worklist.specs.Analysis.{ImageAnalysis, ImageLog, analysis_of, image_log}
use Rattle.flow_worklist.proofs.StepSound.{analysis_sound}
use Rattle.abstract_state.proofs.Raising.{nat-refl, widening-is_sound}
use Rattle.table_check.specs.Closed.{broken_by, clause_broken, first_broken, is_covered, is_marked, starts}
use Rattle.table_check.proofs.Answering.{broken-none, broken-open, first_by, test, unbroken-marked}
use Rattle.table_check.proofs.Covering.{all_by, any_of, covers-own, covers-through}
use Rattle.std.proofs.lemmas.Bool.{and_from}

none_held : {X : Type 0} (xs : List X) → ((x : X) → Contains xs x → ⊥) → (length xs == 0) ≡ true
none_held [] never = refl
none_held (x ∷ xs) never = absurd (never x (Contains-here x xs))

some_rows : {X : Type 0} (xs : List X) (x : X) → slice_get xs 0 ≡ Some x → (length xs == 0) ≡ false
some_rows [] x at = absurd (cc)
some_rows (y ∷ ys) x at = grind (arith, common_steps)

later_row : (k : ℕ) → (suc k == 0) ≡ false
later_row k = grind (arith, common_steps)

clash : (b : Bool) → b ≡ true → b ≡ false → ⊥
clash b e f = cc

module _ {S C W : Type 0} (a : Analysis S Edge C W) (IsWell : S → Type 0)
    (own : (s : S) → a.covers s s ≡ true)
    (through : (t u s : S) → a.covers t u ≡ true → a.covers u s ≡ true → a.covers t s ≡ true)
    (above : (seen : List S) (s : S) → IsWell s → a.covers (a.widen seen s) s ≡ true)
    (next_well : (location : ℕ) (s : S) (pair : ℕ × S) → IsWell s → Contains (a.expand location s).next pair → IsWell pair.1)
    (marked : List ℕ) (rows : List (ℕ × S)) (edges : List Edge) (Open : ℕ → Type 0)
    (well : All (λ (row : ℕ × S). IsWell row.1) rows)
    (closed : IsClosed a rows edges Open)
    (opens : (location : ℕ) → Open location → is_marked marked location ≡ true)
    (first : slice_get rows 0 ≡ Some (a.entry, a.start)) where
  covers_by : (t u s : S) → StandsFor a t u → a.covers u s ≡ true → a.covers t s ≡ true
  covers_by t u s (inl same) above_s = let P : S → Type 0 = λ x. a.covers x s ≡ true in subst P (sym same) above_s
  covers_by t u s (inr covers) above_s = through t u s covers above_s

  covers_pair : (t s : S) → IsWell s → StandsFor a t s ⊎ ((seen : List S) × StandsFor a t (a.widen seen s)) → a.covers t s ≡ true
  covers_pair t s w (inl stands) = covers_by t s s stands (own s)
  covers_pair t s w (inr widened) = covers_by t (a.widen widened.0 s) s widened.1 (above widened.0 s w)

  covered : (pair : ℕ × S) → IsWell pair.1 → IsRepresented a rows pair.0 pair.1 → is_covered a marked rows pair ≡ true
  covered pair w r =
      any_of (λ (row : ℕ × S). row.0 == pair.0 && a.covers row.1 pair.1) rows (pair.0, r.row) r.in_rows
      (and_from (pair.0 == pair.0) (a.covers r.row pair.1) (nat-refl pair.0) (covers_pair r.row pair.1 w r.stands))

  row_unbroken : (k : ℕ) (row : ℕ × S) → slice_get rows k ≡ Some row → is_marked marked row.0 ≡ false → broken_by a marked rows row ≡ None
  row_unbroken k row at off =
      let held : Contains rows row = Contains-slice_get rows k row at in
      let w : IsWell row.1 = All-contains (λ (r : ℕ × S). IsWell r.1) rows row well held in
      let done : IsDone a rows edges row.0 row.1 = closed.done row.0 row.1 held (λ o. clash (is_marked marked row.0) (opens row.0 o) off) in
      broken-none a marked rows row (none_held (a.expand row.0 row.1).causes done.no_cause)
      (all_by (is_covered a marked rows) (a.expand row.0 row.1).next (λ pair h. covered pair (next_well row.0 row.1 pair w h) (done.has_next pair h)))

  starts_first : starts a marked rows (a.entry, a.start) ≡ true
  starts_first = and_from (a.entry == a.entry) (a.covers a.start a.start) (nat-refl a.entry) (own a.start)

  no_wrong_start : (k : ℕ) (row : ℕ × S) → slice_get rows k ≡ Some row → (k == 0 && not (starts a marked rows row)) ≡ false
  no_wrong_start zero row at =
      let same : (a.entry, a.start) ≡ row = same_Some (a.entry, a.start) row (sym first ∙ at) in
      ap (λ r. not (starts a marked rows r)) (sym same) ∙ ap not starts_first
  no_wrong_start (suc k) row at = ap (λ b. b && not (starts a marked rows row)) (later_row k)

  unbroken_by : (k : ℕ) (row : ℕ × S) (b : Bool) → is_marked marked row.0 ≡ b → slice_get rows k ≡ Some row → clause_broken a marked rows k row ≡ None
  unbroken_by k row true is at = unbroken-marked a marked rows k row (no_wrong_start k row at) is
  unbroken_by k row false is at = broken-open a marked rows k row (no_wrong_start k row at) is ∙ row_unbroken k row at is

  none_broken : (n : ℕ) (xs : List (ℕ × S)) → ((k : ℕ) (row : ℕ × S) → slice_get xs k ≡ Some row → clause_broken a marked rows (n + k) row ≡ None)
      → filter_map (test a marked rows) (enumerate_from n xs) ≡ []
  none_broken n [] each = refl
  none_broken n (row ∷ xs) each =
      let zero_more : n ≡ n + 0 = omega arith in
      let here : clause_broken a marked rows n row ≡ None = ap (λ z. clause_broken a marked rows z row) zero_more ∙ each 0 row refl in
      let pairing : ℕ → ℕ × ℕ = λ clause. (n, clause) in
      ap (λ o. cons_option (option_map pairing o) (filter_map (test a marked rows) (enumerate_from (n + 1) xs))) here
      ∙ none_broken (n + 1) xs
      (λ k other at.
      let next : (n + 1) + k ≡ n + suc k = omega arith in
      ap (λ z. clause_broken a marked rows z other) next ∙ each (suc k) other at)

  pub none-fails : first_broken a marked rows ≡ None
  none-fails =
      first_by a marked rows false (some_rows rows (a.entry, a.start) first)
      ∙ ap (λ l. slice_get l 0) (none_broken 0 rows
      (λ k row at.
      let number : 0 + k ≡ k = omega arith in
      ap (λ z. clause_broken a marked rows z row) number ∙ unbroken_by k row (is_marked marked row.0) refl at))

-- ---- the table of a log

module _ {S E C W : Type 0} (a : Analysis S E C W) (budget : ℕ) where
  -- the first row of a log is the start
  first_row : slice_get (log_of a budget).rows 0 ≡ Some (row_after budget [] None a.entry a.start)
  unfolding log_of
  first_row =
      let first = first_log a budget in
      row_kept first (explored a budget budget 0 first) 0 (row_after budget [] None a.entry a.start) (explored-grows a budget budget 0 first) refl

  first_pair : slice_get (map pair_of (log_of a budget).rows) 0 ≡ Some (a.entry, a.start)
  first_pair = slice_get-map pair_of (log_of a budget).rows 0 ∙ ap (option_map pair_of) first_row

-- the open locations of a log, each once
abbrev pub open_set : {S E C W : Type 0} → Analysis S E C W → Log S E C W → List ℕ
open_set a log = ordered_set nat_cmp (map (λ mark. mark.location) (marks_of a log))

nat_exact : IsExact nat_cmp
nat_exact = record { same = exact_unsigned }

module _ {S E C W : Type 0} (a : Analysis S E C W) (log : Log S E C W) where
  open_marked : (location : ℕ) → IsOpen a log location → is_marked (open_set a log) location ≡ true
  open_marked location o =
      let at : Mark C → ℕ = λ mark. mark.location in
      let held : Contains (map at (marks_of a log)) o.mark.location = Contains-map at (marks_of a log) o.mark o.in_marks in
      let kept : Contains (open_set a log) o.mark.location = (ordered_set-is nat_cmp nat_cmp_total nat_exact (map at (marks_of a log))).kept o.mark.location held in
      let P : ℕ → Type 0 = λ l. (o.mark.location == l) ≡ true in
      any_of (λ m. m == location) (open_set a log) o.mark.location kept (subst P o.located (nat-refl o.mark.location))

module _ {D : Type 0} (d : Values D) (l : IsLawful d) (image : Image) (stubs : StatedStubs) (loaded : IsLoaded image) (k budget : ℕ) where
  abbrev analysis : ImageAnalysis D
  analysis = analysis_of d image stubs k

  abbrev log : ImageLog D
  log = image_log d image stubs k budget

  -- no row of the table of a log fails
  pub log-is_closed : first_broken analysis (open_set analysis log) (map pair_of log.rows) ≡ None
  log-is_closed =
      let sound = analysis_sound d l image stubs k loaded in
      none-fails analysis (IsWellState d) (covers-own d l) (covers-through d l)
      (λ seen s w. widening-is_sound d l k (seen_of d seen) s w)
      sound.next_well (open_set analysis log) (map pair_of log.rows) log.edges (IsOpen analysis log)
      (rows_well analysis (machine_of image stubs) (IsWellState d) (IsDescribed d image) sound budget)
      (log_closed analysis budget) (open_marked analysis log) (first_pair analysis budget)
