-- The table of a log: its marks are the open locations, and it is closed.
use Rattle.std.proofs.Common.{◌≡◌, ℕ, ◌+◌, ◌<◌, Bool, true, false, cond, List, [], ◌∷◌, ◌++◌, length, map, take, get_or, Option, Some, None, refl, sym, subst, ap, ◌∙◌, append-nil, arith}
use Rattle.std.specs.Prelude.{filter, filter_map, flat_map, not, option_map, option_to_list, slice_get}
use Rattle.std.specs.List.{enumerate_from}
use Rattle.std.proofs.lemmas.Grind.{flat_map-append}
use Rattle.std.proofs.lemmas.List.{map-append, take_more}
use Rattle.memory_map.specs.Image.{Image, IsLoaded}
use Rattle.stub_file.specs.Stubs.{StatedStubs}
use Rattle.domain_laws.specs.Laws.{Values, IsLawful}
use Rattle.flow_log.specs.declared.cause.Cause.{Cause}
use Rattle.flow_log.specs.declared.cause.Cause.TheVariants.{Budget}
use Rattle.flow_log.specs.Log.{Mark, Row, expansion_mark, mark_of, marks_by, unexpanded_marks}
use Rattle.flow_worklist.specs.Analysis.{ImageLog, image_log}
use Rattle.std.specs.Prelude.{Ok}
use Rattle.bounded_values.specs.declared.value.Bounded.{Bounded}
use Rattle.bounded_values.specs.BoundedLaws.{bounded, bounded-lawful}
use Rattle.table_check.specs.declared.checking.TableAnswer.{TableAnswer}
use Rattle.table_check.specs.declared.checking.TableAnswer.TheVariants.{Yes, No}
use Rattle.table_check.specs.Laws.{RunsAreFollowedBy}
use Rattle.table_check.specs.Reading.{table_read}
use Rattle.table_check.proofs.Closing.{runs-are_followed, yes-closed}
use Rattle.table_check.proofs.Told.{told-well}
use Rattle.table_check.specs.declared.table.Table.{Table}
use Rattle.table_check.specs.Closed.{IsYes, answer_by, table_answer, table_edges}
use Rattle.table_check.proofs.Logging.{log-is_closed}
use Rattle.jakstab_core.specs.Tables.{ChecksRuns, IsChecked, answer_line, left_at, table_of}

-- ---- the marks

abbrev pub at : Mark Cause → ℕ
at mark = mark.location

abbrev of_row : {S : Type 0} → ℕ × Row S → Mark Cause
of_row numbered = mark_of numbered Budget

one_left : {S : Type 0} (n : ℕ) (row : Row S) (rest : List (ℕ × Row S)) (more : List ℕ) (b : Bool) → row.expanded ≡ b → map at (map of_row rest) ≡ more
    → map at (map of_row (cond (not row.expanded) ((n, row) ∷ rest) rest)) ≡ cond row.expanded [] (row.location ∷ []) ++ more
one_left n row rest more true is same =
    ap (λ c. map at (map of_row (cond (not c) ((n, row) ∷ rest) rest))) is ∙ same ∙ sym (ap (λ c. cond c [] (row.location ∷ []) ++ more) is)
one_left n row rest more false is same =
    ap (λ c. map at (map of_row (cond (not c) ((n, row) ∷ rest) rest))) is ∙ ap (λ l. row.location ∷ l) same ∙ sym (ap (λ c. cond c [] (row.location ∷ []) ++ more) is)

all_left : {S : Type 0} (n : ℕ) (rows : List (Row S)) → map at (map of_row (filter (λ (numbered : ℕ × Row S). not numbered.1.expanded) (enumerate_from n rows))) ≡ flat_map left_at rows
all_left n [] = refl
all_left {S} n (row ∷ rows) =
    one_left n row (filter (λ (numbered : ℕ × Row S). not numbered.1.expanded) (enumerate_from (n + 1) rows)) (flat_map left_at rows) row.expanded refl (all_left (n + 1) rows)

-- the locations of the marks of a log
pub marks-at : {D : Type 0} (log : ImageLog D) → map at (marks_by Budget log) ≡ map at (filter_map (expansion_mark log.rows) log.causes) ++ flat_map left_at log.rows
unfolding marks_by
marks-at log =
    map-append at (filter_map (expansion_mark log.rows) log.causes) (unexpanded_marks Budget log.rows)
    ∙ ap (λ l. map at (filter_map (expansion_mark log.rows) log.causes) ++ l) (all_left 0 log.rows)

pub mark-at : {S : Type 0} (rows : List (Row S)) (number place : ℕ) (cause : Cause) → Some place ≡ option_map (λ (row : Row S). row.location) (slice_get rows number)
    → option_to_list (option_map at (expansion_mark rows (number, cause))) ≡ place ∷ []
mark-at {S} rows number place cause e = by_row (slice_get rows number) e
  where
    by_row : (o : Option (Row S)) → Some place ≡ option_map (λ (row : Row S). row.location) o
        → option_to_list (option_map at (option_map (λ (row : Row S). mark_of (number, row) cause) o)) ≡ place ∷ []
    by_row None e' = cc
    by_row (Some row) e' = (let same : place ≡ row.location = cc in ap (λ n. n ∷ []) (sym same))

pub no-mark : {S : Type 0} (rows : List (Row S)) (number : ℕ) (cause : Cause) → None ≡ option_map (λ (row : Row S). row.location) (slice_get rows number)
    → option_to_list (option_map at (expansion_mark rows (number, cause))) ≡ []
no-mark {S} rows number cause e = by_row (slice_get rows number) e
  where
    by_row : (o : Option (Row S)) → None ≡ option_map (λ (row : Row S). row.location) o
        → option_to_list (option_map at (option_map (λ (row : Row S). mark_of (number, row) cause) o)) ≡ []
    by_row None e' = refl
    by_row (Some row) e' = cc

-- one row more
pub left-more : {S : Type 0} (rows : List (Row S)) (i : ℕ) (row : Row S) → i < length rows → row ≡ get_or rows i row
    → flat_map left_at (take (i + 1) rows) ≡ flat_map left_at (take i rows) ++ left_at row
left-more rows i row within is =
    ap (flat_map left_at) (take_more rows i row within ∙ ap (λ r. take i rows ++ r ∷ []) (sym is))
    ∙ flat_map-append left_at (take i rows) (row ∷ []) ∙ ap (λ l. flat_map left_at (take i rows) ++ l) (append-nil (left_at row))

-- ---- closed

module _ {D : Type 0} (d : Values D) (l : IsLawful d) (image : Image) (stubs : StatedStubs) (loaded : IsLoaded image) (k budget : ℕ) where
  log-closed : IsYes (table_answer d image stubs (table_of k (image_log d image stubs k budget)))
  unfolding table_of table_answer
  log-closed =
      let t : Table D = table_of k (image_log d image stubs k budget) in
      let P : Option (ℕ × ℕ) → Type 0 = λ o. IsYes (answer_by o (table_edges d image stubs t)) in
      subst P (sym (log-is_closed d l image stubs loaded k budget)) tt

  -- the table of the log of an image is closed
  pub table-closed : (log : ImageLog D) → log ≡ image_log d image stubs k budget → IsYes (table_answer d image stubs (table_of k log))
  table-closed log is = let P : ImageLog D → Type 0 = λ x. IsYes (table_answer d image stubs (table_of k x)) in subst P (sym is) log-closed

-- ---- the line of `check`

-- the lines of a yes and of a no begin otherwise
apart : (n y : ℕ) → n ≡ 110 → y ≡ 121 → n ≡ y → ⊥
apart n y is_n is_y e = omega arith

yes_line : (answer : TableAnswer) (rows more edges : ℕ) → answer_line rows answer ≡ answer_line more (Yes edges) → IsYes answer
yes_line (Yes found) rows more edges e = tt
yes_line (No row kind) rows more edges e = apart 110 121 refl refl (ap (λ line. get_or line 0 0) e)

pub check_covers : (stubs : StatedStubs) (image : Image) (told text : List ℕ) (refuted : Bool) → IsLoaded image → IsChecked image stubs told text refuted → ChecksRuns image stubs told text
check_covers stubs image told text refuted loaded c table rows edges read line =
    let same : c.table ≡ table = (let both : Ok c.table ≡ Ok table = sym c.read ∙ read in cc) in
    let P : Table Bounded → Type 0 = λ t. text ≡ answer_line (length t.rows) (table_answer bounded image stubs t) in
    let said : text ≡ answer_line (length table.rows) (table_answer bounded image stubs table) = subst P same c.line in
    let yes : IsYes (table_answer bounded image stubs table) = yes_line (table_answer bounded image stubs table) (length table.rows) rows edges (sym said ∙ line) in
    runs-are_followed bounded bounded-lawful image stubs table loaded (told-well image told table read) (yes-closed bounded bounded-lawful image stubs table yes)
