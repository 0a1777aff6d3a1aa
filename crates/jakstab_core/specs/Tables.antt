-- The table of a log: its rows, with the locations that it leaves open; and what is written of tables.
use Rattle.std.specs.Prelude.{ℕ, ◌≡◌, Bool, true, false, List, [], ◌∷◌, ◌++◌, length, map, codes, if◌then◌else◌, Ok}
use Rattle.std.specs.Ordering.{nat_cmp}
use Rattle.memory_map.specs.Image.{Image}
use Rattle.stub_file.specs.Stubs.{StatedStubs}
use Rattle.text_fields.specs.Line.{newline}
use Rattle.bounded_values.specs.declared.value.Bounded.{Bounded}
use Rattle.bounded_values.specs.BoundedLaws.{bounded}
use Rattle.flow_log.specs.declared.cause.Cause.TheVariants as causes
use Rattle.flow_log.specs.Log.{Row, marks_by, pair_of}
use Rattle.flow_log.specs.Ordered.{ordered_set}
use Rattle.flow_worklist.specs.Analysis.{ImageLog, image_log}
use Rattle.run_replayer.specs.VerdictLine.{number_field}
use Rattle.table_check.specs.declared.table.Table.{Table}
use Rattle.table_check.specs.declared.checking.TableAnswer.{TableAnswer}
use Rattle.table_check.specs.declared.checking.TableAnswer.TheVariants.{Yes, No}
use Rattle.table_check.specs.Closed.{table_answer}
use Rattle.table_check.specs.Laws.{RunsAreFollowedBy}
use Rattle.table_check.specs.Reading.{table_read}
use Rattle.table_check.specs.Text.{table_text}

unfoldable pub table_of : {D : Type 0} → ℕ → ImageLog D → Table D
table_of k log = record {
  k = k;
  rows = map pair_of log.rows;
  marked = ordered_set nat_cmp (map (λ mark. mark.location) (marks_by causes.Budget log));
}

-- the location of a row that was not expanded
abbrev pub left_at : {S : Type 0} → Row S → List ℕ
left_at row = if row.expanded then [] else row.location ∷ []

-- the text of `table`
abbrev pub tabulated_text : Image → StatedStubs → ℕ → ℕ → List ℕ
tabulated_text image stubs k budget = table_text (table_of k (image_log bounded image stubs k budget))

-- ---- the line of `check`

-- the answer on a table with so many rows
abbrev pub answer_line : ℕ → TableAnswer → List ℕ
answer_line rows (Yes edges) = codes "yes" ++ number_field rows ++ number_field edges ++ newline
answer_line rows (No row kind) = codes "no" ++ number_field row ++ number_field kind ++ newline

abbrev pub is_no : TableAnswer → Bool
is_no (Yes edges) = false
is_no (No row kind) = true

-- a text tells a table of the image, and this is the line of its answer, and whether that says no
pub record IsChecked (image : Image) (stubs : StatedStubs) (told text : List ℕ) (refuted : Bool) : Type 0 where
  pub table : Table Bounded
  pub read : table_read image told ≡ Ok table
  pub line : text ≡ answer_line (length table.rows) (table_answer bounded image stubs table)
  pub says : refuted ≡ is_no (table_answer bounded image stubs table)

-- where the line says yes, no run leaves the table that is told before it first stands at a marked location
abbrev pub ChecksRuns : Image → StatedStubs → List ℕ → List ℕ → Type 0
ChecksRuns image stubs told text =
    (table : Table Bounded) (rows edges : ℕ) → table_read image told ≡ Ok table → text ≡ answer_line rows (Yes edges) → RunsAreFollowedBy bounded image stubs table
