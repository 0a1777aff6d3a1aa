-- The answer by what the code finds is the table's, and a yes is the theorem.
use Rattle.std.proofs.Common.{◌≡◌, ◌==◌, true, false, List, length, sym, subst}
use Rattle.std.specs.Prelude.{All}
use Rattle.memory_map.specs.Image.{Image, IsLoaded}
use Rattle.stub_file.specs.Stubs.{StatedStubs}
use Rattle.domain_laws.specs.Laws.{Values, IsLawful}
use Rattle.abstract_state.specs.State.{IsWellState}
use Rattle.table_check.specs.declared.table.Table.{Table}
use Rattle.table_check.specs.declared.checking.TableAnswer.{TableAnswer}
use Rattle.table_check.specs.declared.checking.TableAnswer.TheVariants.{No}
use Rattle.table_check.specs.declared.finding.Finding.{Finding}
use Rattle.table_check.specs.Checking.{AreFindings, answer_found, table_analysis}
use Rattle.table_check.specs.Closed.{IsYes, table_answer, START}
use Rattle.table_check.specs.Laws.{RunsAreFollowedBy}
use Rattle.table_check.proofs.Answering.{answer-is, answer-none}
use Rattle.table_check.proofs.Closing.{runs-are_followed, yes-closed}

module _ {D : Type 0} (d : Values D) (image : Image) (stubs : StatedStubs) (t : Table D) where
  pub answered : (found : List Finding) → (length t.rows == 0) ≡ false → AreFindings d image stubs t found → answer_found found ≡ table_answer d image stubs t
  unfolding table_answer
  answered found some are = answer-is (table_analysis d image stubs t) t.marked t.rows found some are

  -- a table without rows fails at row 0
  pub rowless : (length t.rows == 0) ≡ true → No 0 START ≡ table_answer d image stubs t
  unfolding table_answer
  rowless none = sym (answer-none (table_analysis d image stubs t) t.marked t.rows none)

  pub yes-followed : IsLawful d → IsLoaded image → All (λ row. IsWellState d row.1) t.rows → (answer : TableAnswer) → answer ≡ table_answer d image stubs t → IsYes answer
      → RunsAreFollowedBy d image stubs t
  yes-followed l loaded well answer is said = runs-are_followed d l image stubs t loaded well (yes-closed d l image stubs t (subst IsYes is said))
