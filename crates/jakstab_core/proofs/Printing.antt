-- The automaton of a log can be printed in each version.
use Rattle.std.proofs.Common.{◌≡◌, ℕ, true, List, map, refl, sym, subst, ap}
use Rattle.std.specs.Prelude.{◌==◌, is_some}
use Rattle.std.proofs.lemmas.List.Elements.{All-map, All-weaker}
use Rattle.memory_map.specs.Image.{Image}
use Rattle.stub_file.specs.Stubs.{StatedStubs}
use Rattle.automaton_text.specs.Text.{AreSpelled, HaveRowsBy, is_version, without_row}
use Rattle.automaton_text.specs.declared.automaton.Automaton.{Automaton}
use Rattle.automaton_text.specs.declared.automaton.OpenMark.{OpenMark}
use Rattle.domain_laws.specs.Laws.{Values}
use Rattle.domain_laws.specs.FlatLaws.{flat}
use Rattle.bounded_values.specs.BoundedLaws.{bounded}
use Rattle.interval_values.specs.IntervalLaws.{interval}
use Rattle.flow_worklist.specs.Analysis.{automaton_of}
use Rattle.flow_worklist.proofs.Spelling.{automaton_spelled, automaton_rows}
use Rattle.command_words.specs.declared.task.DomainName.{DomainName}
use Rattle.command_words.specs.declared.task.DomainName.TheVariants.{Flat, Bounded, Interval}
use Rattle.command_words.specs.declared.task.TextVersion.{TextVersion}
use Rattle.command_words.specs.declared.task.TextVersion.TheVariants.{First, Second}
use Rattle.jakstab_core.specs.Headline.{log_automaton, automaton_over, in_version}

-- it is one of version 2, its labels are spelled, and its marks have rows
pub record IsOfLog (a : Automaton) : Type 0 where
  pub version : a.version ≡ 2
  pub spelled : AreSpelled a.edges
  pub rows : HaveRowsBy 2 a.marks

log_found : {D : Type 0} (d : Values D) (image : Image) (stubs : StatedStubs) (k budget : ℕ) → IsOfLog (log_automaton d image stubs k budget)
unfolding log_automaton automaton_of
log_found d image stubs k budget = record { version = refl; spelled = automaton_spelled d image stubs k budget; rows = automaton_rows d image stubs k budget }

pub found_over : (domain : DomainName) (image : Image) (stubs : StatedStubs) (k budget : ℕ) → IsOfLog (automaton_over domain image stubs k budget)
found_over Flat image stubs k budget = log_found flat image stubs k budget
found_over Bounded image stubs k budget = log_found bounded image stubs k budget
found_over Interval image stubs k budget = log_found interval image stubs k budget

-- what printing asks of an automaton
pub record IsPrintable (a : Automaton) : Type 0 where
  pub spelled : AreSpelled a.edges
  pub version : is_version a.version ≡ true
  pub rows : HaveRowsBy a.version a.marks

without_rows : (marks : List OpenMark) → HaveRowsBy 2 marks → HaveRowsBy 1 (map without_row marks)
without_rows marks rows =
    All-map (λ (m : OpenMark). is_some m.row ≡ (1 == 2)) without_row marks
    (All-weaker (λ (m : OpenMark). is_some m.row ≡ (2 == 2)) (λ (m : OpenMark). is_some (without_row m).row ≡ (1 == 2)) (λ m row. refl) marks rows)

printable_by : (version : ℕ) (marks : List OpenMark) → version ≡ 2 → HaveRowsBy 2 marks → HaveRowsBy version marks
printable_by version marks is rows = let P : ℕ → Type 0 = λ v. HaveRowsBy v marks in subst P (sym is) rows

-- and each version of it can be printed
pub printable : (version : TextVersion) (a : Automaton) → IsOfLog a → IsPrintable (in_version version a)
printable First a f = record { spelled = f.spelled; version = refl; rows = without_rows a.marks f.rows }
printable Second a f = record { spelled = f.spelled; version = ap is_version f.version; rows = printable_by a.version a.marks f.version f.rows }
