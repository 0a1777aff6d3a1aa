-- The summary of the log of a demo image.
use Rattle.std.specs.Prelude.{ℕ, List, ◌++◌, length, codes, decimal}
use Rattle.memory_map.specs.Image.{Image}
use Rattle.stub_file.specs.Stubs.{StatedStubs}
use Rattle.text_fields.specs.Line.{newline}
use Rattle.domain_laws.specs.Laws.{Values}
use Rattle.domain_laws.specs.FlatLaws.{flat}
use Rattle.bounded_values.specs.BoundedLaws.{bounded}
use Rattle.interval_values.specs.IntervalLaws.{interval}
use Rattle.flow_worklist.specs.Analysis.{ImageLog, image_log, automaton_of}
use Rattle.automaton_text.specs.declared.automaton.Automaton.{Automaton}
use Rattle.command_words.specs.declared.task.DomainName.{DomainName}
use Rattle.command_words.specs.declared.task.DomainName.TheVariants.{Flat, Bounded, Interval}
use Rattle.command_words.specs.declared.task.Options.{Options}
use Rattle.jakstab_core.specs.declared.summary.Counts.{Counts}

-- how many rows a log has, and how many locations, edges and marks its automaton
abbrev pub counted : {D : Type 0} → ImageLog D → Automaton → Counts
counted log a = record { rows = length log.rows; locations = length a.locations; edges = length a.edges; opens = length a.marks }

unfoldable pub log_counts : {D : Type 0} → Values D → Image → StatedStubs → ℕ → ℕ → Counts
log_counts d image stubs k budget = counted (image_log d image stubs k budget) (automaton_of image (image_log d image stubs k budget))

-- over the domain of this name
abbrev pub counts_over : DomainName → Image → StatedStubs → ℕ → ℕ → Counts
counts_over Flat image stubs k budget = log_counts flat image stubs k budget
counts_over Bounded image stubs k budget = log_counts bounded image stubs k budget
counts_over Interval image stubs k budget = log_counts interval image stubs k budget

abbrev pub counts_text : Counts → List ℕ
counts_text c = codes " rows " ++ decimal c.rows ++ codes " locations " ++ decimal c.locations ++ codes " edges " ++ decimal c.edges ++ codes " opens " ++ decimal c.opens

unfoldable pub summary_line : ℕ → Counts → List ℕ
summary_line blocks c = codes "demo " ++ decimal blocks ++ counts_text c ++ newline

-- the line of the demo image of so many blocks
abbrev pub summary_of : Image → StatedStubs → ℕ → Options → List ℕ
summary_of image stubs blocks options = summary_line blocks (counts_over options.domain image stubs options.k options.budget)
