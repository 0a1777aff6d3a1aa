-- The analysis of an image, its log, and the automaton of a log.
use Rattle.std.specs.Prelude.{ℕ, Some, List, map, unwrap_or, option_map, slice_get}
use Rattle.std.specs.Ordering.{nat_cmp}
use Rattle.memory_map.specs.Image.{Image, name_at}
use Rattle.flow_log.specs.declared.cause.Cause.{Cause}
use Rattle.flow_log.specs.declared.cause.Cause.TheVariants as causes
use Rattle.flow_log.specs.declared.edge.Edge.{Edge}
use Rattle.flow_log.specs.declared.edge.Label.{Label}
use Rattle.flow_log.specs.Analysis.{Analysis}
use Rattle.flow_log.specs.Log.{Log, Row, Mark, log_of, marks_by}
use Rattle.flow_log.specs.Ordered.{ordered_set}
use Rattle.flow_log.specs.Orders.{edge_cmp}
use Rattle.x86_machine.specs.Machine.{label_by}
use Rattle.automaton_text.specs.Orders.{first_marks}
use Rattle.automaton_text.specs.declared.automaton.Automaton.{Automaton}
use Rattle.automaton_text.specs.declared.automaton.Location.{Location}
use Rattle.automaton_text.specs.declared.automaton.OpenMark.{OpenMark}
use Rattle.stub_file.specs.Stubs.{StatedStubs}
use Rattle.domain_laws.specs.Laws.{Values}
use Rattle.abstract_state.specs.State.{Known, start_state, covers_state}
use Rattle.abstract_state.specs.Expanding.{Written}
use Rattle.abstract_state.specs.Widening.{seen_of, widened_state}
use Rattle.transfer_functions.specs.Fetching.{known_run}
use Rattle.flow_worklist.specs.Post.{post}

abbrev pub ImageAnalysis : Type 0 → Type 0
ImageAnalysis D = Analysis (Known D) Edge Cause Written

abbrev pub ImageLog : Type 0 → Type 0
ImageLog D = Log (Known D) Edge Cause Written

-- the edges of the steps from an address that have a label
abbrev pub edge_by : ℕ → Label → ℕ → Edge
edge_by from label to = record { from = from; to = to; label = label }

module _ {D : Type 0} (d : Values D) where
  -- the edge from a row: its label is the bytes of its instruction as the row knows them, or the import's name
  unfoldable pub edge_from : Image → ℕ → Known D → ℕ → Edge
  edge_from image from s to = edge_by from (label_by (name_at image from) (known_run d image s from)) to

  -- a state widened by the states of the earlier rows at its location: a value is raised where k of its rank were seen
  abbrev pub widened_by : ℕ → List (Known D) → Known D → Known D
  widened_by k seen s = widened_state d k (seen_of d seen) s

  -- the analysis of an image with stubs over a domain
  abbrev pub analysis_of : Image → StatedStubs → ℕ → ImageAnalysis D
  analysis_of image stubs k = record {
    entry = image.entry;
    start = start_state d image;
    expand = λ a s. post d image stubs k a s;
    edge = λ a s to. edge_from image a s to;
    covers = covers_state d;
    widen = widened_by k;
    unexpanded = causes.Budget;
  }

  abbrev pub image_log : Image → StatedStubs → ℕ → ℕ → ImageLog D
  image_log image stubs k budget = log_of (analysis_of image stubs k) budget

abbrev pub location_of : Image → ℕ → Location
location_of image a = record { at = a; name = name_at image a }

-- the mark of a row
abbrev pub open_at : ℕ → Cause → ℕ → OpenMark
open_at at cause row = record { at = at; cause = cause; row = Some row }

abbrev pub open_mark : Mark Cause → OpenMark
open_mark mark = open_at mark.location mark.cause mark.row

-- where the first row is
abbrev pub entry_of : {S : Type 0} → List (Row S) → ℕ
entry_of rows = unwrap_or (option_map (λ row. row.location) (slice_get rows 0)) 0

-- the automaton of a log: each list in order, each member once; of the marks of one location and cause that of the least row
unfoldable pub automaton_of : {S : Type 0} → Image → Log S Edge Cause Written → Automaton
automaton_of image log = record {
  version = 2;
  entry = entry_of log.rows;
  locations = map (location_of image) (ordered_set nat_cmp (map (λ row. row.location) log.rows));
  edges = ordered_set edge_cmp log.edges;
  marks = first_marks (map open_mark (marks_by causes.Budget log));
}
