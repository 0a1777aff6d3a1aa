-- The headline: the theorem on the log, carried to the lines of its text, and to replays against its automaton.
use Rattle.std.proofs.Common.{◌≡◌, ℕ, List, [], ◌∷◌, map, subst, refl, sym, ◌∙◌}
use Rattle.std.specs.Prelude.{Contains, ⊤}
use Rattle.memory_map.specs.Image.{Image, IsLoaded}
use Rattle.memory_map.specs.Start.{Start}
use Rattle.memory_map.specs.State.{MachineState}
use Rattle.stub_file.specs.Stubs.{StatedStubs}
use Rattle.flow_log.specs.declared.edge.Edge.{Edge}
use Rattle.flow_log.specs.declared.cause.Cause.{Cause}
use Rattle.flow_log.specs.Log.{Mark, IsOpen, marks_of}
use Rattle.flow_log.specs.Run.{Follows, IsRun}
use Rattle.flow_log.proofs.Members.{Contains-map}
use Rattle.flow_log.proofs.Orders.{Contains-edge_set}
use Rattle.x86_machine.specs.Machine.{machine_of, edge_of}
use Rattle.x86_machine.proofs.StatesMeet.{states_meet_start}
use Rattle.run_replayer.specs.Laws.{LeavesBy}
use Rattle.run_replayer.proofs.Leaving.{leaves_by}
use Rattle.automaton_text.specs.Text.{edge_line, text_of, without_row}
use Rattle.automaton_text.specs.declared.automaton.Automaton.{Automaton}
use Rattle.automaton_text.specs.Orderly.{IsOrderly}
use Rattle.automaton_text.proofs.Told.{texts_tell}
use Rattle.run_replayer.specs.declared.verdict.Verdict.TheVariants.{NotAnEdge}
use Rattle.run_replayer.specs.Verdict.{VerdictOf, open_of}
use Rattle.automaton_text.specs.declared.automaton.OpenMark.{OpenMark}
use Rattle.automaton_text.proofs.Firsts.{IsOpenedFirst, opened_first}
use Rattle.domain_laws.specs.Laws.{Values, IsLawful}
use Rattle.domain_laws.specs.FlatLaws.{flat, flat-lawful}
use Rattle.bounded_values.specs.BoundedLaws.{bounded, bounded-lawful}
use Rattle.interval_values.specs.IntervalLaws.{interval, interval-lawful}
use Rattle.flow_worklist.specs.Analysis.{ImageAnalysis, ImageLog, analysis_of, image_log, automaton_of, open_mark}
use Rattle.flow_worklist.specs.Laws.{IsKnownTo}
use Rattle.flow_worklist.proofs.Following.{runs-are_followed}
use Rattle.command_words.specs.declared.task.DomainName.{DomainName}
use Rattle.command_words.specs.declared.task.DomainName.TheVariants.{Flat, Bounded, Interval}
use Rattle.command_words.specs.declared.task.Options.{Options}
use Rattle.command_words.specs.declared.task.TextVersion.{TextVersion}
use Rattle.command_words.specs.declared.task.TextVersion.TheVariants.{First, Second}
use Rattle.jakstab_core.specs.Headline.{HasLine, IsPrintedOpen, IsCovered, CoversRuns, log_automaton, automaton_over, in_version, recovered, recovered_text}
use Rattle.jakstab_core.specs.Laws.{ReplaysFindEdges, ReplaysOfTextsFindEdges}
use Rattle.jakstab_core.proofs.Lines.{has_edge_line, has_open_line}
use Rattle.jakstab_core.proofs.Printing.{found_over, printable}
use Rattle.jakstab_core.proofs.SameLines.{same_edges, same_open}

-- each version has the edges of the automaton
edges_told : (version : TextVersion) (a : Automaton) → (in_version version a).edges ≡ a.edges
edges_told First a = refl
edges_told Second a = refl

-- and a mark at each address that it marks
record IsTold (version : TextVersion) (a : Automaton) (m : OpenMark) : Type 0 where
  told : OpenMark
  held : Contains (in_version version a).marks told
  at : told.at ≡ m.at

mark_told : (version : TextVersion) (a : Automaton) (m : OpenMark) → Contains a.marks m → IsTold version a m
mark_told First a m held = record { told = without_row m; held = Contains-map without_row a.marks m held; at = refl }
mark_told Second a m held = record { told = m; held = held; at = refl }

module _ {D : Type 0} (d : Values D) (lawful : IsLawful d) (image : Image) (stubs : StatedStubs) (loaded : IsLoaded image) (k budget : ℕ) (version : TextVersion) where
  abbrev analysis : ImageAnalysis D
  analysis = analysis_of d image stubs k

  abbrev log : ImageLog D
  log = image_log d image stubs k budget

  abbrev found : Automaton
  found = log_automaton d image stubs k budget

  abbrev told : Automaton
  told = in_version version found

  mark_in : (mark : Mark Cause) → Contains (marks_of analysis log) mark → IsOpenedFirst (map open_mark (marks_of analysis log)) (open_mark mark)
  mark_in mark held = opened_first (map open_mark (marks_of analysis log)) (open_mark mark) (Contains-map open_mark (marks_of analysis log) mark held)

  first_told : (mark : Mark Cause) (first : IsOpenedFirst (map open_mark (marks_of analysis log)) (open_mark mark)) → IsTold version found first.first
  unfolding log_automaton automaton_of
  first_told mark first = mark_told version found first.first first.held

  -- a mark is printed
  printed_mark : (a : ℕ) (mark : Mark Cause) → Contains (marks_of analysis log) mark → mark.location ≡ a → IsPrintedOpen (text_of told) a
  printed_mark a mark held located =
      let first : IsOpenedFirst (map open_mark (marks_of analysis log)) (open_mark mark) = mark_in mark held in
      let there : IsTold version found first.first = first_told mark first in
      (there.told, there.at ∙ first.at ∙ located, has_open_line told there.told there.held)

  printed_open : (a : ℕ) → IsOpen analysis log a → IsPrintedOpen (text_of told) a
  printed_open a open_there = printed_mark a open_there.mark open_there.in_marks open_there.located

  edge_in : (e : Edge) → Contains log.edges e → Contains found.edges e
  unfolding log_automaton automaton_of
  edge_in e held = Contains-edge_set log.edges e held

  edge_there : (e : Edge) → Contains log.edges e → Contains told.edges e
  edge_there e held = let P : List Edge → Type 0 = λ edges. Contains edges e in subst P (sym (edges_told version found)) (edge_in e held)

  printed_edge : (e : Edge) → Contains log.edges e → HasLine (text_of told) (edge_line e)
  printed_edge e held = has_edge_line told e (edge_there e held)

  covered : (m : MachineState) (states : List MachineState)
      → Follows (machine_of image stubs) (IsKnownTo d image log) (IsOpen analysis log) log.edges m states
      → IsCovered image (text_of told) m states
  covered m [] f = tt
  covered m (next ∷ rest) f = λ shut.
      let step = f.1 (λ at. shut (printed_open m.eip at)) in
      (printed_edge (edge_of image m next) step.0, covered next rest step.1)

  log_covers : CoversRuns image stubs (text_of told)
  log_covers = λ m start states run. covered m states (runs-are_followed d lawful image stubs k budget m states loaded start run)

  -- a location that the log leaves open is marked
  marked_by : (a : ℕ) (mark : Mark Cause) → Contains (marks_of analysis log) mark → mark.location ≡ a → Contains (open_of told) a
  marked_by a mark held located =
      let first : IsOpenedFirst (map open_mark (marks_of analysis log)) (open_mark mark) = mark_in mark held in
      let there : IsTold version found first.first = first_told mark first in
      let P : ℕ → Type 0 = Contains (open_of told) in
      subst P (there.at ∙ first.at ∙ located) (Contains-map (λ (m : OpenMark). m.at) told.marks there.told there.held)

  marked_open : (a : ℕ) → IsOpen analysis log a → Contains (open_of told) a
  marked_open a open_there = marked_by a open_there.mark open_there.in_marks open_there.located

  inside : (m : MachineState) (states : List MachineState)
      → Follows (machine_of image stubs) (IsKnownTo d image log) (IsOpen analysis log) log.edges m states
      → Follows (machine_of image stubs) (λ m. ⊤) (Contains (open_of told)) told.edges m states
  inside m [] f = tt
  inside m (next ∷ rest) f = (
    tt,
    λ shut.
        let step = f.1 (λ at. shut (marked_open m.eip at)) in
        (edge_there (edge_of image m next) step.0, inside next rest step.1),
  )

  log_inside : (m : MachineState) (states : List MachineState) → Start image m → IsRun (machine_of image stubs) m states
      → Follows (machine_of image stubs) (λ m. ⊤) (Contains (open_of told)) told.edges m states
  log_inside m states start run = inside m states (runs-are_followed d lawful image stubs k budget m states loaded start run)

covers_over : (image : Image) (stubs : StatedStubs) → IsLoaded image → (domain : DomainName) (k budget : ℕ) (version : TextVersion)
    → CoversRuns image stubs (text_of (in_version version (automaton_over domain image stubs k budget)))
covers_over image stubs loaded Flat k budget version = log_covers flat flat-lawful image stubs loaded k budget version
covers_over image stubs loaded Bounded k budget version = log_covers bounded bounded-lawful image stubs loaded k budget version
covers_over image stubs loaded Interval k budget version = log_covers interval interval-lawful image stubs loaded k budget version

-- no run leaves the printed automaton before a location that is printed open
pub text_covers : (image : Image) (stubs : StatedStubs) → IsLoaded image → (options : Options) (version : TextVersion) → CoversRuns image stubs (recovered_text image stubs options version)
text_covers image stubs loaded options version = covers_over image stubs loaded options.domain options.k options.budget version

-- ---- replays against it

abbrev StaysInside : Image → StatedStubs → Automaton → Type 0
StaysInside image stubs a =
    (m : MachineState) (states : List MachineState) → Start image m → IsRun (machine_of image stubs) m states
    → Follows (machine_of image stubs) (λ m. ⊤) (Contains (open_of a)) a.edges m states

inside_over : (image : Image) (stubs : StatedStubs) → IsLoaded image → (domain : DomainName) (k budget : ℕ) (version : TextVersion) → StaysInside image stubs (in_version version (automaton_over domain image stubs k budget))
inside_over image stubs loaded Flat k budget version = log_inside flat flat-lawful image stubs loaded k budget version
inside_over image stubs loaded Bounded k budget version = log_inside bounded bounded-lawful image stubs loaded k budget version
inside_over image stubs loaded Interval k budget version = log_inside interval interval-lawful image stubs loaded k budget version

pub replays_find : ReplaysFindEdges
replays_find image stubs options version taken n from to loaded start verdict =
    let a : Automaton = in_version version (recovered image stubs options) in
    let l : LeavesBy image stubs a taken = leaves_by image stubs a taken n from to verdict in
    l.leaves (inside_over image stubs loaded options.domain options.k options.budget version l.state l.states (states_meet_start image taken.start l.state loaded start l.starts) l.run)

-- two automata of which the first has all edges and marks of the second
stays_too : (image : Image) (stubs : StatedStubs) (a b : Automaton) → ((x : Edge) → Contains b.edges x → Contains a.edges x) → ((at : ℕ) → Contains (open_of b) at → Contains (open_of a) at)
    → (m : MachineState) (states : List MachineState)
    → Follows (machine_of image stubs) (λ m. ⊤) (Contains (open_of b)) b.edges m states → Follows (machine_of image stubs) (λ m. ⊤) (Contains (open_of a)) a.edges m states
stays_too image stubs a b edges opened m [] f = tt
stays_too image stubs a b edges opened m (next ∷ rest) f = (
  tt,
  λ shut.
      let step = f.1 (λ at. shut (opened m.eip at)) in
      (edges (edge_of image m next) step.0, stays_too image stubs a b edges opened next rest step.1),
)

pub replays_of_texts_find : ReplaysOfTextsFindEdges
replays_of_texts_find image stubs options version a taken n from to loaded printed fits short read start verdict =
    let b : Automaton = in_version version (recovered image stubs options) in
    let told : IsOrderly a × (text_of a ≡ text_of b) = texts_tell (text_of b) a short read in
    let other = (printable version (recovered image stubs options) (found_over options.domain image stubs options.k options.budget)).version in
    let l : LeavesBy image stubs a taken = leaves_by image stubs a taken n from to verdict in
    l.leaves (stays_too image stubs a b
    (same_edges a b fits printed told.0.version other told.1) (same_open a b fits printed told.0.version other told.1) l.state l.states
    (inside_over image stubs loaded options.domain options.k options.budget version l.state l.states (states_meet_start image taken.start l.state loaded start l.starts) l.run))
