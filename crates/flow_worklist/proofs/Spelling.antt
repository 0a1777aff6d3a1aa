-- The edges of a log of an image are labelled by spellings, and the log has a row.
use Rattle.std.proofs.Common.{◌≡◌, ℕ, zero, suc, ◌+◌, ◌<◌, true, List, [], ◌∷◌, length, Option, Some, None, refl, sym, ap, subst}
use Rattle.std.specs.Option.{IsSome}
use Rattle.std.specs.Prelude.{Contains, All, is_some, map, slice_get}
use Rattle.std.proofs.lemmas.List.Elements.{All-cons, All-map, All-push, All-nil, All-weaker, All-contains, All-contains_itself}
use Rattle.std.proofs.lemmas.Option.{slice_get_within}
use Rattle.memory_map.specs.Image.{Image, name_at}
use Rattle.x86_syntax.specs.declared.instr.Instr.{Instr}
use Rattle.x86_syntax.specs.Decodes.{Decodes, decoded}
use Rattle.x86_syntax.proofs.DecodesLemmas.{decoded_finds}
use Rattle.flow_log.specs.declared.edge.Edge.{Edge}
use Rattle.flow_log.specs.declared.edge.Label.TheVariants as labels
use Rattle.flow_log.specs.contracts.edge.EdgeOrd.TheImpl as edges
use Rattle.flow_log.specs.declared.cause.Cause.{Cause}
use Rattle.flow_log.specs.declared.cause.Cause.TheVariants as causes
use Rattle.flow_log.specs.Log.{Mark, marks_by, with_next_pair, with_next_pairs, with_notes, with_expansion, at_row, explored, log_of, first_log, row_after}
use Rattle.flow_log.specs.Ordered.{ordered_set}
use Rattle.flow_log.specs.Orders.{edge_cmp}
use Rattle.flow_log.proofs.Members.{Contains-here, Contains-later}
use Rattle.flow_log.proofs.Growing.{Grows, row_kept, explored-grows}
use Rattle.flow_log.proofs.Ordering.{ordered_set-is, IsSetOf}
use Rattle.flow_log.proofs.Orders.{derived_exact, edge_sets}
use Rattle.automaton_text.specs.Orders.{first_marks}
use Rattle.automaton_text.specs.Text.{IsSpelled, AreSpelled, HaveRowsBy}
use Rattle.automaton_text.proofs.Firsts.{Contains-from_first_marks}
use Rattle.x86_machine.specs.Machine.{label_by, instr_bytes}
use Rattle.stub_file.specs.Stubs.{StatedStubs}
use Rattle.domain_laws.specs.Laws.{Values}
use Rattle.abstract_state.specs.State.{Known, covers_state, start_state}
use Rattle.flow_worklist.specs.declared.site.Site.{Site}
use Rattle.flow_worklist.specs.declared.site.Site.TheVariants.{Exit, Import, Code}
use Rattle.transfer_functions.specs.Fetching.{known_run}
use Rattle.flow_worklist.specs.Post.{post, site_at}
use Rattle.flow_worklist.specs.Analysis.{ImageLog, analysis_of, image_log, automaton_of, edge_from, open_mark, widened_by}
use Rattle.flow_worklist.proofs.Posting.{no_pair, import_named, code_unnamed, post_is, post_code_is}

module _ {D : Type 0} (d : Values D) (image : Image) (stubs : StatedStubs) (k : ℕ) where
  abbrev Spelled : Edge → Type 0
  Spelled e = IsSpelled e.label

  spelled_name : (name : Option (List ℕ)) (bytes : List ℕ) → IsSome name → IsSpelled (label_by name bytes)
  spelled_name None bytes some = cc
  spelled_name (Some name) bytes some = tt

  spelled_code : (a : ℕ) (s : Known D) (pair : ℕ × Known D) (found : Option (Instr × ℕ)) → site_at image a ≡ Code → decoded (known_run d image s a) ≡ found
      → Contains (post d image stubs k a s).next pair → IsSpelled (labels.Code (record { items = instr_bytes (decoded (known_run d image s a)) (known_run d image s a) }))
  spelled_code a s pair None is found held = no_pair (post d image stubs k a s).next pair _ (ap (λ x. x.next) (post_code_is d image stubs k a s None is found)) held
  spelled_code a s pair (Some p) is found held =
      let bytes = (known_run d image s a) in
      let P : Option (Instr × ℕ) → Type 0 = λ o. IsSpelled (labels.Code (record { items = instr_bytes o bytes })) in
      let there : Decodes bytes p.0 p.1 = decoded_finds bytes p.0 p.1 found in
      subst P (sym found) (p.0, there.names)

  spelled_site : (a : ℕ) (s : Known D) (pair : ℕ × Known D) (site : Site) → site_at image a ≡ site → Contains (post d image stubs k a s).next pair
      → IsSpelled (label_by (name_at image a) (known_run d image s a))
  spelled_site a s pair Exit is held = no_pair (post d image stubs k a s).next pair _ (ap (λ x. x.next) (post_is d image stubs k a s Exit is)) held
  spelled_site a s pair Import is held = spelled_name (name_at image a) (known_run d image s a) (import_named image a is)
  spelled_site a s pair Code is held =
      let P : Option (List ℕ) → Type 0 = λ name. IsSpelled (label_by name (known_run d image s a)) in
      subst P (sym (code_unnamed image a is)) (spelled_code a s pair (decoded (known_run d image s a)) is refl held)

  spelled_at : (a : ℕ) (s : Known D) (pair : ℕ × Known D) → Contains (post d image stubs k a s).next pair → Spelled (edge_from d image a s pair.0)
  unfolding edge_from
  spelled_at a s pair held = spelled_site a s pair (site_at image a) refl held

  spelled_pairs : (budget number : ℕ) (edge_to : ℕ → Edge) (pairs : List (ℕ × Known D)) (log : ImageLog D)
      → ((pair : ℕ × Known D) → Contains pairs pair → Spelled (edge_to pair.0))
      → All Spelled log.edges → All Spelled (with_next_pairs (covers_state d) (widened_by d k) budget number edge_to pairs log).edges
  spelled_pairs budget number edge_to [] log each all = all
  spelled_pairs budget number edge_to (pair ∷ pairs) log each all =
      spelled_pairs budget number edge_to pairs (with_next_pair (covers_state d) (widened_by d k) budget number (edge_to pair.0) pair log)
      (λ other held. each other (Contains-later pair other pairs held))
      (All-push Spelled log.edges (edge_to pair.0) all (each pair (Contains-here pair pairs)))

  spelled_explored : (budget fuel number : ℕ) (log : ImageLog D) → All Spelled log.edges → All Spelled (explored (analysis_of d image stubs k) budget fuel number log).edges
  unfolding explored with_expansion
  spelled_explored budget zero number log all = all
  spelled_explored budget (suc fuel) number log all =
      elim (slice_get log.rows number)
      as (λ found. All Spelled (at_row (analysis_of d image stubs k) budget found log (λ row. explored (analysis_of d image stubs k) budget fuel (number + 1) (with_expansion (analysis_of d image stubs k) budget number row log))).edges) [
        | None ↦ all
        | Some row ↦ spelled_explored budget fuel (number + 1) _
            (spelled_pairs budget number (edge_from d image row.location row.state) (post d image stubs k row.location row.state).next (with_notes number (post d image stubs k row.location row.state) log)
            (λ pair held. spelled_at row.location row.state pair held) all)
      ]

  log_spelled : (budget : ℕ) → All Spelled (image_log d image stubs k budget).edges
  unfolding log_of
  log_spelled budget = spelled_explored budget budget 0 (first_log (analysis_of d image stubs k) budget) (All-nil Spelled)

  pub log_has_row : (budget : ℕ) → 0 < length (image_log d image stubs k budget).rows
  unfolding log_of
  log_has_row budget =
      let first = first_log (analysis_of d image stubs k) budget in
      let g : Grows first (explored (analysis_of d image stubs k) budget budget 0 first) = explored-grows (analysis_of d image stubs k) budget budget 0 first in
      slice_get_within (image_log d image stubs k budget).rows 0 (row_after budget [] None image.entry (start_state d image))
      (row_kept first (explored (analysis_of d image stubs k) budget budget 0 first) 0 (row_after budget [] None image.entry (start_state d image)) g refl)

  in_log : (xs : List Edge) (e : Edge) → Contains (ordered_set edge_cmp xs) e → Contains xs e
  in_log xs e held =
      let is : IsSetOf edges.ghosts.cmp edges.Laws.total-law (record { same = derived_exact }) xs (ordered_set edges.ghosts.cmp xs) =
      ordered_set-is edges.ghosts.cmp edges.Laws.total-law (record { same = derived_exact }) xs in
      let P : List Edge → Type 0 = λ l. Contains l e in
      is.only e (subst P (sym (edge_sets xs)) held)

  pub automaton_spelled : (budget : ℕ) → AreSpelled (automaton_of image (image_log d image stubs k budget)).edges
  unfolding automaton_of
  automaton_spelled budget =
      let log = image_log d image stubs k budget in
      All-weaker (Contains (ordered_set edge_cmp log.edges)) Spelled
      (λ e held. All-contains Spelled log.edges e (log_spelled budget) (in_log log.edges e held))
      (ordered_set edge_cmp log.edges) (All-contains_itself (ordered_set edge_cmp log.edges))

  -- the marks of the automaton have rows
  pub automaton_rows : (budget : ℕ) → HaveRowsBy 2 (automaton_of image (image_log d image stubs k budget)).marks
  unfolding automaton_of
  automaton_rows budget =
      let log = image_log d image stubs k budget in
      let found = map open_mark (marks_by causes.Budget log) in
      All-weaker (Contains (first_marks found)) (λ m. is_some m.row ≡ true)
      (λ m held. All-contains (λ m. is_some m.row ≡ true) found m (All-map (λ m. is_some m.row ≡ true) open_mark (marks_by causes.Budget log) (All-any (marks_by causes.Budget log))) (Contains-from_first_marks found m held))
      (first_marks found) (All-contains_itself (first_marks found))
    where
      All-any : (xs : List (Mark Cause)) → All (λ m. is_some (open_mark m).row ≡ true) xs
      All-any [] = All-nil (λ m. is_some (open_mark m).row ≡ true)
      All-any (x ∷ xs) = All-cons (λ m. is_some (open_mark m).row ≡ true) x xs refl (All-any xs)
