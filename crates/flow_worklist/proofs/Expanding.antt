-- The code's steps on a log are those of the definition.
use Rattle.std.proofs.Common.{◌≡◌, ℕ, zero, suc, ◌+◌, ◌<◌, List, [], ◌∷◌, ◌++◌, length, take, get_or, Some, None, inl, inr, refl, sym, ◌∙◌, ap}
use Rattle.std.specs.Prelude.{fold, slice_get}
use Rattle.std.proofs.lemmas.List.{take_more}
use Rattle.stub_file.specs.Stubs.{StatedStubs}
use Rattle.domain_laws.specs.Laws.{Values}
use Rattle.memory_map.specs.Image.{Image}
use Rattle.flow_log.specs.declared.edge.Edge.{Edge}
use Rattle.flow_log.specs.declared.edge.Label.{Label}
use Rattle.flow_log.specs.Log.{Row, with_next_pairs, with_notes, with_expansion, at_row, explored, log_of, first_log}
use Rattle.abstract_state.specs.State.{Known, covers_state}
use Rattle.abstract_state.specs.Expanding.{Expanded}
use Rattle.flow_worklist.specs.declared.post.Post.{Post}
use Rattle.flow_worklist.specs.PostOf.{IsLabelled, IsPostOf}
use Rattle.flow_worklist.specs.Analysis.{ImageLog, analysis_of, image_log, edge_by, edge_from, widened_by}

-- a list taken in with one element more
pub fold_taken : {A X : Type 0} (f : A → X → A) (a : A) (xs : List X) (i : ℕ) (x : X) → i < length xs → x ≡ get_or xs i x → fold f a (take (i + 1) xs) ≡ f (fold f a (take i xs)) x
fold_taken {A} {X} f a xs i x within is =
    ap (fold f a) (take_more xs i x within ∙ ap (λ y. take i xs ++ y ∷ []) (sym is)) ∙ last a (take i xs)
  where
    last : (start : A) (ys : List X) → fold f start (ys ++ x ∷ []) ≡ f (fold f start ys) x
    last start [] = refl
    last start (y ∷ ys) = last (f start y) ys

module _ {D : Type 0} (d : Values D) (image : Image) (stubs : StatedStubs) (k budget : ℕ) where
  abbrev with_next : ℕ → (ℕ → Edge) → List (ℕ × Known D) → ImageLog D → ImageLog D
  with_next number edge_to pairs log = with_next_pairs (covers_state d) (widened_by d k) budget number edge_to pairs log

  -- the pairs of an expansion with the label of its steps
  labelled_pairs : (number from : ℕ) (s : Known D) (x : Expanded D) (label : Label) (log : ImageLog D) → IsLabelled d image stubs k from s x label
      → with_next number (edge_by from label) x.next log ≡ with_next number (edge_from d image from s) x.next log
  unfolding edge_from
  labelled_pairs number from s x label log (inl none) =
      ap (λ pairs. with_next number (edge_by from label) pairs log) none ∙ sym (ap (λ pairs. with_next number (edge_from d image from s) pairs log) none)
  labelled_pairs number from s x label log (inr labelled) = ap (λ l. with_next number (edge_by from l) x.next log) (sym labelled)

  -- an expansion taken in
  pub expanded_is : (number : ℕ) (row : Row (Known D)) (answer : Post D) (log : ImageLog D) → IsPostOf d image stubs k row.location row.state answer
      → with_next number (edge_by answer.at answer.label) answer.expansion.next (with_notes number answer.expansion log) ≡ with_expansion (analysis_of d image stubs k) budget number row log
  unfolding with_expansion
  expanded_is number row answer log p =
      ap (λ at. with_next number (edge_by at answer.label) answer.expansion.next (with_notes number answer.expansion log)) p.located
      ∙ labelled_pairs number row.location row.state answer.expansion answer.label (with_notes number answer.expansion log) p.label
      ∙ ap (λ (x : Expanded D). with_next number (edge_from d image row.location row.state) x.next (with_notes number x log)) p.expansion

  -- one turn of the exploration
  pub explored_one : (fuel number : ℕ) (row : Row (Known D)) (log after : ImageLog D) → slice_get log.rows number ≡ Some row
      → after ≡ with_expansion (analysis_of d image stubs k) budget number row log
      → explored (analysis_of d image stubs k) budget (suc fuel) number log ≡ explored (analysis_of d image stubs k) budget fuel (number + 1) after
  unfolding explored
  explored_one fuel number row log after at is =
      ap (λ found. at_row (analysis_of d image stubs k) budget found log (λ r. explored (analysis_of d image stubs k) budget fuel (number + 1) (with_expansion (analysis_of d image stubs k) budget number r log))) at
      ∙ ap (λ l. explored (analysis_of d image stubs k) budget fuel (number + 1) l) (sym is)

  -- past the last row nothing is left
  pub explored_past : (fuel number : ℕ) (log : ImageLog D) → slice_get log.rows number ≡ None → explored (analysis_of d image stubs k) budget fuel number log ≡ log
  unfolding explored
  explored_past zero number log at = refl
  explored_past (suc fuel) number log at =
      ap (λ found. at_row (analysis_of d image stubs k) budget found log (λ r. explored (analysis_of d image stubs k) budget fuel (number + 1) (with_expansion (analysis_of d image stubs k) budget number r log))) at

  pub explored_spent : (number : ℕ) (log : ImageLog D) → explored (analysis_of d image stubs k) budget zero number log ≡ log
  unfolding explored
  explored_spent number log = refl

  pub explored_all : explored (analysis_of d image stubs k) budget budget 0 (first_log (analysis_of d image stubs k) budget) ≡ image_log d image stubs k budget
  unfolding log_of
  explored_all = refl
