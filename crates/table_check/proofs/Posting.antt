-- The code's answer on a row says which clause fails of it, and its edges.
use Rattle.std.proofs.Common.{◌≡◌, ℕ, ◌+◌, ◌<◌, ◌==◌, true, false, List, [], ◌∷◌, ◌++◌, take, get_or, length, map, Some, None, inl, inr, sym, ◌∙◌, ap}
use Rattle.std.specs.List.{list_all}
use Rattle.std.proofs.lemmas.List.{map-append, take_more}
use Rattle.stub_file.specs.Stubs.{StatedStubs}
use Rattle.domain_laws.specs.Laws.{Values}
use Rattle.memory_map.specs.Image.{Image}
use Rattle.flow_log.specs.declared.edge.Label.{Label}
use Rattle.abstract_state.specs.State.{Known}
use Rattle.abstract_state.specs.Expanding.{Expanded}
use Rattle.flow_worklist.specs.declared.post.Post.{Post}
use Rattle.flow_worklist.specs.Analysis.{ImageAnalysis, edge_by, edge_from}
use Rattle.flow_worklist.specs.PostOf.{IsLabelled, IsPostOf}
use Rattle.table_check.specs.declared.table.Table.{Table}
use Rattle.table_check.specs.Checking.{table_analysis}
use Rattle.table_check.specs.Closed.{broken_by, is_covered, leads_from, CAUSE, NEXT}
use Rattle.table_check.proofs.Answering.{broken-cause, broken-next, broken-none}

-- one element more
pub map-more : {X Y : Type 0} (f : X → Y) (xs : List X) (i : ℕ) (x : X) → i < length xs → x ≡ get_or xs i x → map f (take (i + 1) xs) ≡ map f (take i xs) ++ f x ∷ []
map-more f xs i x within is = ap (map f) (take_more xs i x within ∙ ap (λ y. take i xs ++ y ∷ []) (sym is)) ∙ map-append f (take i xs) (x ∷ [])

module _ {D : Type 0} (d : Values D) (image : Image) (stubs : StatedStubs) where
  labelled : (k from : ℕ) (s : Known D) (x : Expanded D) (label : Label) → IsLabelled d image stubs k from s x label
      → map (λ (pair : ℕ × Known D). edge_by from label pair.0) x.next ≡ map (λ (pair : ℕ × Known D). edge_from d image from s pair.0) x.next
  unfolding edge_from
  labelled k from s x label (inl none) =
      ap (map (λ (pair : ℕ × Known D). edge_by from label pair.0)) none ∙ sym (ap (map (λ (pair : ℕ × Known D). edge_from d image from s pair.0)) none)
  labelled k from s x label (inr is) = ap (λ l. map (λ (pair : ℕ × Known D). edge_by from l pair.0) x.next) (sym is)

  module _ (t : Table D) (row : ℕ × Known D) (answer : Post D) (p : IsPostOf d image stubs t.k row.0 row.1 answer) where
    abbrev a : ImageAnalysis D
    a = table_analysis d image stubs t

    pub cause-found : (length answer.expansion.causes == 0) ≡ false → broken_by a t.marked t.rows row ≡ Some CAUSE
    cause-found e = broken-cause a t.marked t.rows row (ap (λ (x : Expanded D). length x.causes == 0) (sym p.expansion) ∙ e)

    pub next-found : (length answer.expansion.causes == 0) ≡ true → list_all (is_covered a t.marked t.rows) answer.expansion.next ≡ false → broken_by a t.marked t.rows row ≡ Some NEXT
    next-found e f =
        broken-next a t.marked t.rows row (ap (λ (x : Expanded D). length x.causes == 0) (sym p.expansion) ∙ e)
        (ap (λ (x : Expanded D). list_all (is_covered a t.marked t.rows) x.next) (sym p.expansion) ∙ f)

    pub none-found : (length answer.expansion.causes == 0) ≡ true → list_all (is_covered a t.marked t.rows) answer.expansion.next ≡ true → broken_by a t.marked t.rows row ≡ None
    none-found e f =
        broken-none a t.marked t.rows row (ap (λ (x : Expanded D). length x.causes == 0) (sym p.expansion) ∙ e)
        (ap (λ (x : Expanded D). list_all (is_covered a t.marked t.rows) x.next) (sym p.expansion) ∙ f)

    pub edges-found : map (λ (pair : ℕ × Known D). edge_by answer.at answer.label pair.0) answer.expansion.next ≡ leads_from a t.marked t.rows row
    edges-found =
        ap (λ at. map (λ (pair : ℕ × Known D). edge_by at answer.label pair.0) answer.expansion.next) p.located
        ∙ labelled t.k row.0 row.1 answer.expansion answer.label p.label
        ∙ ap (λ (x : Expanded D). map (λ (pair : ℕ × Known D). edge_from d image row.0 row.1 pair.0) x.next) p.expansion
