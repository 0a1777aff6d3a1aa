-- The derived orders are those that are defined.
use Rattle.std.proofs.Common.{◌≡◌, ℕ, List, [], ◌∷◌, refl, sym, ◌∙◌, ap, subst}
use Rattle.std.specs.Prelude.{Contains, fold}
use Rattle.std.specs.declared.cmp.Ordering.{Ordering}
use Rattle.std.specs.declared.cmp.Ordering.TheVariants.{Less, Equal, Greater}
use Rattle.std.specs.Ordering.{nat_cmp, ordering_then}
use Rattle.std.proofs.lemmas.Map.Lookups.{exact_bytes, exact_unsigned}
use Rattle.flow_log.specs.declared.edge.Edge.{Edge}
use Rattle.flow_log.specs.declared.edge.Label.{Label}
use Rattle.flow_log.specs.declared.edge.Label.TheVariants.{Code, Import}
use Rattle.flow_log.specs.contracts.edge.EdgeOrd.TheImpl as edges
use Rattle.flow_log.specs.contracts.edge.LabelOrd.TheImpl as labels
use Rattle.flow_log.specs.Orders.{edge_cmp, label_cmp}
use Rattle.flow_log.specs.Ordered.{insert_once, by_order, ordered_set}
use Rattle.flow_log.proofs.Ordering.{ordered_set-is, IsSetOf}

pub label_order : (a b : Label) → labels.ghosts.cmp a b ≡ label_cmp a b
label_order (Code a) (Code b) = refl
label_order (Code a) (Import b) = refl
label_order (Import a) (Code b) = refl
label_order (Import a) (Import b) = refl

abbrev edge : ℕ → ℕ → Label → Edge
edge from to label = record { from = from; to = to; label = label }

by_fields : (f t f' t' : ℕ) (l l' : Label) → edges.ghosts.cmp (edge f t l) (edge f' t' l') ≡ edge_cmp (edge f t l) (edge f' t' l')
by_fields f t f' t' (Code a) (Code b) = refl
by_fields f t f' t' (Code a) (Import b) = refl
by_fields f t f' t' (Import a) (Code b) = refl
by_fields f t f' t' (Import a) (Import b) = refl

pub edge_order : (a b : Edge) → edges.ghosts.cmp a b ≡ edge_cmp a b
edge_order a b = by_fields a.from a.to b.from b.to a.label b.label

-- orders that agree have the same ordered sets
module _ {X : Type 0} (R Q : X → X → Ordering) (agree : (x y : X) → R x y ≡ Q x y) where
  inserted_alike : (x : X) (ys : List X) → insert_once R x ys ≡ insert_once Q x ys
  inserted_alike x [] = refl
  inserted_alike x (y ∷ ys) =
      ap (λ r. by_order R r (x ∷ y ∷ ys) (y ∷ ys) (y ∷ insert_once R x ys)) (agree x y)
      ∙ ap (λ rest. by_order R (Q x y) (x ∷ y ∷ ys) (y ∷ ys) (y ∷ rest)) (inserted_alike x ys)
      ∙ same_choice (Q x y) (x ∷ y ∷ ys) (y ∷ ys) (y ∷ insert_once Q x ys)
    where
      same_choice : (r : Ordering) (a b c : List X) → by_order R r a b c ≡ by_order Q r a b c
      same_choice Less a b c = refl
      same_choice Equal a b c = refl
      same_choice Greater a b c = refl

  folded_alike : (xs set : List X) → fold (λ s x. insert_once R x s) set xs ≡ fold (λ s x. insert_once Q x s) set xs
  folded_alike [] set = refl
  folded_alike (x ∷ xs) set =
      ap (λ s. fold (λ t y. insert_once R y t) s xs) (inserted_alike x set) ∙ folded_alike xs (insert_once Q x set)

  pub ordered_set-alike : (xs : List X) → ordered_set R xs ≡ ordered_set Q xs
  unfolding ordered_set
  ordered_set-alike xs = folded_alike xs []

-- both parts of a comparison are equal
then_first : (a b : Ordering) → ordering_then a b ≡ Equal → a ≡ Equal
then_first Less b e = e
then_first Equal b e = refl
then_first Greater b e = e

then_second : (a b : Ordering) → ordering_then a b ≡ Equal → b ≡ Equal
then_second Less b e = cc
then_second Equal b e = e
then_second Greater b e = cc

label_exact : (a b : Label) → label_cmp a b ≡ Equal → a ≡ b
label_exact (Code a) (Code b) e = ap (λ items. Code (record { items = items })) (exact_bytes a.items b.items e)
label_exact (Code a) (Import b) e = cc
label_exact (Import a) (Code b) e = cc
label_exact (Import a) (Import b) e = ap Import (exact_bytes a b e)

edge_exact : (a b : Edge) → edge_cmp a b ≡ Equal → a ≡ b
edge_exact a b e =
    let rest : ordering_then (nat_cmp a.to b.to) (label_cmp a.label b.label) ≡ Equal = then_second (nat_cmp a.from b.from) _ e in
    ap (λ f. edge f a.to a.label) (exact_unsigned a.from b.from (then_first (nat_cmp a.from b.from) _ e))
    ∙ ap (λ t. edge b.from t a.label) (exact_unsigned a.to b.to (then_first (nat_cmp a.to b.to) _ rest))
    ∙ ap (λ l. edge b.from b.to l) (label_exact a.label b.label (then_second (nat_cmp a.to b.to) _ rest))

pub derived_exact : (a b : Edge) → edges.ghosts.cmp a b ≡ Equal → a ≡ b
derived_exact a b e = edge_exact a b (sym (edge_order a b) ∙ e)

pub edge_sets : (xs : List Edge) → ordered_set edges.ghosts.cmp xs ≡ ordered_set edge_cmp xs
edge_sets xs = ordered_set-alike edges.ghosts.cmp edge_cmp edge_order xs

-- each edge is in the set of edges
pub Contains-edge_set : (xs : List Edge) (e : Edge) → Contains xs e → Contains (ordered_set edge_cmp xs) e
Contains-edge_set xs e held =
    let is : IsSetOf edges.ghosts.cmp edges.Laws.total-law (record { same = derived_exact }) xs (ordered_set edges.ghosts.cmp xs) =
    ordered_set-is edges.ghosts.cmp edges.Laws.total-law (record { same = derived_exact }) xs in
    let P : List Edge → Type 0 = λ l. Contains l e in
    subst P (edge_sets xs) (is.kept e held)
