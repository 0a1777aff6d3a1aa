-- Edges of which neighbours repeat have the set of those that do not.
use Rattle.std.proofs.Common.{◌≡◌, ℕ, List, [], ◌∷◌, ◌++◌, sym, ◌∙◌, subst, inl, inr, ◌⊎◌, Contains}
use Rattle.std.specs.Prelude.{fold}
use Rattle.std.proofs.lemmas.List.Elements.{Contains-append_left}
use Rattle.flow_log.specs.declared.edge.Edge.{Edge}
use Rattle.flow_log.specs.contracts.edge.EdgeOrd.TheImpl as edges
use Rattle.flow_log.specs.Orders.{edge_cmp}
use Rattle.flow_log.specs.Ordered.{insert_once, ordered_set}
use Rattle.flow_log.proofs.Members.{Contains-cases, Contains-here, Contains-later, Contains-none}
use Rattle.flow_log.proofs.Ordering.{IsSetOf, ordered_set-is, set_is_ordered}
use Rattle.flow_log.proofs.Orders.{derived_exact, edge_sets}
use Rattle.flow_worklist.proofs.Indexing.{fold_more}

-- what is in a list with an element more is in the list, or is that element
in_more : {X : Type 0} (xs : List X) (e x : X) → Contains (xs ++ e ∷ []) x → Contains xs x ⊎ (e ≡ x)
in_more [] e x h = elim (Contains-cases e x [] h) [ inl same ↦ inr same | inr none ↦ absurd (Contains-none x none) ]
in_more (y ∷ xs) e x h =
    elim (Contains-cases y x (xs ++ e ∷ []) h) [
      | inl same ↦ inl (subst (λ v. Contains (v ∷ xs) x) (sym same) (Contains-here x xs))
      | inr more ↦ elim (in_more xs e x more) [ inl there ↦ inl (Contains-later y x xs there) | inr same ↦ inr same ]
    ]

-- an edge more that is there leaves the set
pub known_edge : (xs : List Edge) (e : Edge) → Contains xs e → ordered_set edge_cmp xs ≡ ordered_set edge_cmp (xs ++ e ∷ [])
known_edge xs e held =
    let set = ordered_set edges.ghosts.cmp xs in
    let is : IsSetOf edges.ghosts.cmp edges.Laws.total-law (record { same = derived_exact }) xs set =
    ordered_set-is edges.ghosts.cmp edges.Laws.total-law (record { same = derived_exact }) xs in
    let more : IsSetOf edges.ghosts.cmp edges.Laws.total-law (record { same = derived_exact }) (xs ++ e ∷ []) set = record {
      sorted = is.sorted;
      kept = λ x h. is.kept x (elim (in_more xs e x h) [ inl there ↦ there | inr same ↦ subst (λ v. Contains xs v) same held ]);
      only = λ x h. Contains-append_left xs (e ∷ []) x (is.only x h);
    } in
    sym (edge_sets xs) ∙ set_is_ordered edges.ghosts.cmp edges.Laws.total-law (record { same = derived_exact }) (xs ++ e ∷ []) set more ∙ edge_sets (xs ++ e ∷ [])

-- an edge more is put into the set
pub edge_more : (xs : List Edge) (e : Edge) → ordered_set edge_cmp (xs ++ e ∷ []) ≡ insert_once edge_cmp e (ordered_set edge_cmp xs)
unfolding ordered_set
edge_more xs e = fold_more (λ set x. insert_once edge_cmp x set) [] xs e
