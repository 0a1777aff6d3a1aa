-- A log only grows: what is in it stays, under the same number.
use Rattle.std.proofs.Common.{◌≡◌, ℕ, zero, suc, ◌+◌, Bool, true, false, List, [], ◌∷◌, ◌++◌, map, refl, sym, ◌∙◌, ap, subst, cond, Some, None, append_assoc}
use Rattle.std.specs.Prelude.{Contains, slice_get}
use Rattle.std.specs.List.{list_any}
use Rattle.std.proofs.lemmas.List.{map-append}
use Rattle.std.proofs.lemmas.List.Elements.{Contains-append_left}
use Rattle.flow_log.specs.Analysis.{Analysis, Expansion}
use Rattle.flow_log.specs.Log.{Row, Log, states_at, row_after, with_row, with_next_pair, with_next_pairs, with_notes, with_expansion, at_row, explored, pair_of}
use Rattle.flow_log.proofs.Members.{slice_get-append}

pub record Grows {S E C W : Type 0} (old new : Log S E C W) : Type 0 where
  pub more_rows : List (Row S)
  pub more_edges : List E
  pub more_causes : List (ℕ × C)
  pub more_writes : List W
  pub rows : new.rows ≡ old.rows ++ more_rows
  pub edges : new.edges ≡ old.edges ++ more_edges
  pub causes : new.causes ≡ old.causes ++ more_causes
  pub writes : new.writes ≡ old.writes ++ more_writes

append_nil : {X : Type 0} (xs : List X) → xs ≡ xs ++ []
append_nil [] = refl
append_nil (x ∷ xs) = ap (λ ys. x ∷ ys) (append_nil xs)

pub Grows-same : {S E C W : Type 0} (log : Log S E C W) → Grows log log
Grows-same log = record {
  more_rows = [];
  more_edges = [];
  more_causes = [];
  more_writes = [];
  rows = append_nil log.rows;
  edges = append_nil log.edges;
  causes = append_nil log.causes;
  writes = append_nil log.writes;
}

joined : {X : Type 0} (xs ys zs more rest : List X) → ys ≡ xs ++ more → zs ≡ ys ++ rest → zs ≡ xs ++ (more ++ rest)
joined xs ys zs more rest e f = f ∙ ap (λ front. front ++ rest) e ∙ append_assoc xs more rest

pub Grows-trans : {S E C W : Type 0} (x y z : Log S E C W) → Grows x y → Grows y z → Grows x z
Grows-trans x y z g h = record {
  more_rows = g.more_rows ++ h.more_rows;
  more_edges = g.more_edges ++ h.more_edges;
  more_causes = g.more_causes ++ h.more_causes;
  more_writes = g.more_writes ++ h.more_writes;
  rows = joined _ _ _ _ _ g.rows h.rows;
  edges = joined _ _ _ _ _ g.edges h.edges;
  causes = joined _ _ _ _ _ g.causes h.causes;
  writes = joined _ _ _ _ _ g.writes h.writes;
}

kept : {X : Type 0} (xs ys more : List X) (x : X) → ys ≡ xs ++ more → Contains xs x → Contains ys x
kept {X} xs ys more x e held = let P : List X → Type 0 = λ l. Contains l x in subst P (sym e) (Contains-append_left xs more x held)

pub row_kept : {S E C W : Type 0} (x y : Log S E C W) (number : ℕ) (row : Row S) → Grows x y → slice_get x.rows number ≡ Some row → slice_get y.rows number ≡ Some row
row_kept x y number row g h = rw g.rows (slice_get-append x.rows g.more_rows number row h)

-- a member of a list of the log stays one
pub in_rows_kept : {S E C W : Type 0} (x y : Log S E C W) (pair : ℕ × S) → Grows x y → Contains (map pair_of x.rows) pair → Contains (map pair_of y.rows) pair
in_rows_kept x y pair g held = kept (map pair_of x.rows) (map pair_of y.rows) (map pair_of g.more_rows) pair (ap (map pair_of) g.rows ∙ map-append pair_of x.rows g.more_rows) held

pub edges_kept : {S E C W : Type 0} (x y : Log S E C W) (edge : E) → Grows x y → Contains x.edges edge → Contains y.edges edge
edges_kept x y edge g held = kept x.edges y.edges g.more_edges edge g.edges held

pub causes_kept : {S E C W : Type 0} (x y : Log S E C W) (noted : ℕ × C) → Grows x y → Contains x.causes noted → Contains y.causes noted
causes_kept x y noted g held = kept x.causes y.causes g.more_causes noted g.causes held

grown_rows : {S : Type 0} (covers : S → S → Bool) (budget parent location : ℕ) (state : S) (rows : List (Row S)) → (more : List (Row S)) × (with_row covers budget parent location state rows ≡ rows ++ more)
unfolding with_row
grown_rows {S = S} covers budget parent location state rows =
    elim (list_any (λ seen. covers seen state) (states_at location rows))
    as (λ b. (more : List (Row S)) × (cond b rows (rows ++ row_after budget rows (Some parent) location state ∷ []) ≡ rows ++ more))
    [ true ↦ ([], append_nil rows) | false ↦ (row_after budget rows (Some parent) location state ∷ [], refl) ]

module _ {S E C W : Type 0} (covers : S → S → Bool) (widen : List S → S → S) (budget : ℕ) where
  pub with_next_pair-grows : (number : ℕ) (edge : E) (pair : ℕ × S) (log : Log S E C W) → Grows log (with_next_pair covers widen budget number edge pair log)
  with_next_pair-grows number edge pair log =
      let grown = grown_rows covers budget number pair.0 (widen (states_at pair.0 log.rows) pair.1) log.rows in
      record {
        more_rows = grown.0;
        more_edges = edge ∷ [];
        more_causes = [];
        more_writes = [];
        rows = grown.1;
        edges = refl;
        causes = append_nil log.causes;
        writes = append_nil log.writes;
      }

  pub with_next_pairs-grows : (number : ℕ) (edge_to : ℕ → E) (pairs : List (ℕ × S)) (log : Log S E C W) → Grows log (with_next_pairs covers widen budget number edge_to pairs log)
  with_next_pairs-grows number edge_to [] log = Grows-same log
  with_next_pairs-grows number edge_to (pair ∷ pairs) log =
      let after = with_next_pair covers widen budget number (edge_to pair.0) pair log in
      Grows-trans _ _ _ (with_next_pair-grows number (edge_to pair.0) pair log) (with_next_pairs-grows number edge_to pairs after)

pub with_notes-grows : {S E C W : Type 0} (number : ℕ) (x : Expansion S C W) (log : Log S E C W) → Grows log (with_notes number x log)
with_notes-grows number x log = record {
  more_rows = [];
  more_edges = [];
  more_causes = map (λ c. (number, c)) x.causes;
  more_writes = x.writes;
  rows = append_nil log.rows;
  edges = append_nil log.edges;
  causes = refl;
  writes = refl;
}

module _ {S E C W : Type 0} (a : Analysis S E C W) (budget : ℕ) where
  pub with_expansion-grows : (number : ℕ) (row : Row S) (log : Log S E C W) → Grows log (with_expansion a budget number row log)
  unfolding with_expansion
  with_expansion-grows number row log =
      let x = a.expand row.location row.state in
      Grows-trans _ _ _ (with_notes-grows number x log) (with_next_pairs-grows a.covers a.widen budget number (a.edge row.location row.state) x.next (with_notes number x log))

  pub explored-grows : (fuel number : ℕ) (log : Log S E C W) → Grows log (explored a budget fuel number log)
  unfolding explored
  explored-grows zero number log = Grows-same log
  explored-grows (suc fuel) number log =
      elim (slice_get log.rows number)
      as (λ found. Grows log (at_row a budget found log (λ row. explored a budget fuel (number + 1) (with_expansion a budget number row log)))) [
        | None ↦ Grows-same log
        | Some row ↦ Grows-trans _ _ _ (with_expansion-grows number row log) (explored-grows fuel (number + 1) (with_expansion a budget number row log))
      ]
