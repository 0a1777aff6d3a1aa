-- The log of an exploration is closed, and its rows are well.
use Rattle.std.proofs.Common.{◌≡◌, ℕ, zero, suc, ◌+◌, ◌<◌, ◌≤◌, Bool, true, false, not, List, [], ◌∷◌, ◌++◌, length, map, refl, sym, ◌∙◌, ap, subst, inl, inr, arith, cond, Option, Some, None, length-append, add-zero, get_or}
use Rattle.std.specs.Prelude.{Contains, All, slice_get, nat_lt, filter, filter_map, option_map}
use Rattle.std.specs.List.{list_any, enumerate_from}
use Rattle.std.proofs.lemmas.List.Elements.{Contains-append_right, Contains-append_left, Contains-push, All-map, All-push, All-nil, All-contains}
use Rattle.std.proofs.lemmas.Option.{slice_get_within, slice_get-get_or}
use Rattle.std.proofs.Math.Nat.{eq-or-lt_of_le}
use Rattle.flow_log.specs.Analysis.{Analysis}
use Rattle.flow_log.specs.Log.{Row, Log, pair_of, states_at, row_after, with_row, with_next_pair, with_next_pairs, with_notes, with_expansion, at_row, explored, first_log, log_of}
use Rattle.flow_log.specs.Log.{Mark, mark_of, expansion_mark, unexpanded_marks, marks_by, marks_of, IsOpen}
use Rattle.flow_log.specs.Run.{Machine}
use Rattle.flow_log.specs.Sound.{Sound, IsRepresented, IsDone, IsClosed}
use Rattle.flow_log.proofs.Members.{Contains-map, Contains-filter, Contains-filter_map, Contains-cases, Contains-here, Contains-later, Contains-none, Contains-numbered, IsMappedAt, mapped_at, position_of, row_of_any, slice_get-append_back, Contains-slice_get, slice_get-last, lt_or_le}
use Rattle.flow_log.proofs.Growing.{Grows, row_kept, in_rows_kept, edges_kept, causes_kept, with_next_pairs-grows, with_expansion-grows, explored-grows}

module _ {S E C W : Type 0} (a : Analysis S E C W) where
  IsRepresented-grows : (x y : Log S E C W) (location : ℕ) (state : S) → Grows x y → IsRepresented a (map pair_of x.rows) location state → IsRepresented a (map pair_of y.rows) location state
  IsRepresented-grows x y location state g h = record { row = h.row; in_rows = in_rows_kept x y (location, h.row) g h.in_rows; stands = h.stands }

  -- all that the expansion of a row gives is in a log
  record IsTaken (log : Log S E C W) (number : ℕ) (row : Row S) : Type 0 where
    edges : (pair : ℕ × S) → Contains (a.expand row.location row.state).next pair → Contains log.edges (a.edge row.location row.state pair.0)
    next : (pair : ℕ × S) → Contains (a.expand row.location row.state).next pair → IsRepresented a (map pair_of log.rows) pair.0 pair.1
    causes : (c : C) → Contains (a.expand row.location row.state).causes c → Contains log.causes (number, c)

  IsTaken-grows : (x y : Log S E C W) (number : ℕ) (row : Row S) → Grows x y → IsTaken x number row → IsTaken y number row
  IsTaken-grows x y number row g h = record {
    edges = λ pair held. edges_kept x y _ g (h.edges pair held);
    next = λ pair held. IsRepresented-grows x y pair.0 pair.1 g (h.next pair held);
    causes = λ c held. causes_kept x y (number, c) g (h.causes c held);
  }

module _ {S E C W : Type 0} (a : Analysis S E C W) (budget : ℕ) where
  -- a taken pair has its row
  appended : (parent location : ℕ) (seen : List S) (state : S) (log after : Log S E C W) (r : Bool)
      → list_any (λ t. a.covers t (a.widen seen state)) (states_at location log.rows) ≡ r
      → after.rows ≡ cond r log.rows (log.rows ++ row_after budget log.rows (Some parent) location (a.widen seen state) ∷ [])
      → IsRepresented a (map pair_of after.rows) location state
  appended parent location seen state log after true any e =
      let found = row_of_any (λ t. a.covers t (a.widen seen state)) location log.rows any in
      let P : List (Row S) → Type 0 = λ rows. Contains (map pair_of rows) (location, found.row.state) in
      let Q : ℕ → Type 0 = λ l. Contains (map pair_of log.rows) (l, found.row.state) in
      record { row = found.row.state; in_rows = subst P (sym e) (subst Q found.located (Contains-map pair_of log.rows found.row found.in_rows)); stands = inr (seen, inr found.passes) }
  appended parent location seen state log after false any e =
      let row = row_after budget log.rows (Some parent) location (a.widen seen state) in
      let P : List (Row S) → Type 0 = λ rows. Contains (map pair_of rows) (location, row.state) in
      record { row = row.state; in_rows = subst P (sym e) (Contains-map pair_of (log.rows ++ row ∷ []) row (Contains-push log.rows row)); stands = inr (seen, inl refl) }

  pair_represented : (number : ℕ) (edge : E) (pair : ℕ × S) (log : Log S E C W)
      → IsRepresented a (map pair_of (with_next_pair a.covers a.widen budget number edge pair log).rows) pair.0 pair.1
  unfolding with_row
  pair_represented number edge pair log = appended number pair.0 (states_at pair.0 log.rows) pair.1 log (with_next_pair a.covers a.widen budget number edge pair log) _ refl refl

  pairs_represented : (number : ℕ) (edge_to : ℕ → E) (pairs : List (ℕ × S)) (log : Log S E C W) (pair : ℕ × S) → Contains pairs pair
      → IsRepresented a (map pair_of (with_next_pairs a.covers a.widen budget number edge_to pairs log).rows) pair.0 pair.1
  pairs_represented number edge_to [] log pair held = absurd (Contains-none pair held)
  pairs_represented number edge_to (first ∷ pairs) log pair held =
      let after = with_next_pair a.covers a.widen budget number (edge_to first.0) first log in
      let last = with_next_pairs a.covers a.widen budget number edge_to pairs after in
      elim (Contains-cases first pair pairs held) [
        | inl e ↦ (let P : ℕ × S → Type 0 = λ p. IsRepresented a (map pair_of last.rows) p.0 p.1 in
            subst P e (IsRepresented-grows a after last first.0 first.1 (with_next_pairs-grows a.covers a.widen budget number edge_to pairs after) (pair_represented number (edge_to first.0) first log)))
        | inr h ↦ pairs_represented number edge_to pairs after pair h
      ]

  pairs_edges : (number : ℕ) (edge_to : ℕ → E) (pairs : List (ℕ × S)) (log : Log S E C W) (pair : ℕ × S) → Contains pairs pair
      → Contains (with_next_pairs a.covers a.widen budget number edge_to pairs log).edges (edge_to pair.0)
  pairs_edges number edge_to [] log pair held = absurd (Contains-none pair held)
  pairs_edges number edge_to (first ∷ pairs) log pair held =
      let after = with_next_pair a.covers a.widen budget number (edge_to first.0) first log in
      elim (Contains-cases first pair pairs held) [
        | inl e ↦ (let P : ℕ × S → Type 0 = λ p. Contains (with_next_pairs a.covers a.widen budget number edge_to pairs after).edges (edge_to p.0) in
            subst P e (edges_kept after _ _ (with_next_pairs-grows a.covers a.widen budget number edge_to pairs after) (Contains-push log.edges (edge_to first.0))))
        | inr h ↦ pairs_edges number edge_to pairs after pair h
      ]

  expansion_taken : (number : ℕ) (row : Row S) (log : Log S E C W) → IsTaken a (with_expansion a budget number row log) number row
  unfolding with_expansion
  expansion_taken number row log =
      let x = a.expand row.location row.state in
      let edge_to = a.edge row.location row.state in
      let noted = with_notes number x log in
      let g : Grows noted (with_next_pairs a.covers a.widen budget number edge_to x.next noted) = with_next_pairs-grows a.covers a.widen budget number edge_to x.next noted in
      record {
        edges = λ pair held. pairs_edges number edge_to x.next noted pair held;
        next = λ pair held. pairs_represented number edge_to x.next noted pair held;
        causes = λ c held. causes_kept noted _ (number, c) g (Contains-append_right log.causes (map (λ d. (number, d)) x.causes) (number, c) (Contains-map (λ d. (number, d)) x.causes c held));
      }

  -- the rows below a number are expanded into a log
  record AreTaken (n : ℕ) (log : Log S E C W) : Type 0 where
    taken : (number : ℕ) (row : Row S) → number < n → slice_get log.rows number ≡ Some row → IsTaken a log number row

  -- what is found under an earlier number was found there before
  found_before : (n number : ℕ) (row other : Row S) (log after : Log S E C W) → Grows log after → slice_get log.rows n ≡ Some row → number < n
      → slice_get after.rows number ≡ Some other → slice_get log.rows number ≡ Some other
  found_before n number row other log after g at less found =
      let within : n < length log.rows = slice_get_within log.rows n row at in
      slice_get-append_back log.rows g.more_rows number other (omega arith) (rw g.rows at found)

  some_same : (x y : Row S) → Some x ≡ Some y → x ≡ y
  some_same x y e = cc

  one_more_taken : (n : ℕ) (row : Row S) (log : Log S E C W) → slice_get log.rows n ≡ Some row → AreTaken n log → AreTaken (n + 1) (with_expansion a budget n row log)
  one_more_taken n row log at below =
      let after = with_expansion a budget n row log in
      let g : Grows log after = with_expansion-grows a budget n row log in
      record {
        taken = λ number other within found.
            elim (eq-or-lt_of_le {n = number} {m = n} (omega arith)) [
              | inr less ↦ IsTaken-grows a log after number other g (below.taken number other less (found_before n number row other log after g at less found))
              | inl same ↦ (let e : row ≡ other = some_same row other (sym (row_kept log after n row g at) ∙ ap (slice_get after.rows) (sym same) ∙ found) in
                  let P : Row S → Type 0 = λ r. IsTaken a after number r in
                  let Q : ℕ → Type 0 = λ k. IsTaken a after k row in
                  subst P e (subst Q (sym same) (expansion_taken n row log)))
            ];
      }

  none_of : (log : Log S E C W) (n number : ℕ) (row : Row S) → slice_get log.rows n ≡ None → n ≤ number → slice_get log.rows number ≡ Some row → ⊥
  none_of log n number row none le found =
      let within : number < length log.rows = slice_get_within log.rows number row found in
      let there : slice_get log.rows n ≡ Some (get_or log.rows n row) = slice_get-get_or log.rows n row (omega arith) in
      cc

  -- after the last row nothing is left to do
  all_taken : (n fuel : ℕ) (log : Log S E C W) → slice_get log.rows n ≡ None → AreTaken n log → AreTaken (n + fuel) log
  all_taken n fuel log none below = record {
    taken = λ number row within found.
        elim (lt_or_le number n) [
          | inl less ↦ below.taken number row less found
          | inr past ↦ absurd (none_of log n number row none past found)
        ];
  }

  taken_at : (n fuel : ℕ) (log : Log S E C W) (found : Option (Row S)) → slice_get log.rows n ≡ found → AreTaken n log
      → ((row : Row S) → slice_get log.rows n ≡ Some row → AreTaken ((n + 1) + fuel) (explored a budget fuel (n + 1) (with_expansion a budget n row log)))
      → AreTaken (n + suc fuel) (at_row a budget found log (λ row. explored a budget fuel (n + 1) (with_expansion a budget n row log)))
  taken_at n fuel log None none below rest = all_taken n (suc fuel) log none below
  taken_at n fuel log (Some row) at below rest =
      let P : ℕ → Type 0 = λ k. AreTaken k (explored a budget fuel (n + 1) (with_expansion a budget n row log)) in
      let e : (n + 1) + fuel ≡ n + suc fuel = omega arith in
      subst P e (rest row at)

  explored_taken : (fuel n : ℕ) (log : Log S E C W) → AreTaken n log → AreTaken (n + fuel) (explored a budget fuel n log)
  unfolding explored
  explored_taken zero n log below = let P : ℕ → Type 0 = λ k. AreTaken k log in subst P (sym (add-zero n)) below
  explored_taken (suc fuel) n log below =
      taken_at n fuel log (slice_get log.rows n) refl below
      (λ row at. explored_taken fuel (n + 1) (with_expansion a budget n row log) (one_more_taken n row log at below))

  -- the rows that are marked as expanded are the first ones
  pub record AreFlagged (rows : List (Row S)) : Type 0 where
    pub flag : (number : ℕ) (row : Row S) → slice_get rows number ≡ Some row → row.expanded ≡ nat_lt number budget

  last_flag : (rows : List (Row S)) (new row : Row S) (number : ℕ) → new.expanded ≡ nat_lt (length rows) budget → length rows ≤ number
      → slice_get (rows ++ new ∷ []) number ≡ Some row → row.expanded ≡ nat_lt number budget
  last_flag rows new row number flag past found =
      let within : number < length (rows ++ new ∷ []) = slice_get_within (rows ++ new ∷ []) number row found in
      let here : number ≡ length rows = omega (arith, length-append rows (new ∷ [])) in
      let same : new ≡ row = some_same new row (sym (slice_get-last rows new) ∙ ap (slice_get (rows ++ new ∷ [])) (sym here) ∙ found) in
      ap (λ r. r.expanded) (sym same) ∙ flag ∙ ap (λ n. nat_lt n budget) (sym here)

  flagged_append : (rows : List (Row S)) (parent : Option ℕ) (location : ℕ) (state : S) → AreFlagged rows → AreFlagged (rows ++ row_after budget rows parent location state ∷ [])
  flagged_append rows parent location state flags =
      let new = row_after budget rows parent location state in
      record {
        flag = λ number row found.
            elim (lt_or_le number (length rows)) [
              | inl less ↦ flags.flag number row (slice_get-append_back rows (new ∷ []) number row less found)
              | inr past ↦ last_flag rows new row number refl past found
            ];
      }

  flagged_with : (parent location : ℕ) (state : S) (rows : List (Row S)) → AreFlagged rows → AreFlagged (with_row a.covers budget parent location state rows)
  unfolding with_row
  flagged_with parent location state rows flags =
      elim (list_any (λ seen. a.covers seen state) (states_at location rows))
      as (λ b. AreFlagged (cond b rows (rows ++ row_after budget rows (Some parent) location state ∷ [])))
      [ true ↦ flags | false ↦ flagged_append rows (Some parent) location state flags ]

  flagged_pairs : (number : ℕ) (edge_to : ℕ → E) (pairs : List (ℕ × S)) (log : Log S E C W) → AreFlagged log.rows
      → AreFlagged (with_next_pairs a.covers a.widen budget number edge_to pairs log).rows
  flagged_pairs number edge_to [] log flags = flags
  flagged_pairs number edge_to (pair ∷ pairs) log flags =
      flagged_pairs number edge_to pairs (with_next_pair a.covers a.widen budget number (edge_to pair.0) pair log) (flagged_with number pair.0 (a.widen (states_at pair.0 log.rows) pair.1) log.rows flags)

  explored_flagged : (fuel n : ℕ) (log : Log S E C W) → AreFlagged log.rows → AreFlagged (explored a budget fuel n log).rows
  unfolding explored with_expansion
  explored_flagged zero n log flags = flags
  explored_flagged (suc fuel) n log flags =
      elim (slice_get log.rows n)
      as (λ found. AreFlagged (at_row a budget found log (λ row. explored a budget fuel (n + 1) (with_expansion a budget n row log))).rows) [
        | None ↦ flags
        | Some row ↦ explored_flagged fuel (n + 1) _ (flagged_pairs n (a.edge row.location row.state) (a.expand row.location row.state).next (with_notes n (a.expand row.location row.state) log) flags)
      ]

  -- a row that is expanded is taken into the finished log
  expanded_taken : (number : ℕ) (row : Row S) → slice_get (log_of a budget).rows number ≡ Some row → row.expanded ≡ true → IsTaken a (log_of a budget) number row
  unfolding log_of
  expanded_taken number row found expanded =
      let log = explored a budget budget 0 (first_log a budget) in
      let nothing : AreTaken 0 (first_log a budget) = record { taken = λ number row within found. absurd (omega arith) } in
      let flags : AreFlagged log.rows = explored_flagged budget 0 (first_log a budget) (flagged_append [] None a.entry a.start (record { flag = λ number row found. cc })) in
      let all : AreTaken (0 + budget) log = explored_taken budget 0 (first_log a budget) nothing in
      let below : nat_lt number budget ≡ true = sym (flags.flag number row found) ∙ expanded in
      all.taken number row (let l : number < budget = grind arith in omega arith) found

  first_there : slice_get (log_of a budget).rows 0 ≡ Some (row_after budget [] None a.entry a.start)
  unfolding log_of
  first_there =
      let first = first_log a budget in
      row_kept first (explored a budget budget 0 first) 0 (row_after budget [] None a.entry a.start) (explored-grows a budget budget 0 first) refl

-- where a log marks its rows
module _ {S E C W : Type 0} (a : Analysis S E C W) (log : Log S E C W) (number : ℕ) (row : Row S) (at : slice_get log.rows number ≡ Some row) where
  numbered : Contains (enumerate_from 0 log.rows) (number, row)
  numbered =
      let P : ℕ → Type 0 = λ n. Contains (enumerate_from 0 log.rows) (n, row) in
      let same : 0 + number ≡ number = omega arith in
      subst P same (Contains-numbered 0 log.rows number row at)

  by_expansion : (c : C) → Contains log.causes (number, c) → IsOpen a log row.location
  unfolding marks_by
  by_expansion c holds =
      let found : expansion_mark log.rows (number, c) ≡ Some (mark_of (number, row) c) = ap (option_map (λ (r : Row S). mark_of (number, r) c)) at in
      record {
        mark = mark_of (number, row) c;
        in_marks = Contains-append_left (filter_map (expansion_mark log.rows) log.causes) _ (mark_of (number, row) c)
            (Contains-filter_map (expansion_mark log.rows) log.causes (number, c) (mark_of (number, row) c) holds found);
        located = refl;
      }

  by_budget : row.expanded ≡ false → IsOpen a log row.location
  unfolding marks_by
  by_budget unexpanded =
      let left : ℕ × Row S → Bool = λ r. not r.1.expanded in
      record {
        mark = mark_of (number, row) a.unexpanded;
        in_marks = Contains-append_right (filter_map (expansion_mark log.rows) log.causes)
            (unexpanded_marks a.unexpanded log.rows) (mark_of (number, row) a.unexpanded)
            (Contains-map (λ (r : ℕ × Row S). mark_of r a.unexpanded) (filter left (enumerate_from 0 log.rows)) (number, row)
            (Contains-filter left (enumerate_from 0 log.rows) (number, row) numbered (ap not unexpanded)));
        located = refl;
      }

  was_expanded : (b : Bool) → row.expanded ≡ b → (IsOpen a log row.location → ⊥) → row.expanded ≡ true
  was_expanded true is shut = is
  was_expanded false is shut = absurd (shut (by_budget is))

  row_done : IsTaken a log number row → (IsOpen a log row.location → ⊥) → IsDone a (map pair_of log.rows) log.edges row.location row.state
  row_done taken shut = record {
    no_cause = λ c holds. shut (by_expansion c (taken.causes c holds));
    has_next = taken.next;
    has_edge = taken.edges;
  }

module _ {S E C W : Type 0} (a : Analysis S E C W) (budget : ℕ) where
  -- the finished log is closed
  pub log_closed : IsClosed a (map pair_of (log_of a budget).rows) (log_of a budget).edges (IsOpen a (log_of a budget))
  log_closed =
      let log = log_of a budget in
      let first = row_after budget [] None a.entry a.start in
      record {
        first = a.start;
        first_in_rows = Contains-map pair_of log.rows first (Contains-slice_get log.rows 0 first (first_there a budget));
        first_stands = inl refl;
        done = λ location state held shut.
            let numbered = position_of (map pair_of log.rows) (location, state) held in
            let found : IsMappedAt pair_of log.rows numbered.0 (location, state) = mapped_at pair_of log.rows numbered.0 (location, state) numbered.1 in
            let P : ℕ × S → Type 0 = λ p. (IsOpen a log p.0 → ⊥) → IsDone a (map pair_of log.rows) log.edges p.0 p.1 in
            let here : P (pair_of found.from) = λ closed.
            row_done a log numbered.0 found.from found.at
            (expanded_taken a budget numbered.0 found.from found.at (was_expanded a log numbered.0 found.from found.at found.from.expanded refl closed)) closed in
            subst P found.is here shut;
      }

-- each row of a log of a sound analysis is well
module _ {S E C W M : Type 0} (a : Analysis S E C W) (machine : Machine M E) (IsWell : S → Type 0) (Describes : S → M → Type 0)
    (sound : Sound a machine IsWell Describes) (budget : ℕ) where
  abbrev AreWell : List (Row S) → Type 0
  AreWell rows = All (λ row. IsWell row.state) rows

  well_with : (parent location : ℕ) (state : S) (rows : List (Row S)) → IsWell state → AreWell rows → AreWell (with_row a.covers budget parent location state rows)
  unfolding with_row
  well_with parent location state rows well all =
      elim (list_any (λ seen. a.covers seen state) (states_at location rows))
      as (λ b. AreWell (cond b rows (rows ++ row_after budget rows (Some parent) location state ∷ [])))
      [ true ↦ all | false ↦ All-push (λ (row : Row S). IsWell row.state) rows (row_after budget rows (Some parent) location state) all well ]

  well_pairs : (number : ℕ) (edge_to : ℕ → E) (pairs : List (ℕ × S)) (log : Log S E C W) → ((pair : ℕ × S) → Contains pairs pair → IsWell pair.1) → AreWell log.rows
      → AreWell (with_next_pairs a.covers a.widen budget number edge_to pairs log).rows
  well_pairs number edge_to [] log each all = all
  well_pairs number edge_to (pair ∷ pairs) log each all =
      let seen = states_at pair.0 log.rows in
      well_pairs number edge_to pairs (with_next_pair a.covers a.widen budget number (edge_to pair.0) pair log) (λ other held. each other (Contains-later pair other pairs held))
      (well_with number pair.0 (a.widen seen pair.1) log.rows (sound.widen_well seen pair.1 (each pair (Contains-here pair pairs))) all)

  well_explored_from : (fuel number : ℕ) (log : Log S E C W) (found : Option (Row S)) → slice_get log.rows number ≡ found → AreWell log.rows
      → ((row : Row S) → AreWell (with_expansion a budget number row log).rows → AreWell (explored a budget fuel (number + 1) (with_expansion a budget number row log)).rows)
      → AreWell (at_row a budget found log (λ row. explored a budget fuel (number + 1) (with_expansion a budget number row log))).rows
  unfolding with_expansion
  well_explored_from fuel number log None at all rest = all
  well_explored_from fuel number log (Some row) at all rest =
      let well : IsWell row.state = All-contains (λ (r : Row S). IsWell r.state) log.rows row all (Contains-slice_get log.rows number row at) in
      rest row (well_pairs number (a.edge row.location row.state) (a.expand row.location row.state).next (with_notes number (a.expand row.location row.state) log)
      (λ pair held. sound.next_well row.location row.state pair well held) all)

  well_explored : (fuel number : ℕ) (log : Log S E C W) → AreWell log.rows → AreWell (explored a budget fuel number log).rows
  unfolding explored
  well_explored zero number log all = all
  well_explored (suc fuel) number log all =
      well_explored_from fuel number log (slice_get log.rows number) refl all (λ row more. well_explored fuel (number + 1) (with_expansion a budget number row log) more)

  pub rows_well : All (λ (row : ℕ × S). IsWell row.1) (map pair_of (log_of a budget).rows)
  unfolding log_of
  rows_well =
      All-map (λ (row : ℕ × S). IsWell row.1) pair_of (log_of a budget).rows
      (well_explored budget 0 (first_log a budget) (All-push (λ (row : Row S). IsWell row.state) [] (row_after budget [] None a.entry a.start) (All-nil (λ (row : Row S). IsWell row.state)) sound.start_well))
