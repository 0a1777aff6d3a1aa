-- What is found of each row tells the first one that fails, or all edges.
use Rattle.std.proofs.Common.{◌≡◌, ℕ, zero, suc, ◌+◌, map, take, ◌==◌, Bool, true, false, List, [], ◌∷◌, ◌++◌, length, length-append, append_assoc, Option, Some, None, refl, sym, subst, ◌∙◌, ap, arith}
use Rattle.std.specs.Prelude.{◌&&◌, IfOk, MatchResult, Result, Ok, Err, not, slice_get, flat_map, filter_map, option_map, if◌then◌else◌}
use Rattle.std.specs.List.{AllZip, cons_option, enumerate_from, range_with_len}
use Rattle.std.proofs.Common.{Global, Vec}
use Rattle.flow_log.specs.Analysis.{Analysis}
use Rattle.flow_log.specs.declared.edge.Edge.{Edge}
use Rattle.table_check.specs.declared.checking.TableAnswer.TheVariants.{No}
use Rattle.table_check.specs.declared.finding.Finding.{Finding}
use Rattle.table_check.specs.declared.finding.Finding.TheVariants.{Broken, Leads}
use Rattle.table_check.specs.Checking.{IsFinding, answer_found, broken_in, edges_in}
use Rattle.table_check.specs.Closed.{answer_by, broken_by, clause_broken, edges_from, edges_of, first_broken, has_no_cause, is_marked, leads_from, leads_to_rows, rows_broken, starts, START, CAUSE, NEXT}
use Rattle.table_check.proofs.Closing.{first_none}

slice_get-here : {X : Type 0} (front : List X) (x : X) (rest : List X) → slice_get (front ++ x ∷ rest) (length front) ≡ Some x
slice_get-here [] x rest = refl
slice_get-here (y ∷ front) x rest = slice_get-here front x rest

answer_with : (o : Option (ℕ × ℕ)) (es fs : List Edge) → (o ≡ None → es ≡ fs) → answer_by o es ≡ answer_by o fs
answer_with None es fs same = ap (answer_by None) (same refl)
answer_with (Some p) es fs same = refl

module _ {S C W : Type 0} (a : Analysis S Edge C W) (marked : List ℕ) (rows : List (ℕ × S)) where
  -- ---- one row

  pub broken-start : (number : ℕ) (row : ℕ × S) → (number == 0 && not (starts a marked rows row)) ≡ true → clause_broken a marked rows number row ≡ Some START
  broken-start number row e = ap (λ b. if b then Some START else if is_marked marked row.0 then None else broken_by a marked rows row) e

  pub unbroken-marked : (number : ℕ) (row : ℕ × S) → (number == 0 && not (starts a marked rows row)) ≡ false → is_marked marked row.0 ≡ true → clause_broken a marked rows number row ≡ None
  unbroken-marked number row e f =
      ap (λ b. if b then Some START else if is_marked marked row.0 then None else broken_by a marked rows row) e
      ∙ ap (λ b. if b then None else broken_by a marked rows row) f

  pub broken-open : (number : ℕ) (row : ℕ × S) → (number == 0 && not (starts a marked rows row)) ≡ false → is_marked marked row.0 ≡ false
      → clause_broken a marked rows number row ≡ broken_by a marked rows row
  broken-open number row e f =
      ap (λ b. if b then Some START else if is_marked marked row.0 then None else broken_by a marked rows row) e
      ∙ ap (λ b. if b then None else broken_by a marked rows row) f

  pub edges-marked : (row : ℕ × S) → is_marked marked row.0 ≡ true → edges_from a marked rows row ≡ []
  edges-marked row e = ap (λ b. if b then [] else leads_from a marked rows row) e

  pub edges-open : (row : ℕ × S) → is_marked marked row.0 ≡ false → edges_from a marked rows row ≡ leads_from a marked rows row
  edges-open row e = ap (λ b. if b then [] else leads_from a marked rows row) e

  pub broken-cause : (row : ℕ × S) → has_no_cause a marked rows row ≡ false → broken_by a marked rows row ≡ Some CAUSE
  broken-cause row e = ap (λ b. if not b then Some CAUSE else if not (leads_to_rows a marked rows row) then Some NEXT else None) e

  pub broken-next : (row : ℕ × S) → has_no_cause a marked rows row ≡ true → leads_to_rows a marked rows row ≡ false → broken_by a marked rows row ≡ Some NEXT
  broken-next row e f =
      ap (λ b. if not b then Some CAUSE else if not (leads_to_rows a marked rows row) then Some NEXT else None) e ∙ ap (λ b. if not b then Some NEXT else None) f

  pub broken-none : (row : ℕ × S) → has_no_cause a marked rows row ≡ true → leads_to_rows a marked rows row ≡ true → broken_by a marked rows row ≡ None
  broken-none row e f =
      ap (λ b. if not b then Some CAUSE else if not (leads_to_rows a marked rows row) then Some NEXT else None) e ∙ ap (λ b. if not b then Some NEXT else None) f

  -- ---- all rows

  abbrev Found : ℕ → Finding → Type 0
  Found number f = (row : ℕ × S) → slice_get rows number ≡ Some row → IsFinding (clause_broken a marked rows number row) (edges_from a marked rows row) f

  abbrev pub test : ℕ × (ℕ × S) → Option (ℕ × ℕ)
  test numbered = option_map (λ clause. (numbered.0, clause)) (clause_broken a marked rows numbered.0 numbered.1)

  -- a finding and its row tell the same
  one_broken : (number : ℕ) (row : ℕ × S) (f : Finding) → IsFinding (clause_broken a marked rows number row) (edges_from a marked rows row) f → broken_in (number, f) ≡ test (number, row)
  one_broken number row (Broken kind) h = let pairing : ℕ → ℕ × ℕ = λ clause. (number, clause) in sym (ap (option_map pairing) h)
  one_broken number row (Leads found) h = let pairing : ℕ → ℕ × ℕ = λ clause. (number, clause) in sym (ap (option_map pairing) h.0)

  -- where findings of rows from a number on stand
  record AreRest (front rest : List (ℕ × S)) (n : ℕ) (found : List Finding) : Type 0 where
    whole : rows ≡ front ++ rest
    count : n ≡ length front
    are : AllZip Found (range_with_len n (length rest)) found

  here : (front rest : List (ℕ × S)) (row : ℕ × S) (n : ℕ) (f : Finding) (found : List Finding) → AreRest front (row ∷ rest) n (f ∷ found)
      → IsFinding (clause_broken a marked rows n row) (edges_from a marked rows row) f
  here front rest row n f found h =
      h.are.0 row (ap (λ l. slice_get l n) h.whole ∙ ap (slice_get (front ++ row ∷ rest)) h.count ∙ slice_get-here front row rest)

  later : (front rest : List (ℕ × S)) (row : ℕ × S) (n : ℕ) (f : Finding) (found : List Finding) → AreRest front (row ∷ rest) n (f ∷ found)
      → AreRest (front ++ row ∷ []) rest (n + 1) found
  later front rest row n f found h = record {
    whole = h.whole ∙ sym (append_assoc front (row ∷ []) rest);
    count = omega (arith, h.count, length-append front (row ∷ []));
    are = h.are.1;
  }

  broken_same : (rest front : List (ℕ × S)) (found : List Finding) (n : ℕ) → AreRest front rest n found → filter_map broken_in (enumerate_from n found) ≡ filter_map test (enumerate_from n rest)
  broken_same [] front [] n h = refl
  broken_same [] front (f ∷ found) n h = absurd h.are
  broken_same (row ∷ rest) front [] n h = absurd h.are
  broken_same (row ∷ rest) front (f ∷ found) n h =
      ap (λ o. cons_option o (filter_map broken_in (enumerate_from (n + 1) found))) (one_broken n row f (here front rest row n f found h))
      ∙ ap (cons_option (test (n, row))) (broken_same rest (front ++ row ∷ []) found (n + 1) (later front rest row n f found h))

  edges_same : (rest front : List (ℕ × S)) (found : List Finding) (n : ℕ) → AreRest front rest n found → filter_map broken_in (enumerate_from n found) ≡ []
      → flat_map edges_in found ≡ flat_map (edges_from a marked rows) rest
  edges_same [] front [] n h none = refl
  edges_same [] front (f ∷ found) n h none = absurd h.are
  edges_same (row ∷ rest) front [] n h none = absurd h.are
  edges_same (row ∷ rest) front (Broken kind ∷ found) n h none = cc
  edges_same (row ∷ rest) front (Leads es ∷ found) n h none =
      ap (λ l. l ++ flat_map edges_in found) (here front rest row n (Leads es) found h).1
      ∙ ap (λ l. edges_from a marked rows row ++ l) (edges_same rest (front ++ row ∷ []) found (n + 1) (later front rest row n (Leads es) found h) none)

  pub first_by : (b : Bool) → (length rows == 0) ≡ b → first_broken a marked rows ≡ (if b then Some (0, START) else slice_get (rows_broken a marked rows) 0)
  first_by b e = ap (λ c. if c then Some (0, START) else slice_get (rows_broken a marked rows) 0) e

  -- the answer by the findings is that by the rows
  pub answer-is : (found : List Finding) → (length rows == 0) ≡ false → AllZip Found (range_with_len 0 (length rows)) found
      → answer_found found ≡ answer_by (first_broken a marked rows) (edges_of a marked rows)
  answer-is found some are =
      let h : AreRest [] rows 0 found = record { whole = refl; count = refl; are = are } in
      answer_with (slice_get (filter_map broken_in (enumerate_from 0 found)) 0) (flat_map edges_in found) (edges_of a marked rows)
      (λ none. edges_same rows [] found 0 h (first_none (filter_map broken_in (enumerate_from 0 found)) none))
      ∙ ap (λ l. answer_by (slice_get l 0) (edges_of a marked rows)) (broken_same rows [] found 0 h)
      ∙ ap (λ o. answer_by o (edges_of a marked rows)) (sym (first_by false some))

  -- a table without rows fails at row 0
  pub answer-none : (length rows == 0) ≡ true → answer_by (first_broken a marked rows) (edges_of a marked rows) ≡ No 0 START
  answer-none none = ap (λ o. answer_by o (edges_of a marked rows)) (first_by true none)

-- ---- what the code finds of findings

-- the first finding that fails is that of a number below which none does
pub first-here : (start : ℕ) (found : List Finding) (n : ℕ) (f : Finding) → slice_get found n ≡ Some f → filter_map broken_in (enumerate_from start (take n found)) ≡ []
    → (rest : List (ℕ × ℕ)) × (filter_map broken_in (enumerate_from start found) ≡ cons_option (broken_in (start + n, f)) rest)
first-here start [] n f at none = absurd (cc)
first-here start (g ∷ gs) zero f at none =
    let same : g ≡ f = cc in
    let rest = filter_map broken_in (enumerate_from (start + 1) gs) in
    let number : start ≡ start + 0 = omega arith in
    (rest, ap (λ x. cons_option (broken_in (start, x)) rest) same ∙ ap (λ z. cons_option (broken_in (z, f)) rest) number)
first-here start (Broken kind ∷ gs) (suc n) f at none = absurd (cc)
first-here start (Leads es ∷ gs) (suc n) f at none =
    let later = first-here (start + 1) gs n f at none in
    let number : (start + 1) + n ≡ start + suc n = omega arith in
    (later.0, later.1 ∙ ap (λ z. cons_option (broken_in (z, f)) later.0) number)

pub none-more : (start : ℕ) (found : List Finding) (n : ℕ) (es : Vec Edge Global) → slice_get found n ≡ Some (Leads es) → filter_map broken_in (enumerate_from start (take n found)) ≡ []
    → filter_map broken_in (enumerate_from start (take (suc n) found)) ≡ []
none-more start [] n es at none = absurd (cc)
none-more start (g ∷ gs) zero es at none = let same : g ≡ Leads es = cc in ap (λ x. cons_option (broken_in (start, x)) []) same
none-more start (Broken kind ∷ gs) (suc n) es at none = absurd (cc)
none-more start (Leads fs ∷ gs) (suc n) es at none = none-more (start + 1) gs n es at none

-- what is so of the value of an `Ok`
pub match-ok : {T E : Type 0} (r : Result T E) (P R : T → Type 0) (Q : E → Type 0) → MatchResult r P Q → ((v : T) → P v → R v) → IfOk r R
match-ok (Ok v) P R Q h f = f v h
match-ok (Err e) P R Q h f = tt

-- where no call failed, each finding is as its call says
pub found-all : (E : Type 0) (P : ℕ → Finding → Type 0) (ns : List ℕ) (fs : List Finding)
    → AllZip {A = ℕ} {B = Result Finding E} (λ n r. IfOk r (P n)) ns (map Ok fs) → AllZip P ns fs
found-all E P [] [] h = tt
found-all E P [] (f ∷ fs) h = absurd h
found-all E P (n ∷ ns) [] h = absurd h
found-all E P (n ∷ ns) (f ∷ fs) h = (h.0, found-all E P ns fs h.1)

-- what is so of a value is so of an equal one
pub moved : {F : Type 0} (f f' : F) (P : F → Type 0) → f ≡ f' → P f → P f'
moved f f' P e h = subst P e h

-- what is found tells the same of equal clauses and edges
pub finding-same : (o o' : Option ℕ) (es es' : List Edge) (f : Finding) → o ≡ o' → es ≡ es' → IsFinding o es f → IsFinding o' es' f
finding-same o o' es es' (Broken kind) same edges h = sym same ∙ h
finding-same o o' es es' (Leads found) same edges h = (sym same ∙ h.0, h.1 ∙ edges)
