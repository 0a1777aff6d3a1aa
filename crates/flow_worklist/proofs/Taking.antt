-- Expansions that are made before any is taken in are those that the definition makes one after another.
use Rattle.std.proofs.Common.{◌≡◌, ℕ, zero, suc, ◌+◌, ◌-◌, ◌*◌, ◌/◌, ◌%◌, ◌<◌, ◌≤◌, ◌⊎◌, inl, inr, min, eq-zero-or-pos, List, [], ◌∷◌, ◌++◌, length, take, drop, get_or, Option, Some, None, refl, sym, ◌∙◌, ap, subst, arith, append_assoc}
use Rattle.std.proofs.Math.Nat.{add-mul, one-mul, suc-mul, zero-mul}
use Rattle.std.specs.Prelude.{slice_get, option_map, Result, Ok, Err, IfOk, Vec}
use Rattle.std.specs.List.{AllZip}
use Rattle.std.specs.declared.alloc.Global.{Global}
use Rattle.std.proofs.lemmas.List.{take_more, take-append-drop, drop-drop, length-drop, append-nil}
use Rattle.std.proofs.lemmas.Nat.{div-add-mod', mod_below}
use Rattle.std.proofs.lemmas.Option.{slice_get_past, same_Some}
use Rattle.std.proofs.lemmas.Slice.Zip.{all_zipped_more, AllZip-long}
use Rattle.bit_words.specs.declared.memory.NoMemory.{NoMemory}
use Rattle.domain_laws.specs.Laws.{Values}
use Rattle.memory_map.specs.Image.{Image}
use Rattle.stub_file.specs.Stubs.{StatedStubs}
use Rattle.flow_log.specs.Log.{Row, explored, with_expansion}
use Rattle.flow_log.proofs.Growing.{row_kept, with_expansion-grows}
use Rattle.abstract_state.specs.State.{Known}
use Rattle.flow_worklist.specs.declared.post.Post.{Post}
use Rattle.flow_worklist.specs.Analysis.{ImageLog, analysis_of}
use Rattle.flow_worklist.specs.PostOf.{IsPostOf}
use Rattle.flow_worklist.specs.Rounds.{ArePosts, in_order, with_post, with_posts}
use Rattle.flow_worklist.proofs.Expanding.{expanded_is, explored_one, explored_past, explored_spent}

-- two lists related place by place, and two more behind them
pub all_zip_append : {X Y : Type 0} (R : X → Y → Type 0) (xs us : List X) (ys vs : List Y) → AllZip R xs ys → AllZip R us vs → AllZip R (xs ++ us) (ys ++ vs)
all_zip_append R [] us [] vs h k = k
all_zip_append R [] us (y ∷ ys) vs h k = absurd h
all_zip_append R (x ∷ xs) us [] vs h k = absurd h
all_zip_append R (x ∷ xs) us (y ∷ ys) vs h k = (h.0, all_zip_append R xs us ys vs h.1 k)

pub no_length : {X : Type 0} (xs : List X) → length xs ≡ 0 → xs ≡ []
no_length [] e = refl
no_length (x ∷ xs) e = absurd (omega arith)

-- past the end of a list nothing comes later
none_later : {X : Type 0} (xs : List X) (n m : ℕ) → slice_get xs n ≡ None → slice_get xs (n + m) ≡ None
none_later [] n m none = refl
none_later (x ∷ xs) zero m none = cc
none_later (x ∷ xs) (suc n) m none =
    let e : suc n + m ≡ suc (n + m) = omega arith in
    ap (λ i. slice_get (x ∷ xs) i) e ∙ none_later xs n m none

at_back : {X : Type 0} (xs ys : List X) (i : ℕ) → slice_get (xs ++ ys) (length xs + i) ≡ slice_get ys i
at_back {X} [] ys i = (let e : length {A = X} [] + i ≡ i = omega arith in ap (λ j. slice_get ys j) e)
at_back (x ∷ xs) ys i =
    let e : length (x ∷ xs) + i ≡ suc (length xs + i) = omega arith in
    ap (λ j. slice_get (x ∷ (xs ++ ys)) j) e ∙ at_back xs ys i

at_front : {X : Type 0} (xs ys : List X) (i : ℕ) → i < length xs → slice_get (xs ++ ys) i ≡ slice_get xs i
at_front [] ys i within = absurd (omega arith)
at_front (x ∷ xs) ys zero within = refl
at_front (x ∷ xs) ys (suc i) within = at_front xs ys i (omega arith)

none_within : {X : Type 0} (xs : List X) (i : ℕ) → i < length xs → slice_get xs i ≡ None → ⊥
none_within [] i within none = absurd (omega arith)
none_within (x ∷ xs) zero within none = cc
none_within (x ∷ xs) (suc i) within none = none_within xs i (omega arith) none

-- where a round has no row, the budget is spent or no row is left
pub ends : (round budget count rows from size : ℕ) → size ≡ min (min round (budget - from)) (count - from) → size ≡ 0 → 0 < round → count ≡ rows → (budget - from ≡ 0) ⊎ (rows ≤ from)
ends round budget count rows from size is none some same = by_left (eq-zero-or-pos (budget - from))
  where
    by_left : (budget - from ≡ 0) ⊎ (0 < budget - from) → (budget - from ≡ 0) ⊎ (rows ≤ from)
    by_left (inl spent) = inl spent
    by_left (inr left) = inr (omega (arith, is, none, some, same, left))

-- some rows stand in a list from a number on
abbrev pub StandFrom : {X : Type 0} → ℕ → List X → List X → Type 0
StandFrom from rows all = (i : ℕ) → i < length rows → slice_get all (from + i) ≡ slice_get rows i

pub stand_between : {X : Type 0} (from : ℕ) (all before rest rows after : List X) → all ≡ before ++ rest → rest ≡ rows ++ after → length before ≡ from → StandFrom from rows all
stand_between from all before rest rows after whole part len i within =
    ap (λ l. slice_get l (from + i)) whole
    ∙ ap (λ n. slice_get (before ++ rest) (n + i)) (sym len)
    ∙ at_back before rest i
    ∙ ap (λ l. slice_get l i) part
    ∙ at_front rows after i within

-- pieces of a size, as many as it takes, have room for all of a list
pub covering : (count len size : ℕ) → 0 < size → count ≡ len / size + min 1 (len % size) → len ≤ count * size
covering count len size some is = by_rest (eq-zero-or-pos (len % size))
  where
    whole : len / size * size + len % size ≡ len
    whole = div-add-mod' len size

    by_rest : (len % size ≡ 0) ⊎ (0 < len % size) → len ≤ count * size
    by_rest (inl none) =
        let e : count ≡ len / size = omega (arith, is, none) in
        let f : count * size ≡ len / size * size = ap (λ n. n * size) e in
        omega (arith, whole, none, f)
    by_rest (inr left) =
        let e : count ≡ len / size + 1 = omega (arith, is, left) in
        let f : count * size ≡ (len / size + 1) * size = ap (λ n. n * size) e in
        omega (arith, whole, mod_below len size some, f, add-mul (len / size) 1 size, one-mul size)

behind_none : {X : Type 0} (o : Option (List X)) → option_map (λ (xs : List X). [] ++ xs) o ≡ o
behind_none None = refl
behind_none (Some xs) = refl

behind_both : {X : Type 0} (xs ys : List X) (o : Option (List X)) → option_map (λ (l : List X). xs ++ l) (option_map (λ (l : List X). ys ++ l) o) ≡ option_map (λ (l : List X). (xs ++ ys) ++ l) o
behind_both xs ys None = refl
behind_both xs ys (Some l) = ap Some (sym (append_assoc xs ys l))

none_is_some : {X : Type 0} (xs : List X) → None ≡ Some xs → ⊥
none_is_some xs e = grind arith

nothing_is_more : {X : Type 0} (x : X) (xs : List X) → [] ≡ x ∷ xs → ⊥
nothing_is_more x xs e = cc

module _ {X E : Type 0} where
  -- what is joined so far, and the pieces to come
  abbrev pub IsJoining : List (Result (Vec X Global) E) → List X → List (Result (Vec X Global) E) → Type 0
  IsJoining pieces xs rest = in_order pieces ≡ option_map (λ (l : List X). xs ++ l) (in_order rest)

  pub joining_starts : (pieces rest : List (Result (Vec X Global) E)) (xs : List X) → rest ≡ pieces → xs ≡ [] → IsJoining pieces xs rest
  joining_starts pieces rest xs same none =
      let P : List X → Type 0 = λ l. IsJoining pieces l rest in
      subst P (sym none) (ap (λ (l : List (Result (Vec X Global) E)). in_order l) (sym same) ∙ sym (behind_none (in_order rest)))

  pub joining_more : (pieces left rest : List (Result (Vec X Global) E)) (piece : Result (Vec X Global) E) (part : Vec X Global) (xs both : List X)
      → left ≡ piece ∷ rest → piece ≡ Ok part → both ≡ xs ++ part.items → IsJoining pieces xs left → IsJoining pieces both rest
  joining_more pieces left rest piece part xs both steps ok pushed so_far =
      let P : List X → Type 0 = λ l. IsJoining pieces l rest in
      subst P (sym pushed) (
      so_far
      ∙ ap (λ (l : List (Result (Vec X Global) E)). option_map (λ (ys : List X). xs ++ ys) (in_order l)) steps
      ∙ ap (λ (p : Result (Vec X Global) E). option_map (λ (ys : List X). xs ++ ys) (in_order (p ∷ rest))) ok
      ∙ behind_both xs part.items (in_order rest)
      )

  pub joining_ends : (pieces rest : List (Result (Vec X Global) E)) (xs : List X) → rest ≡ [] → IsJoining pieces xs rest → in_order pieces ≡ Some xs
  joining_ends pieces rest xs none so_far =
      so_far ∙ ap (λ (l : List (Result (Vec X Global) E)). option_map (λ (ys : List X). xs ++ ys) (in_order l)) none ∙ ap Some (append-nil xs)

module _ {D : Type 0} (d : Values D) (image : Image) (stubs : StatedStubs) (k budget : ℕ) where
  abbrev went : ℕ → ℕ → ImageLog D → ImageLog D
  went fuel number log = explored (analysis_of d image stubs k) budget fuel number log

  -- the expansion of one row more
  pub posts_more : (rows : List (Row (Known D))) (posts more : List (Post D)) (i : ℕ) (row : Row (Known D)) (answer : Post D) → i < length rows → row ≡ get_or rows i row → more ≡ posts ++ answer ∷ []
      → ArePosts d image stubs k (take i rows) posts → IsPostOf d image stubs k row.location row.state answer → ArePosts d image stubs k (take (i + 1) rows) more
  posts_more rows posts more i row answer within is pushed are this =
      let R : Row (Known D) → Post D → Type 0 = λ r a. IsPostOf d image stubs k r.location r.state a in
      let e : take (i + 1) rows ≡ take i rows ++ row ∷ [] = take_more rows i row within ∙ ap (λ y. take i rows ++ y ∷ []) (sym is) in
      let P : List (Post D) → Type 0 = λ l. AllZip R (take i rows ++ row ∷ []) l in
      let Q : List (Row (Known D)) → Type 0 = λ l. AllZip R l more in
      subst Q (sym e) (subst P (sym pushed) (all_zipped_more R (take i rows) posts row answer are this))

  -- the expansions of two parts of some rows
  pub posts_both : (rows front back : List (Row (Known D))) (posts first second : List (Post D)) → rows ≡ front ++ back → posts ≡ first ++ second
      → ArePosts d image stubs k front first → ArePosts d image stubs k back second → ArePosts d image stubs k rows posts
  posts_both rows front back posts first second whole joined are more =
      let R : Row (Known D) → Post D → Type 0 = λ r a. IsPostOf d image stubs k r.location r.state a in
      let P : List (Post D) → Type 0 = λ l. AllZip R (front ++ back) l in
      let Q : List (Row (Known D)) → Type 0 = λ l. AllZip R l posts in
      subst Q (sym whole) (subst P (sym joined) (all_zip_append R front back first second are more))

  -- each piece of some rows has its expansions, where it has an answer
  abbrev pub ArePieces : ℕ → List (Row (Known D)) → List (Result (Vec (Post D) Global) NoMemory) → Type 0
  ArePieces size rows pieces =
      (n : ℕ) (none : Result (Vec (Post D) Global) NoMemory) → n < length pieces
      → IfOk (get_or pieces n none) (λ part. ArePosts d image stubs k (take size (drop (n * size) rows)) part.items)

  first_piece : (size : ℕ) (rows : List (Row (Known D))) (part : Vec (Post D) Global) (pieces : List (Result (Vec (Post D) Global) NoMemory)) → ArePieces size rows (Ok part ∷ pieces)
      → ArePosts d image stubs k (take size rows) part.items
  first_piece size rows part pieces are =
      let P : ℕ → Type 0 = λ n. ArePosts d image stubs k (take size (drop n rows)) part.items in
      subst P (zero-mul size) (are zero (Ok part) (omega arith))

  later_pieces : (size : ℕ) (rows : List (Row (Known D))) (piece : Result (Vec (Post D) Global) NoMemory) (pieces : List (Result (Vec (Post D) Global) NoMemory))
      → ArePieces size rows (piece ∷ pieces) → ArePieces size (drop size rows) pieces
  later_pieces size rows piece pieces are n none within =
      let P : List (Row (Known D)) → Type 0 = λ l. IfOk (get_or pieces n none) (λ part. ArePosts d image stubs k (take size l) part.items) in
      let e : suc n * size ≡ size + n * size = omega (arith, suc-mul n size) in
      let f : drop (suc n * size) rows ≡ drop (n * size) (drop size rows) = ap (λ m. drop m rows) e ∙ sym (drop-drop (n * size) size rows) in
      subst P f (are (suc n) none (omega arith))

  -- the expansions of the pieces of some rows, joined
  pub posts_joined : (size : ℕ) (pieces : List (Result (Vec (Post D) Global) NoMemory)) (rows : List (Row (Known D))) (posts : List (Post D)) → length rows ≤ length pieces * size
      → ArePieces size rows pieces → in_order pieces ≡ Some posts → ArePosts d image stubs k rows posts
  posts_joined size [] [] [] room are is = tt
  posts_joined size [] [] (answer ∷ answers) room are is = absurd (nothing_is_more answer answers (same_Some [] (answer ∷ answers) is))
  posts_joined size [] (row ∷ rows) posts room are is = absurd (omega (arith, room, zero-mul size))
  posts_joined size (Err fault ∷ pieces) rows posts room are is = absurd (none_is_some posts is)
  posts_joined size (Ok part ∷ pieces) rows posts room are is =
      let whole : length {A = Result (Vec (Post D) Global) NoMemory} (Ok part ∷ pieces) ≡ suc (length pieces) = omega arith in
      let later : length (drop size rows) ≤ length pieces * size = omega (arith, room, ap (λ n. n * size) whole, suc-mul (length pieces) size, length-drop size rows) in
      by_rest (λ rest. posts_joined size pieces (drop size rows) rest later (later_pieces size rows (Ok part) pieces are)) (in_order pieces) refl
    where
      by_rest : ((rest : List (Post D)) → in_order pieces ≡ Some rest → ArePosts d image stubs k (drop size rows) rest) → (o : Option (List (Post D))) → in_order pieces ≡ o → ArePosts d image stubs k rows posts
      by_rest ih None at =
          absurd (none_is_some posts (sym (ap (λ (o : Option (List (Post D))). option_map (λ (l : List (Post D)). part.items ++ l) o) at) ∙ is))
      by_rest ih (Some rest) at =
          let both : posts ≡ part.items ++ rest = same_Some posts (part.items ++ rest) (sym is ∙ ap (λ (o : Option (List (Post D))). option_map (λ (l : List (Post D)). part.items ++ l) o) at) in
          posts_both rows (take size rows) (drop size rows) posts part.items rest (sym (take-append-drop size rows)) both (first_piece size rows part pieces are) (ih rest at)

  pub posts_long : (rows : List (Row (Known D))) (posts : List (Post D)) → ArePosts d image stubs k rows posts → length posts ≡ length rows
  posts_long rows posts are = AllZip-long (λ (r : Row (Known D)) (a : Post D). IsPostOf d image stubs k r.location r.state a) rows posts are

  -- so many rows, and then further ones
  pub explored_add : (size fuel number : ℕ) (log : ImageLog D) → went (size + fuel) number log ≡ went fuel (number + size) (went size number log)
  explored_add zero fuel number log =
      let e : zero + fuel ≡ fuel = omega arith in
      let f : number ≡ number + zero = omega arith in
      ap (λ n. went n number log) e
      ∙ ap (λ n. went fuel n log) f
      ∙ ap (λ l. went fuel (number + zero) l) (sym (explored_spent d image stubs k budget number log))
  explored_add (suc size) fuel number log = by_row (λ n l. explored_add size fuel n l) (slice_get log.rows number) refl
    where
      by_row : ((n : ℕ) (l : ImageLog D) → went (size + fuel) n l ≡ went fuel (n + size) (went size n l)) → (o : Option (Row (Known D))) → slice_get log.rows number ≡ o
          → went (suc size + fuel) number log ≡ went fuel (number + suc size) (went (suc size) number log)
      by_row ih None at =
          explored_past d image stubs k budget (suc size + fuel) number log at
          ∙ sym (explored_past d image stubs k budget fuel (number + suc size) log (none_later log.rows number (suc size) at))
          ∙ ap (λ (l : ImageLog D). went fuel (number + suc size) l) (sym (explored_past d image stubs k budget (suc size) number log at))
      by_row ih (Some row) at =
          let after = with_expansion (analysis_of d image stubs k) budget number row log in
          let e : suc size + fuel ≡ suc (size + fuel) = omega arith in
          let f : (number + 1) + size ≡ number + suc size = omega arith in
          ap (λ n. went n number log) e
          ∙ explored_one d image stubs k budget (size + fuel) number row log after at refl
          ∙ ih (number + 1) after
          ∙ ap (λ n. went fuel n (went size (number + 1) after)) f
          ∙ ap (λ (l : ImageLog D). went fuel (number + suc size) l) (sym (explored_one d image stubs k budget size number row log after at refl))

  -- a row that stands in a log stands there after the expansion of another
  still_there : (number : ℕ) (row : Row (Known D)) (log : ImageLog D) (rows : List (Row (Known D))) → StandFrom number (row ∷ rows) log.rows
      → StandFrom (number + 1) rows (with_expansion (analysis_of d image stubs k) budget number row log).rows
  still_there number row log rows stand i within = by_row (slice_get rows i) refl
    where
      after : ImageLog D
      after = with_expansion (analysis_of d image stubs k) budget number row log

      by_row : (o : Option (Row (Known D))) → slice_get rows i ≡ o → slice_get after.rows ((number + 1) + i) ≡ slice_get rows i
      by_row None at = absurd (none_within rows i within at)
      by_row (Some r) at =
          let l : suc i < length (row ∷ rows) = omega arith in
          let f : (number + 1) + i ≡ number + suc i = omega arith in
          let old : slice_get log.rows ((number + 1) + i) ≡ Some r = ap (λ n. slice_get log.rows n) f ∙ stand (suc i) l ∙ at in
          row_kept log after ((number + 1) + i) r (with_expansion-grows (analysis_of d image stubs k) budget number row log) old ∙ sym at

  -- the law of a round: expansions made of rows as they stand at its start, taken in one after another
  pub round_is : (number : ℕ) (rows : List (Row (Known D))) (posts : List (Post D)) (log : ImageLog D) → ArePosts d image stubs k rows posts → StandFrom number rows log.rows
      → with_posts d k budget number posts log ≡ went (length rows) number log
  round_is number [] [] log are stand = sym (explored_spent d image stubs k budget number log)
  round_is number [] (answer ∷ answers) log are stand = absurd are
  round_is number (row ∷ rows) [] log are stand = absurd are
  round_is number (row ∷ rows) (answer ∷ answers) log are stand =
      let after = with_expansion (analysis_of d image stubs k) budget number row log in
      let e : number ≡ number + zero = omega arith in
      let within : zero < length (row ∷ rows) = omega arith in
      let at : slice_get log.rows number ≡ Some row = ap (λ n. slice_get log.rows n) e ∙ stand zero within in
      ap (λ l. with_posts d k budget (number + 1) answers l) (expanded_is d image stubs k budget number row answer log are.0)
      ∙ round_is (number + 1) rows answers after are.1 (still_there number row log rows stand)
      ∙ sym (explored_one d image stubs k budget (length rows) number row log after at refl)

  -- one row by itself
  pub row_is : (number : ℕ) (row : Row (Known D)) (answer : Post D) (log : ImageLog D) → slice_get log.rows number ≡ Some row → IsPostOf d image stubs k row.location row.state answer
      → with_post d k budget number answer log ≡ went 1 number log
  row_is number row answer log at this =
      let after = with_expansion (analysis_of d image stubs k) budget number row log in
      expanded_is d image stubs k budget number row answer log this
      ∙ sym (explored_spent d image stubs k budget (number + 1) after)
      ∙ sym (explored_one d image stubs k budget zero number row log after at refl)

  -- past the budget or the last row the log stays as it is
  pub finished : (number : ℕ) (log : ImageLog D) → (budget - number ≡ 0) ⊎ (length log.rows ≤ number) → log ≡ went (budget - number) number log
  finished number log (inl spent) = sym (ap (λ n. went n number log) spent ∙ explored_spent d image stubs k budget number log)
  finished number log (inr past) = sym (explored_past d image stubs k budget (budget - number) number log (slice_get_past log.rows number past))
