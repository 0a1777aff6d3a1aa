-- Runs of addresses that may be written, from segment to segment.
use Rattle.std.proofs.Common.{ℕ, zero, suc, ◌≡◌, ◌+◌, ◌-◌, ◌<◌, ◌≤◌, Bool, true, false, cond, List, [], ◌∷◌, map, length, get_or, refl, sym, ◌∙◌, ap, subst, arith, ⊎_elim, All, min, max, Some}
use Rattle.std.specs.Prelude.{◌&&◌, ◌||◌, ◌==◌, nat_le, nat_lt, slice_get}
use Rattle.std.specs.List.{list_any}
use Rattle.std.proofs.lemmas.Bool.{and_parts, cases_lt, false≢true, or_left, or_right, or_parts, eqb-true, eq-eqb, ne_eqb, leb-true, le-leb, lt-ltb, ltb-true, or_cases, and_from}
use Rattle.std.proofs.lemmas.List.Elements.{All-cons, All-nil}
use Rattle.std.proofs.lemmas.List.{length-map, get_or-map}
use Rattle.std.proofs.Math.Nat.{le-max_left, le-max_right, min-le_left, min-le_right, max-le, le-min}
use Rattle.memory_map.specs.Range.{Range, USER_LOW, end_of, has, may_write, may_write_any}
use Rattle.memory_map.specs.Map.{is_allowed, may_write_between, permits, range_of, IsMap}
use Rattle.memory_map.specs.Spans.{AreAll, IsBelow, join_span, runs_of}
use Rattle.memory_map.specs.declared.segment.Segment.{Segment}
use Rattle.memory_map.specs.declared.span.Span.{Span}
use Rattle.memory_map.proofs.Access.{allowed_segment}
use Rattle.memory_map.proofs.Reaching.{any_in, decided, found_in, writable, write-mapped}

module _ (test : ℕ → Bool) where
  -- addresses that fail the test begin no run
  pub runs_of-skips : (m n a : ℕ) → AreAll test false a (a + m) → runs_of test a (m + n) ≡ runs_of test (a + m) n
  unfolding runs_of
  runs_of-skips zero n a h =
      let e : 0 + n ≡ n = omega arith in
      let same : a ≡ a + 0 = omega arith in
      ap (λ k. runs_of test a k) e ∙ ap (λ x. runs_of test x n) same
  runs_of-skips (suc m) n a h =
      let e : suc m + n ≡ suc (m + n) = omega arith in
      let next : AreAll test false (a + 1) (a + 1 + m) = record { each = λ b low high. h.each b (omega (arith, low)) (omega (arith, high)) } in
      let same : a + 1 + m ≡ a + suc m = omega arith in
      ap (λ k. runs_of test a k) e
      ∙ ap (λ t. cond t (join_span a 1 (runs_of test (a + 1) (m + n))) (runs_of test (a + 1) (m + n))) (h.each a (omega arith) (omega arith))
      ∙ runs_of-skips m n (a + 1) next
      ∙ ap (λ x. runs_of test x n) same

  joined_twice : (a m : ℕ) (runs : List Span) → join_span a 1 (join_span (a + 1) m runs) ≡ join_span a (1 + m) runs
  joined_twice a m [] = let e : 1 + m ≡ 1 + m = refl in ap (λ b. cond b (record { low = a; size = 1 + m } ∷ []) (record { low = a; size = 1 } ∷ record { low = a + 1; size = m } ∷ [])) (eq-eqb (a + 1) (a + 1) refl)
  joined_twice a m (r ∷ runs) = at (r.low == a + 1 + m) refl
    where
      at : (t : Bool) → (r.low == a + 1 + m) ≡ t → join_span a 1 (join_span (a + 1) m (r ∷ runs)) ≡ join_span a (1 + m) (r ∷ runs)
      at true is =
          let e : r.low ≡ a + (1 + m) = omega (arith, eqb-true r.low (a + 1 + m) is) in
          let sum : 1 + (m + r.size) ≡ 1 + m + r.size = omega arith in
          ap (λ b. join_span a 1 (cond b (record { low = a + 1; size = m + r.size } ∷ runs) (record { low = a + 1; size = m } ∷ r ∷ runs))) is
          ∙ ap (λ b. cond b (record { low = a; size = 1 + (m + r.size) } ∷ runs) (record { low = a; size = 1 } ∷ record { low = a + 1; size = m + r.size } ∷ runs)) (eq-eqb (a + 1) (a + 1) refl)
          ∙ ap (λ k. record { low = a; size = k } ∷ runs) sum
          ∙ sym (ap (λ b. cond b (record { low = a; size = 1 + m + r.size } ∷ runs) (record { low = a; size = 1 + m } ∷ r ∷ runs)) (eq-eqb r.low (a + (1 + m)) e))
      at false is =
          let off : r.low ≡ a + (1 + m) → r.low ≡ a + 1 + m = λ e. omega (arith, e) in
          ap (λ b. join_span a 1 (cond b (record { low = a + 1; size = m + r.size } ∷ runs) (record { low = a + 1; size = m } ∷ r ∷ runs))) is
          ∙ ap (λ b. cond b (record { low = a; size = 1 + m } ∷ r ∷ runs) (record { low = a; size = 1 } ∷ record { low = a + 1; size = m } ∷ r ∷ runs)) (eq-eqb (a + 1) (a + 1) refl)
          ∙ sym (ap (λ b. cond b (record { low = a; size = 1 + m + r.size } ∷ runs) (record { low = a; size = 1 + m } ∷ r ∷ runs))
          (ne_eqb r.low (a + (1 + m)) (λ e. false≢true (sym is ∙ eq-eqb r.low (a + 1 + m) (off e)))))

  -- addresses that pass it are a run, or the front of one
  pub runs_of-joins : (m n a : ℕ) → 0 < m → AreAll test true a (a + m) → runs_of test a (m + n) ≡ join_span a m (runs_of test (a + m) n)
  unfolding runs_of
  runs_of-joins zero n a some h = absurd (omega arith)
  runs_of-joins (suc zero) n a some h =
      let e : 1 + n ≡ suc n = omega arith in
      ap (λ k. runs_of test a k) e
      ∙ ap (λ t. cond t (join_span a 1 (runs_of test (a + 1) n)) (runs_of test (a + 1) n)) (h.each a (omega arith) (omega arith))
  runs_of-joins (suc (suc m)) n a some h =
      let e : suc (suc m) + n ≡ suc (suc m + n) = omega arith in
      let next : AreAll test true (a + 1) (a + 1 + suc m) = record { each = λ b low high. h.each b (omega (arith, low)) (omega (arith, high)) } in
      let same : a + 1 + suc m ≡ a + suc (suc m) = omega arith in
      let size : 1 + suc m ≡ suc (suc m) = omega arith in
      ap (λ k. runs_of test a k) e
      ∙ ap (λ t. cond t (join_span a 1 (runs_of test (a + 1) (suc m + n))) (runs_of test (a + 1) (suc m + n))) (h.each a (omega arith) (omega arith))
      ∙ ap (join_span a 1) (runs_of-joins (suc m) n (a + 1) (omega arith) next)
      ∙ joined_twice a (suc m) (runs_of test (a + 1 + suc m) n)
      ∙ ap (λ x. join_span a (1 + suc m) (runs_of test x n)) same
      ∙ ap (λ k. join_span a k (runs_of test (a + suc (suc m)) n)) size

  pub runs_of-none : (n a : ℕ) → n ≡ 0 → runs_of test a n ≡ []
  unfolding runs_of
  runs_of-none zero a h = refl
  runs_of-none (suc n) a h = absurd (omega (arith, h))

  -- the runs of the addresses from one on, by those of the addresses from a later one on
  pub skipped : (end at start : ℕ) → start ≤ at → at ≤ end → AreAll test false start at → runs_of test at (end - at) ≡ runs_of test start (end - start)
  skipped end at start low high h =
      let middle : start + (at - start) ≡ at = omega arith in
      let whole : (at - start) + (end - at) ≡ end - start = omega arith in
      let P : ℕ → Type 0 = λ x. AreAll test false start x in
      sym (
      sym (ap (λ k. runs_of test start k) whole)
      ∙ runs_of-skips (at - start) (end - at) start (subst P (sym middle) h)
      ∙ ap (λ x. runs_of test x (end - at)) middle
      )

  pub joined : (end at start : ℕ) (old new : List Span) → start < at → at ≤ end → AreAll test true start at → old ≡ runs_of test at (end - at) → new ≡ join_span start (at - start) old
      → new ≡ runs_of test start (end - start)
  joined end at start old new low high h was is =
      let middle : start + (at - start) ≡ at = omega arith in
      let whole : (at - start) + (end - at) ≡ end - start = omega arith in
      let P : ℕ → Type 0 = λ x. AreAll test true start x in
      is
      ∙ ap (join_span start (at - start)) (was ∙ sym (ap (λ x. runs_of test x (end - at)) middle))
      ∙ sym (runs_of-joins (at - start) (end - at) start (omega arith) (subst P (sym middle) h))
      ∙ ap (λ k. runs_of test start k) whole

  below_joined : (end a m : ℕ) (runs : List Span) → a + m ≤ end → All (IsBelow end) runs → All (IsBelow end) (join_span a m runs)
  below_joined end a m [] h k = All-cons (IsBelow end) (record { low = a; size = m }) [] h k
  below_joined end a m (r ∷ runs) h k = at (r.low == a + m) refl
    where
      at : (t : Bool) → (r.low == a + m) ≡ t → All (IsBelow end) (cond t (record { low = a; size = m + r.size } ∷ runs) (record { low = a; size = m } ∷ r ∷ runs))
      at true is =
          let first : r.low + r.size ≤ end = k 0 r (omega arith) in
          All-cons (IsBelow end) (record { low = a; size = m + r.size }) runs (omega (arith, first, eqb-true r.low (a + m) is)) (λ i d in'. k (suc i) d (omega (arith, in')))
      at false is = All-cons (IsBelow end) (record { low = a; size = m }) (r ∷ runs) h k

  pub runs_of-below : (n a end : ℕ) → a + n ≤ end → All (IsBelow end) (runs_of test a n)
  unfolding runs_of
  runs_of-below zero a end h = All-nil (IsBelow end)
  runs_of-below (suc n) a end h =
      let rest : All (IsBelow end) (runs_of test (a + 1) n) = runs_of-below n (a + 1) end (omega (arith, h)) in
      elim (test a) as (λ t. All (IsBelow end) (cond t (join_span a 1 (runs_of test (a + 1) n)) (runs_of test (a + 1) n)))
      [ true ↦ below_joined end a 1 (runs_of test (a + 1) n) (omega (arith, h)) rest | false ↦ rest ]

-- the first of spans that end up to an address
pub first_below : (end : ℕ) (runs : List Span) (s : Span) → All (IsBelow end) runs → Some s ≡ slice_get runs 0 → s.low + s.size ≤ end
first_below end [] s h is = cc
first_below end (r ∷ runs) s h is =
    let first : r.low + r.size ≤ end = h 0 r (omega arith) in
    let same : s ≡ r = cc in
    let P : Span → Type 0 = λ x. x.low + x.size ≤ end in subst P (sym same) first

-- the bytes of a segment that may be written
pub writes_from : (list : List Segment) (a i : ℕ) (s : Segment) → i < length list → s ≡ get_or list i s → has a (range_of s) ≡ true → permits writable (range_of s) ≡ true
    → (s.low ≤ a) × AreAll (may_write (map range_of list)) true s.low (a + 1)
writes_from list a i s in' is here allows =
    let r = range_of s in
    let parts = and_parts (nat_le r.low a) (nat_lt a (end_of r)) here in
    let above = leb-true r.low a parts.0 in
    let below = ltb-true a (end_of r) parts.1 in
    let low : has s.low r ≡ true = and_from (nat_le r.low r.low) (nat_lt r.low (end_of r)) (le-leb r.low r.low (omega arith)) (lt-ltb r.low (end_of r) (omega arith)) in
    let all = (allowed_segment list writable s.low i s in' is low allows).1 in
    (above, record { each = λ b from to. sym (write-mapped (map range_of list) b) ∙ all.each b from (omega arith) })

-- where no byte may be written at an address, and no segment that may be written ends above another one up to it, none may be written between them
module _ (list : List Segment) (low a : ℕ) where
  no_write : (s : Segment) (b : ℕ) → (has a (range_of s) && permits writable (range_of s)) ≡ false → (permits writable (range_of s) ≡ true → end_of (range_of s) ≤ a → end_of (range_of s) ≤ low) → low ≤ b → b < a + 1
      → (has b (range_of s) && permits writable (range_of s)) ≡ false
  no_write s b none ends from to = at (has b (range_of s)) (permits writable (range_of s)) refl refl
    where
      at : (h p : Bool) → has b (range_of s) ≡ h → permits writable (range_of s) ≡ p → (h && p) ≡ false
      at true true here allows =
          let r = range_of s in
          let parts = and_parts (nat_le r.low b) (nat_lt b (end_of r)) here in
          let above = leb-true r.low b parts.0 in
          let below = ltb-true b (end_of r) parts.1 in
          absurd (⊎_elim
          (λ (inside : a < end_of r).
          let held : has a r ≡ true = and_from (nat_le r.low a) (nat_lt a (end_of r)) (le-leb r.low a (omega arith)) (lt-ltb a (end_of r) inside) in
          false≢true (sym none ∙ and_from (has a r) (permits writable r) held allows))
          (λ (past : end_of r ≤ a). omega (arith, ends allows past))
          (cases_lt a (end_of r)))
      at true false here allows = refl
      at false p here allows = refl

  -- each segment that may be written and ends up to an address ends up to a lower one
  pub record EndsBelow (among : List Segment) : Type 0 where
    pub each : (k : ℕ) (d : Segment) → k < length among → permits writable (range_of (get_or among k d)) ≡ true → end_of (range_of (get_or among k d)) ≤ a → end_of (range_of (get_or among k d)) ≤ low

  none_of : (among : List Segment) → list_any (λ r. has a r && permits writable r) (map range_of among) ≡ false → EndsBelow among → (b : ℕ) → low ≤ b → b < a + 1
      → list_any (λ r. has b r && permits writable r) (map range_of among) ≡ false
  none_of [] none ends b from to = refl
  none_of (s ∷ among) none ends b from to =
      let parts = or_parts (has a (range_of s) && permits writable (range_of s)) (list_any (λ r. has a r && permits writable r) (map range_of among)) none in
      ap (λ t. t || list_any (λ r. has b r && permits writable r) (map range_of among)) (no_write s b parts.0 (ends.each 0 s (omega arith)) from to)
      ∙ none_of among parts.1 (record { each = λ k d in'. ends.each (suc k) d (omega (arith, in')) }) b from to

  pub writes_none : is_allowed (map range_of list) writable a ≡ false → EndsBelow list → AreAll (may_write (map range_of list)) false low (a + 1)
  writes_none none ends = record {
    each = λ b from to. sym (write-mapped (map range_of list) b) ∙ none_of list none ends b from to;
  }

pub list_any-map : {X Y : Type 0} (p : Y → Bool) (f : X → Y) (xs : List X) → list_any p (map f xs) ≡ list_any (λ x. p (f x)) xs
list_any-map p f [] = refl
list_any-map p f (x ∷ xs) = ap (λ b. p (f x) || b) (list_any-map p f xs)

-- no segment begins where no program's memory may lie
pub low_of : (list : List Segment) (i : ℕ) (s : Segment) → IsMap (map range_of list) → i < length list → s ≡ get_or list i s → USER_LOW ≤ s.low
low_of list i s m in' is =
    let at : range_of s ≡ get_or (map range_of list) i (range_of s) = ap range_of is ∙ sym (get_or-map range_of list i s (range_of s) in') in
    let P : Range → Type 0 = λ (r : Range). USER_LOW ≤ r.low in
    subst P (sym at) (m.inside i (range_of s) (omega (arith, length-map list range_of))).above

-- a test of the bytes of a map, from the later of two addresses on
pub narrowed : (test : ℕ → Bool) (answer : Bool) (low start end at : ℕ) → low ≤ start → end ≡ at → AreAll test answer low end → AreAll test answer start at
narrowed test answer low start end at below is h = record { each = λ b from to. h.each b (omega arith) (omega arith) }

-- some segment's writable bytes are among the addresses exactly where some of these may be written
module _ (from end : ℕ) where
  pub record IsWritten (ranges : List Range) : Type 0 where
    pub b : ℕ
    pub above : from ≤ b
    pub below : b < end
    pub written : is_allowed ranges writable b ≡ true

  later : (r : Range) (rs : List Range) → IsWritten rs → IsWritten (r ∷ rs)
  later r rs w = record { b = w.b; above = w.above; below = w.below; written = or_right (has w.b r && permits writable r) (is_allowed rs writable w.b) w.written }

  here : (r : Range) (rs : List Range) → may_write_between from end r ≡ true → IsWritten (r ∷ rs)
  here r rs h =
      let parts = and_parts r.write (nat_lt (max from r.low) (min end (end_of r))) h in
      let less = ltb-true (max from r.low) (min end (end_of r)) parts.1 in
      let low = le-max_left from r.low in
      let low' = le-max_right from r.low in
      let high = min-le_left end (end_of r) in
      let high' = min-le_right end (end_of r) in
      let b = max from r.low in
      record {
        b = b;
        above = low;
        below = omega (arith, less, high);
        written = or_left (has b r && permits writable r) (is_allowed rs writable b)
            (and_from (has b r) (permits writable r) (and_from (nat_le r.low b) (nat_lt b (end_of r)) (le-leb r.low b low') (lt-ltb b (end_of r) (omega (arith, less, high')))) (and_from r.write true parts.0 refl));
      }

  written_by : (ranges : List Range) → list_any (may_write_between from end) ranges ≡ true → IsWritten ranges
  written_by [] h = absurd (false≢true h)
  written_by (r ∷ rs) h =
      ⊎_elim (λ yes. here r rs yes) (λ others. later r rs (written_by rs others)) (or_cases (may_write_between from end r) (list_any (may_write_between from end) rs) h)

  between : (b : ℕ) (r : Range) → from ≤ b → b < end → (has b r && permits writable r) ≡ true → may_write_between from end r ≡ true
  between b r above below h =
      let parts = and_parts (has b r) (permits writable r) h in
      let inside = and_parts (nat_le r.low b) (nat_lt b (end_of r)) parts.0 in
      let least = max-le above (leb-true r.low b inside.0) in
      let most : b < min end (end_of r) = le-min below (ltb-true b (end_of r) inside.1) in
      and_from r.write (nat_lt (max from r.low) (min end (end_of r))) (and_parts r.write true parts.1).0 (lt-ltb (max from r.low) (min end (end_of r)) (omega (arith, least, most)))

  by_written : (ranges : List Range) (b : ℕ) → from ≤ b → b < end → is_allowed ranges writable b ≡ true → list_any (may_write_between from end) ranges ≡ true
  by_written [] b above below h = absurd (false≢true h)
  by_written (r ∷ rs) b above below h =
      ⊎_elim (λ yes. or_left (may_write_between from end r) (list_any (may_write_between from end) rs) (between b r above below yes))
      (λ others. or_right (may_write_between from end r) (list_any (may_write_between from end) rs) (by_written rs b above below others))
      (or_cases (has b r && permits writable r) (is_allowed rs writable b) h)

pub any_written : (ranges : List Range) (a n : ℕ) → list_any (may_write_between a (a + n)) ranges ≡ may_write_any ranges a n
any_written ranges a n =
    decided (list_any (may_write_between a (a + n)) ranges) (may_write_any ranges a n)
    (λ yes. let w = written_by a (a + n) ranges yes in any_in (may_write ranges) a n w.b w.above w.below (sym (write-mapped ranges w.b) ∙ w.written))
    (λ yes. let f = found_in (may_write ranges) a n yes in by_written a (a + n) ranges f.k f.above f.below (write-mapped ranges f.k ∙ f.passes))
