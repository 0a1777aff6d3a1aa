-- Ranges merged one after another are the runs of all their addresses.
use Rattle.std.proofs.Common.{ℕ, zero, suc, ◌≡◌, ◌+◌, ◌-◌, ◌<◌, ◌≤◌, ◌⊎◌, inl, inr, ⊎_elim, Bool, true, false, cond, List, [], ◌∷◌, ◌++◌, length, get_or, refl, sym, ap, ◌∙◌, subst, arith, max, take}
use Rattle.std.specs.Prelude.{◌&&◌, ◌||◌, ◌==◌, ◌^◌, is_some, nat_le, nat_lt, All}
use Rattle.std.specs.List.Sorted.{IsNonDecreasingBy, IsPermutation}
use Rattle.std.proofs.lemmas.List.{get_or_default}
use Rattle.std.proofs.lemmas.List.Sorted.{list_any-IsPermutation}
use Rattle.std.proofs.lemmas.List.Sums.{AllPass-from_list_all}
use Rattle.memory_map.specs.Image.{Image, IsLoaded, is_mapped}
use Rattle.memory_map.specs.Map.{is_allowed}
use Rattle.std.specs.List.{list_any}
use Rattle.std.proofs.lemmas.Bool.{and_parts, cases_lt, cases_order, eq-eqb, false≢true, le-leb, leb-true, lt-leb, le-ltb, lt-ltb, ltb-true, ne_eqb, or_cases, or_left, or_right, and_from}
use Rattle.std.proofs.lemmas.List.Elements.{All-append, All-cons, All-nil}
use Rattle.std.proofs.lemmas.List.Folds.{list_any-append, list_any_more}
use Rattle.std.proofs.Math.Nat.{le-max_left, le-max_right, max-le}
use Rattle.memory_map.specs.Range.{Range, USER_END, byte_at, end_of, has, IsInUserSpace}
use Rattle.memory_map.specs.Spans.{is_in_ranges, is_in_span, join_span, runs_of, IsBelow}
use Rattle.memory_map.specs.declared.span.Span.{Span}
use Rattle.memory_map.proofs.Reaching.{decided, each_of, read-mapped}
use Rattle.image_listing.specs.Merging.{AreRuns, AreSeparate, BeginBy, Extends, Fits}
use Rattle.image_listing.specs.Listing.{unset_runs}
use Rattle.std.proofs.Math.Bool.{and-false}

abbrev span_of : ℕ → ℕ → Span
span_of low size = record { low = low; size = size }

is_in : (x : ℕ) (s : Span) → s.low ≤ x → x < s.low + s.size → is_in_span x s ≡ true
is_in x s low high = and_from (nat_le s.low x) (nat_lt x (s.low + s.size)) (le-leb s.low x low) (lt-ltb x (s.low + s.size) high)

in_parts : (x : ℕ) (s : Span) → is_in_span x s ≡ true → (s.low ≤ x) × (x < s.low + s.size)
in_parts x s h = let parts = and_parts (nat_le s.low x) (nat_lt x (s.low + s.size)) h in (leb-true s.low x parts.0, ltb-true x (s.low + s.size) parts.1)

-- an address before separate ranges is in none
none_before : (lo x : ℕ) (rs : List Span) → AreSeparate lo rs → x < lo → is_in_ranges x rs ≡ false
none_before lo x [] sep less = refl
none_before lo x (r ∷ rs) sep less =
    let from = sep.0 in
    let below : nat_le r.low x ≡ false = lt-leb r.low x (omega (arith, from, less)) in
    ap (λ b. (b && nat_lt x (r.low + r.size)) || is_in_ranges x rs) below ∙ none_before (r.low + r.size + 1) x rs sep.2 (omega (arith, from, less))

from_more : (lo more : ℕ) (rs : List Span) → AreSeparate lo rs → (is_in_ranges lo rs ≡ false) → more ≡ lo + 1 → AreSeparate more rs
from_more lo more [] sep off is = tt
from_more lo more (r ∷ rs) sep off is =
    ⊎_elim
    (λ (here : r.low ≡ lo).
    let some = sep.1 in
    absurd (false≢true (sym off ∙ or_left (is_in_span lo r) (is_in_ranges lo rs) (is_in lo r (omega (arith, here)) (omega (arith, here, some))))))
    (λ order. let from = sep.0 in ⊎_elim (λ less. absurd (omega (arith, less, from))) (λ above. (omega (arith, above, is), sep.1, sep.2)) order)
    (cases_order r.low lo)

-- separate ranges are the runs of their addresses
module _ (test : ℕ → Bool) where
  abbrev Same : ℕ → ℕ → List Span → Type 0
  Same a n runs = (x : ℕ) → a ≤ x → x < a + n → is_in_ranges x runs ≡ test x

  no_more : (n a : ℕ) (r : Span) (rs : List Span) → AreSeparate a (r ∷ rs) → All (IsBelow (a + n)) (r ∷ rs) → n ≡ 0 → ⊥
  no_more n a r rs sep below none = let from = sep.0 in let some = sep.1 in let end : r.low + r.size ≤ a + n = below 0 r (omega arith) in omega (arith, none)

  unfolding_step : (n a : ℕ) (t : Bool) → test a ≡ t → runs_of test a (suc n) ≡ cond t (join_span a 1 (runs_of test (a + 1) n)) (runs_of test (a + 1) n)
  unfolding runs_of
  unfolding_step n a t is = ap (λ b. cond b (join_span a 1 (runs_of test (a + 1) n)) (runs_of test (a + 1) n)) is

  later : (n a : ℕ) (runs : List Span) → Same a (suc n) runs → Same (a + 1) n runs
  later n a runs same x low high = same x (omega (arith, low)) (omega (arith, high))

  runs-none : (a : ℕ) → runs_of test a 0 ≡ []
  unfolding runs_of
  runs-none a = refl

  below_all : (n a : ℕ) (rs : List Span) → All (IsBelow (a + suc n)) rs → All (IsBelow (a + 1 + n)) rs
  below_all n a rs h k d in' = omega (arith, h k d in')

  pub are_runs : (n a : ℕ) (runs : List Span) → AreSeparate a runs → All (IsBelow (a + n)) runs → Same a n runs → runs ≡ runs_of test a n
  are_runs zero a [] sep below same = sym (runs-none a)
  are_runs zero a (r ∷ rs) sep below same = absurd (no_more 0 a r rs sep below refl)
  are_runs (suc n) a [] sep below same =
      are_runs n (a + 1) [] tt (All-nil (IsBelow (a + 1 + n))) (later n a [] same) ∙ sym (unfolding_step n a false (sym (same a (omega arith) (omega arith))))
  are_runs (suc n) a (r ∷ rs) sep below same =
      let from = sep.0 in
      let some = sep.1 in
      let end : r.low + r.size ≤ a + suc n = below 0 r (omega arith) in
      let others : All (IsBelow (a + 1 + n)) rs = below_all n a rs (λ k d in'. below (suc k) d (omega (arith, in'))) in
      ⊎_elim
      (λ (here : r.low ≡ a).
      let yes : test a ≡ true = sym (same a (omega arith) (omega arith)) ∙ or_left (is_in_span a r) (is_in_ranges a rs) (is_in a r (omega (arith, here)) (omega (arith, here, some))) in
      ⊎_elim
      (λ (one : r.size ≡ 1).
      let rest : rs ≡ runs_of test (a + 1) n =
      are_runs n (a + 1) rs (sooner (r.low + r.size + 1) (a + 1) rs sep.2 (omega (arith, here, one))) others
      (λ x low high.
      let out : is_in_span x r ≡ false = is_out x r (omega (arith, here, one, low)) in
      sym (ap (λ b. b || is_in_ranges x rs) out) ∙ later n a (r ∷ rs) same x low high) in
      let apart : join_span a 1 rs ≡ record { low = a; size = 1 } ∷ rs = not_joined a rs (r.low + r.size + 1) sep.2 (omega (arith, here, one)) in
      ap (λ s. s ∷ rs) (span_is r a 1 here one) ∙ sym apart ∙ ap (join_span a 1) rest ∙ sym (unfolding_step n a true yes))
      (λ (order : (r.size < 1) ⊎ (1 < r.size)).
      ⊎_elim (λ less. absurd (omega (arith, less, some)))
      (λ more.
      let tail : Span = record { low = a + 1; size = r.size - 1 } in
      let rest : tail ∷ rs ≡ runs_of test (a + 1) n =
      are_runs n (a + 1) (tail ∷ rs)
      (omega arith, omega (arith, more), sooner (r.low + r.size + 1) (a + 1 + (r.size - 1) + 1) rs sep.2 (omega (arith, here, more)))
      (All-cons (IsBelow (a + 1 + n)) tail rs (omega (arith, end, here, more)) others)
      (λ x low high. ap (λ b. b || is_in_ranges x rs) (same_tail x r a here more low) ∙ later n a (r ∷ rs) same x low high) in
      let size : 1 + (r.size - 1) ≡ r.size = omega (arith, more) in
      ap (λ s. s ∷ rs) (span_is r a r.size here refl)
      ∙ ap (λ k. record { low = a; size = k } ∷ rs) (sym size)
      ∙ sym (ap (λ b. cond b (record { low = a; size = 1 + (r.size - 1) } ∷ rs) (record { low = a; size = 1 } ∷ tail ∷ rs)) (eq-eqb (a + 1) (a + 1) refl))
      ∙ ap (join_span a 1) rest
      ∙ sym (unfolding_step n a true yes))
      order)
      (cases_order r.size 1))
      (λ order. ⊎_elim (λ less. absurd (omega (arith, less, from)))
      (λ (above : a < r.low).
      let off : is_in_ranges a (r ∷ rs) ≡ false = none_before (a + 1) a (r ∷ rs) (omega (arith, above), sep.1, sep.2) (omega arith) in
      are_runs n (a + 1) (r ∷ rs) (omega (arith, above), sep.1, sep.2) (below_all n a (r ∷ rs) below) (later n a (r ∷ rs) same)
      ∙ sym (unfolding_step n a false (sym (same a (omega arith) (omega arith)) ∙ off)))
      order)
      (cases_order r.low a)
    where
      sooner : (lo less : ℕ) (rs : List Span) → AreSeparate lo rs → less ≤ lo → AreSeparate less rs
      sooner lo less [] sep h = tt
      sooner lo less (r ∷ rs) sep h = let from = sep.0 in (omega (arith, from, h), sep.1, sep.2)

      is_out : (x : ℕ) (r : Span) → r.low + r.size ≤ x → is_in_span x r ≡ false
      is_out x r h = ap (λ b. nat_le r.low x && b) (le-ltb x (r.low + r.size) h) ∙ and-false (nat_le r.low x)

      span_is : (r : Span) (low size : ℕ) → r.low ≡ low → r.size ≡ size → r ≡ record { low = low; size = size }
      span_is r low size h k = ap (λ l. span_of l r.size) h ∙ ap (λ n. span_of low n) k

      not_joined : (a : ℕ) (rs : List Span) (lo : ℕ) → AreSeparate lo rs → a + 2 ≤ lo → join_span a 1 rs ≡ record { low = a; size = 1 } ∷ rs
      not_joined a [] lo sep h = refl
      not_joined a (r ∷ rs) lo sep h =
          let from = sep.0 in
          ap (λ b. cond b (record { low = a; size = 1 + r.size } ∷ rs) (record { low = a; size = 1 } ∷ r ∷ rs)) (ne_eqb r.low (a + 1) (λ e. omega (arith, e, from, h)))

      same_tail : (x : ℕ) (r : Span) (a : ℕ) → r.low ≡ a → 1 < r.size → a + 1 ≤ x → is_in_span x (record { low = a + 1; size = r.size - 1 }) ≡ is_in_span x r
      same_tail x r a here more low =
          let end : a + 1 + (r.size - 1) ≡ r.low + r.size = omega (arith, here, more) in
          ap (λ b. b && nat_lt x (a + 1 + (r.size - 1))) (le-leb (a + 1) x low ∙ sym (le-leb r.low x (omega (arith, here, low)))) ∙ ap (λ e. nat_le r.low x && nat_lt x e) end

-- one range more, after others or as one with the last of them
separate-more : (lo : ℕ) (xs : List Span) (r s : Span) → AreSeparate lo (xs ++ r ∷ []) → r.low + r.size + 1 ≤ s.low → 0 < s.size → AreSeparate lo (xs ++ r ∷ [] ++ s ∷ [])
separate-more lo [] r s sep gap some = (sep.0, sep.1, (gap, some, tt))
separate-more lo (x ∷ xs) r s sep gap some = (sep.0, sep.1, separate-more (x.low + x.size + 1) xs r s sep.2 gap some)

separate-last : (lo : ℕ) (xs : List Span) (r q : Span) → AreSeparate lo (xs ++ r ∷ []) → q.low ≡ r.low → 0 < q.size → AreSeparate lo (xs ++ q ∷ [])
separate-last lo [] r q sep same some = let from = sep.0 in (omega (arith, from, same), some, tt)
separate-last lo (x ∷ xs) r q sep same some = (sep.0, sep.1, separate-last (x.low + x.size + 1) xs r q sep.2 same some)

last_some : (lo : ℕ) (xs : List Span) (r : Span) → AreSeparate lo (xs ++ r ∷ []) → 0 < r.size
last_some lo [] r sep = sep.1
last_some lo (x ∷ xs) r sep = last_some (x.low + x.size + 1) xs r sep.2

in_both : (x : ℕ) (r s q : Span) → r.low ≤ s.low → s.low ≤ r.low + r.size → q.low ≡ r.low → q.low + q.size ≡ max (r.low + r.size) (s.low + s.size) → is_in_span x q ≡ (is_in_span x r || is_in_span x s)
in_both x r s q order meets low end =
    let left = le-max_left (r.low + r.size) (s.low + s.size) in
    let right = le-max_right (r.low + r.size) (s.low + s.size) in
    decided (is_in_span x q) (is_in_span x r || is_in_span x s)
    (λ yes.
    let at = in_parts x q yes in
    let from = at.0 in
    let below = at.1 in
    ⊎_elim (λ before. or_left (is_in_span x r) (is_in_span x s) (is_in x r (omega (arith, from, low)) before))
    (λ past. or_right (is_in_span x r) (is_in_span x s) (is_in x s (omega (arith, meets, past)) (past_first x (r.low + r.size) (s.low + s.size) past (omega (arith, below, end)))))
    (cases_lt x (r.low + r.size)))
    (λ yes.
    ⊎_elim (λ in_r. let at = in_parts x r in_r in let from = at.0 in let below = at.1 in is_in x q (omega (arith, from, low)) (omega (arith, below, left, end)))
    (λ in_s. let at = in_parts x s in_s in let from = at.0 in let below = at.1 in is_in x q (omega (arith, from, order, low)) (omega (arith, below, right, end)))
    (or_cases (is_in_span x r) (is_in_span x s) yes))
  where
    past_first : (x a b : ℕ) → a ≤ x → x < max a b → x < b
    past_first x a b h less = ⊎_elim (λ (below : x < b). below) (λ (above : b ≤ x). let most : max a b ≤ x = max-le h above in absurd (omega (arith, most, less))) (cases_lt x b)

or_three : (a b c : Bool) → (a || (b || c || false)) ≡ (a || (b || false) || c)
or_three true b c = refl
or_three false true c = refl
or_three false false true = refl
or_three false false false = refl

or_end : (a b : Bool) → (a || (b || false)) ≡ (a || b)
or_end true b = refl
or_end false true = refl
or_end false false = refl

pub extends_first : (s : Span) → 0 < s.size → IsBelow USER_END s → Extends [] s (s ∷ [])
extends_first s some below = record {
  separate = (omega arith, some, tt);
  below = All-cons (IsBelow USER_END) s [] below (All-nil (IsBelow USER_END));
  same = λ x. or_end false (is_in_span x s);
  by = All-cons (λ (r : Span). r.low ≤ s.low) s [] (omega arith) (All-nil (λ (r : Span). r.low ≤ s.low));
}

all_front : (P : Span → Type 0) (xs : List Span) (r : Span) → All P (xs ++ r ∷ []) → All P xs
all_front P [] r h = All-nil P
all_front P (x ∷ xs) r h = All-cons P x xs (h 0 x (omega arith)) (all_front P xs r (λ k d in'. h (suc k) d (omega (arith, in'))))

all_last : (P : Span → Type 0) (xs : List Span) (r : Span) → All P (xs ++ r ∷ []) → P r
all_last P [] r h = h 0 r (omega arith)
all_last P (x ∷ xs) r h = all_last P xs r (λ k d in'. h (suc k) d (omega (arith, in')))

module _ (xs : List Span) (r s : Span) (sep : AreSeparate 0 (xs ++ r ∷ [])) (fits : All (IsBelow USER_END) (xs ++ r ∷ [])) (order : BeginBy s.low (xs ++ r ∷ [])) (below : IsBelow USER_END s) where
  pub last_before : r.low ≤ s.low
  last_before = all_last (λ (q : Span). q.low ≤ s.low) xs r order

  pub last_below : IsBelow USER_END r
  last_below = all_last (IsBelow USER_END) xs r fits

  pub extends_joined : (q : Span) → s.low ≤ r.low + r.size → q.low ≡ r.low → q.low + q.size ≡ max (r.low + r.size) (s.low + s.size) → Extends (xs ++ r ∷ []) s (xs ++ q ∷ [])
  extends_joined q meets low end =
      let left = le-max_left (r.low + r.size) (s.low + s.size) in
      let some = last_some 0 xs r sep in
      let most : max (r.low + r.size) (s.low + s.size) ≤ USER_END = max-le last_below below in
      let before = last_before in
      record {
        separate = separate-last 0 xs r q sep low (omega (arith, left, some, low, end));
        below = All-append (IsBelow USER_END) xs (q ∷ []) (all_front (IsBelow USER_END) xs r fits) (All-cons (IsBelow USER_END) q [] (omega (arith, most, end)) (All-nil (IsBelow USER_END)));
        same = λ x.
            list_any-append (is_in_span x) xs (q ∷ [])
            ∙ ap (λ b. list_any (is_in_span x) xs || (b || false)) (in_both x r s q before meets low end)
            ∙ or_three (list_any (is_in_span x) xs) (is_in_span x r) (is_in_span x s)
            ∙ ap (λ b. b || is_in_span x s) (sym (list_any-append (is_in_span x) xs (r ∷ [])));
        by = All-append (λ (p : Span). p.low ≤ s.low) xs (q ∷ []) (all_front (λ (p : Span). p.low ≤ s.low) xs r order) (All-cons (λ (p : Span). p.low ≤ s.low) q [] (omega (arith, before, low)) (All-nil (λ (p : Span). p.low ≤ s.low)));
      }

  pub extends_apart : 0 < s.size → r.low + r.size < s.low → Extends (xs ++ r ∷ []) s (xs ++ r ∷ [] ++ s ∷ [])
  extends_apart some gap = record {
    separate = separate-more 0 xs r s sep (omega (arith, gap)) some;
    below = All-append (IsBelow USER_END) (xs ++ r ∷ []) (s ∷ []) fits (All-cons (IsBelow USER_END) s [] below (All-nil (IsBelow USER_END)));
    same = λ x. list_any-append (is_in_span x) (xs ++ r ∷ []) (s ∷ []) ∙ or_end (list_any (is_in_span x) (xs ++ r ∷ [])) (is_in_span x s);
    by = All-append (λ (p : Span). p.low ≤ s.low) (xs ++ r ∷ []) (s ∷ []) order (All-cons (λ (p : Span). p.low ≤ s.low) s [] (omega arith) (All-nil (λ (p : Span). p.low ≤ s.low)));
  }

-- a range of no address adds none
no_address : (x : ℕ) (s : Span) → s.size ≡ 0 → is_in_span x s ≡ false
no_address x s none = not_in (is_in_span x s) (λ h. let at = in_parts x s h in let from = at.0 in let below = at.1 in omega (arith, from, below, none))
  where
    not_in : (b : Bool) → (b ≡ true → ⊥) → b ≡ false
    not_in true h = absurd (h refl)
    not_in false h = refl

pub extends_same : (runs : List Span) (s : Span) → AreSeparate 0 runs → All (IsBelow USER_END) runs → BeginBy s.low runs → s.size ≡ 0 → Extends runs s runs
extends_same runs s sep below order none = record {
  separate = sep;
  below = below;
  same = λ x. sym (ap (λ b. is_in_ranges x runs || b) (no_address x s none) ∙ or_no (is_in_ranges x runs));
  by = order;
}
  where
    or_no : (b : Bool) → (b || false) ≡ b
    or_no true = refl
    or_no false = refl

-- the runs of sorted ranges with one more
pub runs-more : (sorted : List Span) (old now : List Span) (i : ℕ) (d : Span) → i < length sorted → AreRuns (take i sorted) old → Extends old (get_or sorted i d) now → AreRuns (take (i + 1) sorted) now
runs-more sorted old now i d lt h ext = record {
  separate = ext.separate;
  below = ext.below;
  same = λ x. ext.same x ∙ ap (λ b. b || is_in_span x (get_or sorted i d)) (h.same x) ∙ sym (list_any_more (is_in_span x) sorted i d lt);
}

pub begin-more : (sorted : List Span) (now : List Span) (i : ℕ) (d : Span) → i < length sorted → IsNonDecreasingBy (λ s. s.low) sorted → BeginBy (get_or sorted i d).low now
    → (j : ℕ) (e : Span) → i + 1 ≤ j → j < length sorted → BeginBy (get_or sorted j e).low now
begin-more sorted now i d lt up by j e more within k f in' =
    let same : (get_or sorted i e).low ≡ (get_or sorted i d).low = ap (λ (s : Span). s.low) (get_or_default sorted i e d lt) in
    omega (arith, by k f in', up i j e (omega (arith, more)) within, same)

pub unset-is : (unset sorted runs : List Span) → IsPermutation unset sorted → AreRuns sorted runs → runs ≡ unset_runs unset
unfolding unset_runs
unset-is unset sorted runs moved h =
    are_runs (λ a. is_in_ranges a unset) (2 ^ 32) 0 runs h.separate (λ k d in'. omega (arith, h.below k d in'))
    (λ x low high. h.same x ∙ sym (list_any-IsPermutation (is_in_span x) unset sorted moved))

-- the unset bytes of an image are below the end of where a program's memory may lie
allowed_below : (rs : List Range) (b : ℕ) → All IsInUserSpace rs → is_allowed rs (record { 0 = 1 }) b ≡ true → b < USER_END
allowed_below [] b inside h = absurd (false≢true h)
allowed_below (r ∷ rs) b inside h =
    ⊎_elim
    (λ here.
    let parts = and_parts (has b r) true here in
    let at = and_parts (nat_le r.low b) (nat_lt b (end_of r)) parts.0 in
    let below = (inside 0 r (omega arith)).below in
    omega (arith, ltb-true b (end_of r) at.1, below))
    (λ later. allowed_below rs b (λ k d in'. inside (suc k) d (omega (arith, in'))) later)
    (or_cases (has b r && true) (is_allowed rs (record { 0 = 1 }) b) h)

fits_by : (rs : List Range) (s : Span) (n : ℕ) → s.size ≡ n → All IsInUserSpace rs → is_mapped rs s ≡ true → Fits s
fits_by rs s zero is inside h = inl is
fits_by rs s (suc n) is inside h =
    let last : is_some (byte_at rs (s.low + n)) ≡ true = each_of _ s.low s.size (s.low + n) h (omega arith) (omega (arith, is)) in
    inr (omega (arith, is, allowed_below rs (s.low + n) inside (read-mapped rs (s.low + n) ∙ last)))

pub fits_of : (image : Image) → IsLoaded image → All Fits image.unset
fits_of image loaded k d in' =
    fits_by image.segments (get_or image.unset k d) (get_or image.unset k d).size refl loaded.map.inside (AllPass-from_list_all (is_mapped image.segments) image.unset loaded.unset k d in')
