-- Bytes that are filled in with 0: of the order of their addresses, and of one that comes more than once, nothing shows.
use Rattle.std.proofs.Common.{◌≡◌, ℕ, zero, suc, ◌+◌, ◌-◌, ◌<◌, ◌≤◌, Bool, true, false, List, [], ◌∷◌, ◌++◌, map, length, get_or, take, max, refl, sym, ◌∙◌, ap, subst, arith, inl, inr}
use Rattle.std.specs.Prelude.{◌⊎◌, ◌||◌, ◌&&◌, nat_le, nat_lt}
use Rattle.std.specs.List.{AllWithin, range_with_len}
use Rattle.std.specs.List.Sorted.{IsNonDecreasingBy, IsPermutation}
use Rattle.std.proofs.Math.Nat.{eq-or-lt_of_le, le-max_left, le-max_right, max-le}
use Rattle.std.proofs.lemmas.Bool.{and_from, and_parts, cases_Bool, cases_lt, cases_eq, false≢true, le-leb, leb-true, lt-ltb, ltb-true, or_cases, or_left, or_right}
use Rattle.std.proofs.lemmas.List.{get_or_default}
use Rattle.std.proofs.lemmas.List.Folds.{list_any_more}
use Rattle.std.proofs.lemmas.List.Sorted.{list_any-IsPermutation}
use Rattle.memory_map.specs.Range.{Mapping, Range, mapping_of}
use Rattle.memory_map.specs.Spans.{is_in_ranges, is_in_span}
use Rattle.memory_map.specs.State.{MachineState}
use Rattle.memory_map.specs.declared.span.Span.{Span}
use Rattle.statement_lang.specs.Filling.{fill_byte, with_filled}
use Rattle.statement_lang.proofs.Indexing.{fill-mapping}
use Rattle.x86_machine.specs.Started.{unset_zeros, with_fills}
use Rattle.x86_machine.proofs.Enumerated.{fold-append}
use Rattle.x86_machine.proofs.Filled.{AgreesWith, IsFilledIn, IsSameOrFilled, fill-here, fill-other, filled, filled-mapping, filled-other, filled_leads, fills_each}
use Rattle.x86_machine.proofs.StatesMeet.{in_both, in_unset}

-- each of these bytes is 0
abbrev AreZero : List (ℕ × ℕ) → Type 0
AreZero [] = Unit {0}
AreZero (at ∷ list) = (at.1 ≡ 0) × AreZero list

abbrev zeros_from : ℕ → ℕ → List (ℕ × ℕ)
zeros_from low n = map (λ a. (a, 0)) (range_with_len low n)

zeros_zero : (n low : ℕ) → AreZero (zeros_from low n)
zeros_zero zero low = tt
zeros_zero (suc n) low = (refl, zeros_zero n (low + 1))

both_zero : (xs ys : List (ℕ × ℕ)) → AreZero xs → AreZero ys → AreZero (xs ++ ys)
both_zero [] ys h k = k
both_zero (x ∷ xs) ys h k = (h.0, both_zero xs ys h.1 k)

unset_zero : (spans : List Span) → AreZero (unset_zeros spans)
unset_zero [] = tt
unset_zero (s ∷ spans) = both_zero (zeros_from s.low s.size) (unset_zeros spans) (zeros_zero s.size s.low) (unset_zero spans)

-- ---- which addresses are among them

pub in_left : (xs ys : List (ℕ × ℕ)) (a : ℕ) → IsFilledIn xs a → IsFilledIn (xs ++ ys) a
in_left [] ys a h = absurd h
in_left (x ∷ xs) ys a (inl e) = inl e
in_left (x ∷ xs) ys a (inr h) = inr (in_left xs ys a h)

pub in_right : (xs ys : List (ℕ × ℕ)) (a : ℕ) → IsFilledIn ys a → IsFilledIn (xs ++ ys) a
in_right [] ys a h = h
in_right (x ∷ xs) ys a h = inr (in_right xs ys a h)

at_zeros : (n low a : ℕ) → low ≤ a → a < low + n → IsFilledIn (zeros_from low n) a
at_zeros zero low a from below = absurd (omega (arith, from, below))
at_zeros (suc n) low a from below = elim (eq-or-lt_of_le from) [ inl same ↦ inl same | inr later ↦ inr (at_zeros n (low + 1) a (omega (arith, later)) (omega (arith, below))) ]

of_zeros : (n low a : ℕ) → IsFilledIn (zeros_from low n) a → (low ≤ a) × (a < low + n)
of_zeros zero low a h = absurd h
of_zeros (suc n) low a (inl e) = (omega (arith, e), omega (arith, e))
of_zeros (suc n) low a (inr h) = (let i = of_zeros n (low + 1) a h in (omega (arith, i.0), omega (arith, i.1)))

span_from : (a : ℕ) (s : Span) → s.low ≤ a → a < s.low + s.size → is_in_span a s ≡ true
span_from a s from below = and_from (nat_le s.low a) (nat_lt a (s.low + s.size)) (le-leb s.low a from) (lt-ltb a (s.low + s.size) below)

span_parts : (a : ℕ) (s : Span) → is_in_span a s ≡ true → (s.low ≤ a) × (a < s.low + s.size)
span_parts a s h = (let p = and_parts (nat_le s.low a) (nat_lt a (s.low + s.size)) h in (leb-true s.low a p.0, ltb-true a (s.low + s.size) p.1))

at_unset : (spans : List Span) (a : ℕ) → is_in_ranges a spans ≡ true → IsFilledIn (unset_zeros spans) a
at_unset [] a h = absurd (false≢true h)
at_unset (s ∷ spans) a h = elim (or_cases (is_in_span a s) (is_in_ranges a spans) h) [
  | inl own ↦ (let p = span_parts a s own in in_left (zeros_from s.low s.size) (unset_zeros spans) a (at_zeros s.size s.low a p.0 p.1))
  | inr rest ↦ in_right (zeros_from s.low s.size) (unset_zeros spans) a (at_unset spans a rest)
]

-- ---- the same addresses give the same memory

kept_zero : (a : ℕ) (r : Range) (i : ℕ) → i < length r.bytes → get_or r.bytes i 0 ≡ 0 → get_or (fill_byte a 0 r).bytes i 0 ≡ 0
kept_zero a r i within was = elim (cases_eq (r.low + i) a) [
  | inl here ↦ fill-here a 0 r i here within
  | inr off ↦ fill-other a 0 r i off ∙ was
]

zero_there : (list : List (ℕ × ℕ)) (r : Range) (i : ℕ) → AreZero list → i < length r.bytes → (get_or r.bytes i 0 ≡ 0) ⊎ IsFilledIn list (r.low + i) → get_or (filled list r).bytes i 0 ≡ 0
zero_there [] r i zeros within (inl was) = was
zero_there [] r i zeros within (inr h) = absurd h
zero_there (at ∷ list) r i zeros within h =
    let next = fill_byte at.0 at.1 r in
    let kept = fill-mapping at.0 at.1 r in
    let low : next.low ≡ r.low = ap (λ (k : Mapping). k.low) kept in
    let size : length next.bytes ≡ length r.bytes = ap (λ (k : Mapping). k.size) kept in
    let same : get_or (fill_byte at.0 0 r).bytes i 0 ≡ get_or next.bytes i 0 = ap (λ n. get_or (fill_byte at.0 n r).bytes i 0) (sym zeros.0) in
    zero_there list next i zeros.1 (omega (arith, within, size)) (elim h [
      | inl was ↦ inl (sym same ∙ kept_zero at.0 r i within was)
      | inr (inl here) ↦ inl (sym same ∙ fill-here at.0 0 r i (sym here) within)
      | inr (inr rest) ↦ (let In : ℕ → Type 0 = λ n. IsFilledIn list (n + i) in inr (subst In (sym low) rest))
    ])

module _ (test : ℕ → Bool) where
  -- these are bytes at the addresses that pass the test
  record AreAt (list : List (ℕ × ℕ)) : Type 0 where
    zeros : AreZero list
    only : (a : ℕ) → IsFilledIn list a → test a ≡ true
    all : (a : ℕ) → test a ≡ true → IsFilledIn list a

  agrees : (list other : List (ℕ × ℕ)) (r : Range) → AreZero list → ((a : ℕ) → IsFilledIn list a → test a ≡ true) → AreAt other → AgreesWith (filled other r) list
  agrees [] other r zeros only h = tt
  agrees (at ∷ list) other r zeros only h = (
    (λ i place within.
        let kept = filled-mapping other r in
        let low : (filled other r).low ≡ r.low = ap (λ (k : Mapping). k.low) kept in
        let size : length (filled other r).bytes ≡ length r.bytes = ap (λ (k : Mapping). k.size) kept in
        let here : at.0 ≡ r.low + i = omega (arith, place, low) in
        let In : ℕ → Type 0 = λ a. IsFilledIn other a in
        zeros.0 ∙ sym (zero_there other r i h.zeros (omega (arith, within, size)) (inr (subst In here (h.all at.0 (only at.0 (inl refl))))))),
    agrees list other r zeros.1 (λ a k. only a (inr k)) h,
  )

  same_filled : (list other : List (ℕ × ℕ)) (r : Range) → AreAt list → AreAt other → filled list r ≡ filled other r
  same_filled list other r g h =
      filled_leads list r (filled other r) (sym (filled-mapping other r)) (agrees list other r g.zeros g.only h) (λ i within. elim (cases_Bool (test (r.low + i))) [
        | inl passes ↦ inr (g.all (r.low + i) passes)
        | inr fails ↦ inl (sym (filled-other other r i (λ k. false≢true (sym fails ∙ h.only (r.low + i) k))))
      ])

  same_each : (list other : List (ℕ × ℕ)) (rs : List Range) → AreAt list → AreAt other → map (filled list) rs ≡ map (filled other) rs
  same_each list other [] g h = refl
  same_each list other (r ∷ rs) g h = ap (λ q. q ∷ map (filled list) rs) (same_filled list other r g h) ∙ ap (λ l. filled other r ∷ l) (same_each list other rs g h)

  same_fills : (list other : List (ℕ × ℕ)) (m : MachineState) → AreAt list → AreAt other → with_fills list m ≡ with_fills other m
  same_fills list other m g h =
      fills_each list m
      ∙ ap (λ r. record m { stack = r; ranges = map (filled list) m.ranges }) (same_filled list other m.stack g h)
      ∙ ap (λ l. record m { stack = filled other m.stack; ranges = l }) (same_each list other m.ranges g h)
      ∙ sym (fills_each other m)

pub reordered : (unset sorted : List Span) (m : MachineState) → IsPermutation unset sorted → with_fills (unset_zeros sorted) m ≡ with_fills (unset_zeros unset) m
reordered unset sorted m moved =
    let same = λ (a : ℕ). list_any-IsPermutation (is_in_span a) unset sorted moved in
    same_fills (λ a. is_in_ranges a unset) (unset_zeros sorted) (unset_zeros unset) m
    (record { zeros = unset_zero sorted; only = λ a h. same a ∙ in_unset sorted a h; all = λ a h. at_unset sorted a (sym (same a) ∙ h) })
    (record { zeros = unset_zero unset; only = in_unset unset; all = at_unset unset })

-- ---- one span after another, each from where the ones before it end

-- the first i spans have each address below one that none of them begins above
pub record IsDone (spans : List Span) (i done : ℕ) : Type 0 where
  pub each : (a : ℕ) → AllWithin (λ s. s.low ≤ a) spans 0 i → a < done → is_in_ranges a (take i spans) ≡ true

pub none_done : (spans : List Span) → IsDone spans 0 0
none_done spans = record { each = λ a by below. absurd (omega (arith, below)) }

below_max : (a m n : ℕ) → a < max m n → (a < m) ⊎ (a < n)
below_max a m n h = elim (cases_lt a m) [
  | inl first ↦ inl first
  | inr past ↦ elim (cases_lt a n) [
    | inl second ↦ inr second
    | inr both ↦ (let most = max-le past both in absurd (omega (arith, most, h)))
  ]
]

module _ (spans : List Span) (i done : ℕ) (d : Span) (within : i < length spans) (h : IsDone spans i done) where
  abbrev own : Span
  own = get_or spans i d

  in_more : (a : ℕ) → is_in_ranges a (take (i + 1) spans) ≡ (is_in_ranges a (take i spans) || is_in_span a own)
  in_more a = list_any_more (is_in_span a) spans i d within

  pub done_more : IsDone spans (i + 1) (max done (own.low + own.size))
  done_more = record {
    each = λ a by below.
        let from : own.low ≤ a = by i d (omega arith) (omega arith) in
        in_more a ∙ elim (below_max a done (own.low + own.size) below) [
          | inl before ↦ or_left (is_in_ranges a (take i spans)) (is_in_span a own) (h.each a (λ k e low less. by k e low (omega (arith, less))) before)
          | inr here ↦ or_right (is_in_ranges a (take i spans)) (is_in_span a own) (span_from a own from here)
        ];
  }

  abbrev start : ℕ
  start = max own.low done

  -- the spans up to this one, and this one from where they end
  abbrev part : List (ℕ × ℕ)
  part = unset_zeros (take i spans) ++ zeros_from start (own.low + own.size - start)

  only_more : (a : ℕ) → IsFilledIn part a → is_in_ranges a (take (i + 1) spans) ≡ true
  only_more a k =
      let first = le-max_left own.low done in
      in_more a ∙ elim (in_both (unset_zeros (take i spans)) (zeros_from start (own.low + own.size - start)) a k) [
        | inl before ↦ or_left (is_in_ranges a (take i spans)) (is_in_span a own) (in_unset (take i spans) a before)
        | inr here ↦ (let p = of_zeros (own.low + own.size - start) start a here in or_right (is_in_ranges a (take i spans)) (is_in_span a own) (span_from a own (omega (arith, p.0, first)) (omega (arith, p.0, p.1))))
      ]

  all_more : IsNonDecreasingBy (λ (s : Span). s.low) spans → (a : ℕ) → is_in_ranges a (take (i + 1) spans) ≡ true → IsFilledIn part a
  all_more order a passes =
      let earlier = λ (k : is_in_ranges a (take i spans) ≡ true). in_left (unset_zeros (take i spans)) (zeros_from start (own.low + own.size - start)) a (at_unset (take i spans) a k) in
      elim (or_cases (is_in_ranges a (take i spans)) (is_in_span a own) (sym (in_more a) ∙ passes)) [
        | inl before ↦ earlier before
        | inr here ↦
            let p = span_parts a own here in
            elim (cases_lt a done) [
              | inl below ↦ earlier (h.each a (λ k e low less.
                  let up = order k i e (omega (arith, less)) within in
                  let same : (get_or spans i e).low ≡ own.low = ap (λ (s : Span). s.low) (get_or_default spans i e d within) in
                  omega (arith, up, same, p.0)) below)
              | inr above ↦
                  let from : start ≤ a = max-le p.0 above in
                  in_right (unset_zeros (take i spans)) (zeros_from start (own.low + own.size - start)) a (at_zeros (own.low + own.size - start) start a from (omega (arith, from, p.1)))
            ]
      ]

  pub zeroed_more : IsNonDecreasingBy (λ (s : Span). s.low) spans → (m : MachineState) → with_fills (zeros_from start (own.low + own.size - start)) (with_fills (unset_zeros (take i spans)) m) ≡ with_fills (unset_zeros (take (i + 1) spans)) m
  zeroed_more order m =
      sym (fold-append (λ (n : MachineState) (at : ℕ × ℕ). with_filled at.0 at.1 n) m (unset_zeros (take i spans)) (zeros_from start (own.low + own.size - start)))
      ∙ same_fills (λ a. is_in_ranges a (take (i + 1) spans)) part (unset_zeros (take (i + 1) spans)) m
      (record { zeros = both_zero (unset_zeros (take i spans)) (zeros_from start (own.low + own.size - start)) (unset_zero (take i spans)) (zeros_zero (own.low + own.size - start) start); only = only_more; all = all_more order })
      (record { zeros = unset_zero (take (i + 1) spans); only = in_unset (take (i + 1) spans); all = at_unset (take (i + 1) spans) })

  -- the same of the numbers that the code has
  pub zeroed_step : IsNonDecreasingBy (λ (s : Span). s.low) spans → (m before after : MachineState) (low end from : ℕ) → low ≡ own.low → end ≡ own.low + own.size → from ≡ max low done
      → before ≡ with_fills (unset_zeros (take i spans)) m → after ≡ with_fills (zeros_from from (end - from)) before → after ≡ with_fills (unset_zeros (take (i + 1) spans)) m
  zeroed_step order m before after low end from first last begins was is =
      let here : from ≡ start = begins ∙ ap (λ n. max n done) first in
      is
      ∙ ap (λ n. with_fills (zeros_from n (end - n)) before) here
      ∙ ap (λ n. with_fills (zeros_from start (n - start)) before) last
      ∙ ap (with_fills (zeros_from start (own.low + own.size - start))) was
      ∙ zeroed_more order m

  pub done_step : (end next : ℕ) → end ≡ own.low + own.size → next ≡ max done end → IsDone spans (i + 1) next
  done_step end next last is =
      let By : ℕ → Type 0 = λ n. IsDone spans (i + 1) n in
      subst By (sym (is ∙ ap (max done) last)) done_more
