-- Spans in the order of their first addresses: an address is in one of them where the ones that begin by it end above it.
use Rattle.std.proofs.Common.{ℕ, zero, suc, ◌≡◌, ◌+◌, ◌-◌, ◌<◌, ◌≤◌, Bool, true, false, List, [], ◌∷◌, ◌++◌, length, get_or, refl, sym, ap, ◌∙◌, subst, arith, max, take, inl, inr}
use Rattle.std.specs.Prelude.{◌&&◌, ◌||◌, nat_le, nat_lt, slice_index}
use Rattle.std.specs.List.{AllWithin}
use Rattle.std.specs.List.Sorted.{IsNonDecreasingBy, IsPartitionPoint}
use Rattle.std.proofs.Math.Nat.{le-max_left, le-max_right, max-le}
use Rattle.std.proofs.lemmas.Bool.{cases_lt, le-leb, le-ltb, leb-true, lt-leb, lt-ltb, or_from, or_left, or_right}
use Rattle.std.proofs.lemmas.List.{get_or_append_left, get_or_push}
use Rattle.std.proofs.lemmas.List.Folds.{list_any_more, list_any_none}
use Rattle.memory_map.specs.Spans.{is_in_ranges, is_in_span}
use Rattle.memory_map.specs.Indexing.{EndBy, IsIndexed}
use Rattle.memory_map.specs.declared.span.Span.{Span}

pub no_ends : (spans : List Span) → EndBy spans 0 0
no_ends spans = record { each = λ a by. sym (le-ltb a 0 (omega arith)) }

-- an address is below one of two others where it is below the greater
below_max : (a m n : ℕ) → (nat_lt a m || nat_lt a n) ≡ nat_lt a (max m n)
below_max a m n =
    let left = le-max_left m n in
    let right = le-max_right m n in
    elim (cases_lt a m) [
      | inl first ↦ or_left (nat_lt a m) (nat_lt a n) (lt-ltb a m first) ∙ sym (lt-ltb a (max m n) (omega (arith, first, left)))
      | inr past ↦ elim (cases_lt a n) [
        | inl second ↦ or_right (nat_lt a m) (nat_lt a n) (lt-ltb a n second) ∙ sym (lt-ltb a (max m n) (omega (arith, second, right)))
        | inr both ↦ or_from (nat_lt a m) (nat_lt a n) (le-ltb a m past) (le-ltb a n both) ∙ sym (le-ltb a (max m n) (max-le past both))
      ]
    ]

-- an address that a span does not begin above is in it where it is below the span's end
in_by : (a : ℕ) (s : Span) → s.low ≤ a → is_in_span a s ≡ nat_lt a (s.low + s.size)
in_by a s by = ap (λ b. b && nat_lt a (s.low + s.size)) (le-leb s.low a by)

pub end_more : (spans : List Span) (i end : ℕ) (d : Span) → i < length spans → EndBy spans i end → EndBy spans (i + 1) (max end ((get_or spans i d).low + (get_or spans i d).size))
end_more spans i end d within h =
    let s = get_or spans i d in
    record {
      each = λ a by.
          list_any_more (is_in_span a) spans i d within
          ∙ ap (λ b. b || is_in_span a s) (h.each a (λ k e from less. by k e from (omega (arith, less))))
          ∙ ap (λ b. nat_lt a end || b) (in_by a s (by i d (omega arith) (omega arith)))
          ∙ below_max a end (s.low + s.size);
    }

-- spans that begin above an address do not have it
not_in : (a : ℕ) (s : Span) → nat_le s.low a ≡ false → is_in_span a s ≡ false
not_in a s above = ap (λ b. b && nat_lt a (s.low + s.size)) above

past : (a k : ℕ) (spans : List Span) → AllWithin (λ s. nat_le s.low a ≡ false) spans k (length spans) → is_in_ranges a spans ≡ is_in_ranges a (take k spans)
past a zero spans h = list_any_none (is_in_span a) spans (λ k d within. not_in a (get_or spans k d) (h k d (omega arith) within))
past a (suc k) [] h = refl
past a (suc k) (s ∷ spans) h = ap (λ b. is_in_span a s || b) (past a k spans (λ j d from within. h (suc j) d (omega (arith, from)) (omega (arith, within))))

abbrev IsCount : List Span → ℕ → ℕ → Type 0
IsCount spans a k = IsPartitionPoint (λ (s : Span). nat_le s.low a ≡ true) (λ (s : Span). nat_le s.low a ≡ false) spans k

pub none_by : (spans : List Span) (a k : ℕ) → IsCount spans a k → k ≡ 0 → is_in_ranges a spans ≡ false
none_by spans a k parted none = past a k spans parted.1 ∙ ap (λ n. is_in_ranges a (take n spans)) none

pub some_by : (spans : List Span) (ends : List ℕ) (a k : ℕ) → IsIndexed spans ends → k < length spans → IsCount spans a (k + 1) → is_in_ranges a spans ≡ nat_lt a (slice_index ends k)
some_by spans ends a k index within parted =
    past a (k + 1) spans parted.1
    ∙ (index.each k within).each a (λ j d from less. leb-true (get_or spans j d).low a (parted.0 j d from less))

-- one place more
pub ends_more : (spans : List Span) (ends now : List ℕ) (i end : ℕ) → length ends ≡ i → now ≡ ends ++ end ∷ [] → EndBy spans (i + 1) end
    → ((k : ℕ) → k < i → EndBy spans (k + 1) (slice_index ends k)) → (k : ℕ) → k < i + 1 → EndBy spans (k + 1) (slice_index now k)
ends_more spans ends now i end count is last each k less =
    elim (cases_lt k i) [
      | inl before ↦
          let At : ℕ → Type 0 = λ n. EndBy spans (k + 1) n in
          subst At (sym (ap (λ (l : List ℕ). slice_index l k) is ∙ get_or_append_left ends (end ∷ []) 0 k (omega (arith, before, count)))) (each k before)
      | inr from ↦
          let here : k ≡ i = omega (arith, less, from) in
          let At : ℕ → Type 0 = λ n. EndBy spans (n + 1) (slice_index now n) in
          let In : ℕ → Type 0 = λ n. EndBy spans (i + 1) n in
          let read : slice_index now i ≡ end = ap (λ (l : List ℕ). slice_index l i) is ∙ get_or_push ends end 0 i count in
          subst At (sym here) (subst In (sym read) last)
    ]

-- as a count of the spans that begin by an address gives it
pub counted : (list spans : List Span) (ends : List ℕ) (a k end : ℕ) → IsIndexed spans ends → list ≡ spans → 0 < k → k ≤ length list → IsCount list a k → end ≡ slice_index ends (k - 1) → nat_lt a end ≡ is_in_ranges a spans
counted list spans ends a k end index same some most parted is =
    let here : k ≡ k - 1 + 1 = omega (arith, some) in
    let within : k - 1 < length spans = (let size = ap length same in omega (arith, some, most, size)) in
    let In : List Span → Type 0 = λ l. IsCount l a k in
    let At : ℕ → Type 0 = λ n. IsCount spans a n in
    ap (nat_lt a) is ∙ sym (some_by spans ends a (k - 1) index within (subst At here (subst In same parted)))

pub uncounted : (list spans : List Span) (a k : ℕ) → list ≡ spans → k ≡ 0 → IsCount list a k → nat_lt 0 k ≡ is_in_ranges a spans
uncounted list spans a k same none parted =
    le-ltb 0 k (omega (arith, none)) ∙ sym (none_by list a k parted none) ∙ ap (is_in_ranges a) same
