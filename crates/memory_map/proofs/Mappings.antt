-- What is mapped and what may be written, told by the ranges without their bytes.
use Rattle.std.proofs.Common.{ℕ, zero, suc, ◌≡◌, ◌+◌, ◌-◌, ◌<◌, ◌≤◌, Bool, true, false, cond, List, [], ◌∷◌, map, length, get_or, refl, sym, ap, ◌∙◌, arith, inl, inr}
use Rattle.std.specs.Prelude.{◌&&◌, ◌||◌, ◌⊎◌, nat_le, nat_lt, is_some, filter, All, AllPairs, Contains}
use Rattle.std.specs.List.{list_any}
use Rattle.std.proofs.lemmas.Bool.{and_parts, and_right, both_ways, cases_Bool, false_from_ne_true, false≢true, leb-true, ltb-true, or_cases, or_left, or_right}
use Rattle.std.proofs.lemmas.List.{get_or-map, length-map}
use Rattle.std.proofs.lemmas.List.Elements.{All-head, All-tail, Contains-append_cases}
use Rattle.std.proofs.lemmas.List.Folds.{list_any_at}
use Rattle.std.proofs.lemmas.Option.{slice_get-get_or}
use Rattle.memory_map.specs.Range.{Range, Mapping, mapping_of, USER_LOW, USER_END, byte_at, end_of, has, may_write, AreApart, IsInUserSpace}
use Rattle.memory_map.proofs.Lists.{byte_at-here, byte_at-none, byte_at-there}

-- an address is one of a mapping's
abbrev pub lies_at : ℕ → Mapping → Bool
lies_at a k = nat_le k.low a && nat_lt a (k.low + k.size)

-- and it may be written there
abbrev pub writes_at : ℕ → Mapping → Bool
writes_at a k = k.write && lies_at a k

-- an address is one of a range's
pub record IsIn (r : Range) (a : ℕ) : Type 0 where
  pub low : r.low ≤ a
  pub end : a < end_of r

pub is_in : (r : Range) (a : ℕ) → has a r ≡ true → IsIn r a
is_in r a h =
    let parts = and_parts (nat_le r.low a) (nat_lt a (end_of r)) h in
    record { low = leb-true r.low a parts.0; end = ltb-true a (end_of r) parts.1 }

here-some : (r : Range) (rs : List Range) (a : ℕ) → has a r ≡ true → is_some (byte_at (r ∷ rs) a) ≡ true
here-some r rs a h =
    let i = is_in r a h in
    ap is_some (byte_at-here r rs a h ∙ slice_get-get_or r.bytes (a - r.low) 0 (omega arith))

pub is_mapped : (rs : List Range) (a : ℕ) → is_some (byte_at rs a) ≡ list_any (lies_at a) (map mapping_of rs)
is_mapped [] a = ap is_some (byte_at-none a)
is_mapped (r ∷ rs) a =
    elim (cases_Bool (has a r)) [
      | inl h ↦ here-some r rs a h ∙ sym (ap (λ b. b || list_any (lies_at a) (map mapping_of rs)) h)
      | inr h ↦ ap is_some (byte_at-there r rs a h) ∙ is_mapped rs a ∙ sym (ap (λ b. b || list_any (lies_at a) (map mapping_of rs)) h)
    ]

writable : (rs : List Range) (a : ℕ) → list_any (lies_at a) (map mapping_of (filter (λ r. r.write) rs)) ≡ list_any (writes_at a) (map mapping_of rs)
writable [] a = refl
writable (r ∷ rs) a =
    elim r.write as (λ b. list_any (lies_at a) (map mapping_of (cond b (r ∷ filter (λ s. s.write) rs) (filter (λ s. s.write) rs))) ≡ ((b && lies_at a (mapping_of r)) || list_any (writes_at a) (map mapping_of rs))) [
      | true ↦ ap (λ b. has a r || b) (writable rs a)
      | false ↦ writable rs a
    ]

pub is_written : (rs : List Range) (a : ℕ) → may_write rs a ≡ list_any (writes_at a) (map mapping_of rs)
unfolding may_write
is_written rs a = is_mapped (filter (λ r. r.write) rs) a ∙ writable rs a

pub pairs_head : (r : Range) (rs : List Range) → AllPairs AreApart (r ∷ rs) → All (AreApart r) rs
pairs_head r rs h k d l = h 0 (suc k) d (omega arith) (omega (arith, l))

pub pairs_tail : (r : Range) (rs : List Range) → AllPairs AreApart (r ∷ rs) → AllPairs AreApart rs
pairs_tail r rs h i j d lt l = h (suc i) (suc j) d (omega (arith, lt)) (omega (arith, l))

-- ---- what lies in user space, and what lies apart

pub mapped_inside : (rs : List Range) (a : ℕ) → is_some (byte_at rs a) ≡ true → All IsInUserSpace rs → (USER_LOW ≤ a) × (a < USER_END)
mapped_inside [] a e h = absurd (false≢true (sym (ap is_some (byte_at-none a)) ∙ e))
mapped_inside (r ∷ rs) a e h =
    elim (cases_Bool (has a r)) [
      | inl k ↦ let i = is_in r a k in let s = All-head IsInUserSpace r rs h in (omega (arith, i.low, s.above), omega (arith, i.end, s.below))
      | inr k ↦ mapped_inside rs a (sym (ap is_some (byte_at-there r rs a k)) ∙ e) (All-tail IsInUserSpace r rs h)
    ]

-- some byte of a list that may be written is mapped there
pub written_mapped : (rs : List Range) (a : ℕ) → may_write rs a ≡ true → is_some (byte_at rs a) ≡ true
written_mapped rs a e = is_mapped rs a ∙ weaker (map mapping_of rs) (sym (is_written rs a) ∙ e)
  where
    weaker : (ks : List Mapping) → list_any (writes_at a) ks ≡ true → list_any (lies_at a) ks ≡ true
    weaker [] h = h
    weaker (k ∷ ks) h =
        elim (or_cases (writes_at a k) (list_any (writes_at a) ks) h) [
          | inl x ↦ or_left (lies_at a k) (list_any (lies_at a) ks) ((and_parts k.write (lies_at a k) x).1)
          | inr x ↦ or_right (lies_at a k) (list_any (lies_at a) ks) (weaker ks x)
        ]

-- an address of one range is none of those that lie apart from it
pub apart_not_in : (r : Range) (rs : List Range) (a : ℕ) → All (AreApart r) rs → is_some (byte_at rs a) ≡ true → has a r ≡ false
apart_not_in r [] a h e = absurd (false≢true (sym (ap is_some (byte_at-none a)) ∙ e))
apart_not_in r (s ∷ ss) a h e =
    elim (cases_Bool (has a s)) [
      | inl k ↦
          let i = is_in s a k in
          false_from_ne_true (has a r) (λ own. let j = is_in r a own in elim (All-head (AreApart r) s ss h) [ inl x ↦ omega (arith, i.low, i.end, j.low, j.end) | inr x ↦ omega (arith, i.low, i.end, j.low, j.end) ])
      | inr k ↦ apart_not_in r ss a (All-tail (AreApart r) s ss h) (sym (ap is_some (byte_at-there s ss a k)) ∙ e)
    ]

-- ---- ranges with the same mappings

pub same_length : (rs ss : List Range) → map mapping_of rs ≡ map mapping_of ss → length rs ≡ length ss
same_length rs ss e = sym (length-map rs mapping_of) ∙ ap length e ∙ length-map ss mapping_of

pub same_at : (rs ss : List Range) (i : ℕ) (d : Range) → map mapping_of rs ≡ map mapping_of ss → i < length ss → mapping_of (get_or rs i d) ≡ mapping_of (get_or ss i d)
same_at rs ss i d e l =
    sym (get_or-map mapping_of rs i d (mapping_of d) (omega (arith, same_length rs ss e)))
    ∙ ap (λ (ks : List Mapping). get_or ks i (mapping_of d)) e
    ∙ get_or-map mapping_of ss i d (mapping_of d) l

-- what holds by the mapping alone
pub All-mapped : (P : Range → Type 0) → ((r s : Range) → mapping_of r ≡ mapping_of s → P r → P s) → (rs ss : List Range) → map mapping_of rs ≡ map mapping_of ss → All P rs → All P ss
All-mapped P goes rs ss e h k d l = goes (get_or rs k d) (get_or ss k d) (same_at rs ss k d e l) (h k d (omega (arith, same_length rs ss e)))

pub inside_mapped : (rs ss : List Range) → map mapping_of rs ≡ map mapping_of ss → All IsInUserSpace rs → All IsInUserSpace ss
inside_mapped rs ss e h =
    All-mapped IsInUserSpace (λ r s q x. record { above = omega (arith, x.above, ap (λ (k : Mapping). k.low) q); below = omega (arith, x.below, ap (λ (k : Mapping). k.low + k.size) q) }) rs ss e h

pub apart_mapped : (rs ss : List Range) → map mapping_of rs ≡ map mapping_of ss → AllPairs AreApart rs → AllPairs AreApart ss
apart_mapped rs ss e h i j d lt l =
    let same = same_length rs ss e in
    let first = same_at rs ss i d e (omega (arith, lt)) in
    let second = same_at rs ss j d e l in
    let low : (get_or rs i d).low ≡ (get_or ss i d).low = ap (λ (k : Mapping). k.low) first in
    let end : end_of (get_or rs i d) ≡ end_of (get_or ss i d) = ap (λ (k : Mapping). k.low + k.size) first in
    let low' : (get_or rs j d).low ≡ (get_or ss j d).low = ap (λ (k : Mapping). k.low) second in
    let end' : end_of (get_or rs j d) ≡ end_of (get_or ss j d) = ap (λ (k : Mapping). k.low + k.size) second in
    elim (h i j d lt (omega (arith, same))) [ inl x ↦ inl (omega (arith, x, end, low')) | inr x ↦ inr (omega (arith, x, end', low)) ]

pub mapped_same : (rs ss : List Range) (a : ℕ) → map mapping_of rs ≡ map mapping_of ss → is_some (byte_at rs a) ≡ is_some (byte_at ss a)
mapped_same rs ss a e = is_mapped rs a ∙ ap (list_any (lies_at a)) e ∙ sym (is_mapped ss a)

pub written_same : (rs ss : List Range) (a : ℕ) → map mapping_of rs ≡ map mapping_of ss → may_write rs a ≡ may_write ss a
written_same rs ss a e = is_written rs a ∙ ap (list_any (writes_at a)) e ∙ sym (is_written ss a)

Contains-none : (k : Mapping) → Contains [] k → ⊥
Contains-none k held = omega (arith, held.1)

Contains-cases : (j k : Mapping) (ks : List Mapping) → Contains (j ∷ ks) k → (j ≡ k) ⊎ Contains ks k
Contains-cases j k ks held = elim (Contains-append_cases (j ∷ []) ks k held) [ inl h ↦ inl (only h) | inr h ↦ inr h ]
  where
    only : Contains (j ∷ []) k → j ≡ k
    only (zero, below, at) = at
    only (suc i, below, at) = absurd (omega arith)

-- ---- the mapping that an address is in

-- a mapping that may be written: of ranges that lie apart, it is the one that has the address
pub only_mapping : (rs : List Range) (k : Mapping) (a : ℕ) → AllPairs AreApart rs → Contains (map mapping_of rs) k → lies_at a k ≡ true → may_write rs a ≡ true → k.write ≡ true
only_mapping [] k a apart held at e = absurd (Contains-none k held)
only_mapping (r ∷ rs) k a apart held at e =
    let first = pairs_head r rs apart in
    elim (Contains-cases (mapping_of r) k (map mapping_of rs) held) [
      | inl same ↦
          let own : has a r ≡ true = ap (lies_at a) same ∙ at in
          elim (or_cases (writes_at a (mapping_of r)) (list_any (writes_at a) (map mapping_of rs)) (sym (is_written (r ∷ rs) a) ∙ e)) [
            | inl w ↦ sym (ap (λ (x : Mapping). x.write) same) ∙ (and_parts r.write (has a r) w).0
            | inr w ↦ absurd (both_ways (has a r) (apart_not_in r rs a first (written_mapped rs a (is_written rs a ∙ w))) own)
          ]
      | inr later ↦
          let mapped : is_some (byte_at rs a) ≡ true = is_mapped rs a ∙ any_held (map mapping_of rs) k later at in
          let off : has a r ≡ false = apart_not_in r rs a first mapped in
          let w : may_write rs a ≡ true = is_written rs a ∙ (sym (ap (λ b. b || list_any (writes_at a) (map mapping_of rs)) (and_right r.write (has a r) off)) ∙ sym (is_written (r ∷ rs) a) ∙ e) in
          only_mapping rs k a (pairs_tail r rs apart) later at w
    ]
  where
    any_held : (ks : List Mapping) (k : Mapping) → Contains ks k → lies_at a k ≡ true → list_any (lies_at a) ks ≡ true
    any_held ks k held at = list_any_at (lies_at a) ks held.0 k held.1 (ap (lies_at a) held.2 ∙ at)
