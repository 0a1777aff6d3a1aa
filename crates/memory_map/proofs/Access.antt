-- Accesses that go from segment to segment.
use Rattle.std.proofs.Common.{ℕ, ◌≡◌, ◌+◌, ◌-◌, ◌^◌, ◌<◌, ◌≤◌, true, List, map, length, get_or, sym, ◌∙◌, ap, subst, arith, IsTrue, ◌↔◌, Bool}
use Rattle.std.specs.Prelude.{◌&&◌, nat_le, nat_lt}
use Rattle.std.proofs.lemmas.Bool.{leb-true, ltb-true, le-leb, lt-ltb, and_parts, and_from}
use Rattle.std.proofs.lemmas.List.{length-map, get_or-map}
use Rattle.std.proofs.lemmas.List.Folds.{list_any_at}
use Rattle.memory_map.specs.Range.{Range, has, end_of}
use Rattle.memory_map.specs.Map.{range_of, permits, is_allowed, Allows, AreAllowed}
use Rattle.memory_map.specs.declared.perm.Perm.{Perm}
use Rattle.memory_map.specs.declared.segment.Segment.{Segment}

-- the bytes of a segment from one of its addresses on
pub allowed_segment : (list : List Segment) (perm : Perm) (a i : ℕ) (s : Segment) → i < length list → s ≡ get_or list i s → has a (range_of s) ≡ true → permits perm (range_of s) ≡ true → (a < end_of (range_of s)) × AreAllowed (map range_of list) perm a (end_of (range_of s))
allowed_segment list perm a i s in' is here allows =
    let r = range_of s in
    let parts = and_parts (nat_le r.low a) (nat_lt a (end_of r)) here in
    let above = leb-true r.low a parts.0 in
    let at : range_of s ≡ get_or (map range_of list) i (range_of s) = ap range_of is ∙ sym (get_or-map range_of list i s (range_of s) in') in (
      ltb-true a (end_of r) parts.1,
      record {
        each = λ b low high.
            let Passes : Range → Type 0 = λ (x : Range). (has b x && permits perm x) ≡ true in
            let has_b : has b r ≡ true = and_from (nat_le r.low b) (nat_lt b (end_of r)) (le-leb r.low b (omega arith)) (lt-ltb b (end_of r) high) in
            list_any_at (λ (x : Range). has b x && permits perm x) (map range_of list) i r (omega (arith, length-map list range_of)) (subst Passes at (and_from (has b r) (permits perm r) has_b allows));
      },
    )

-- an access of n bytes from an address on is one up to the address after them
pub Allows-from : (ranges : List Range) (a n : ℕ) (perm : Perm) → a + n ≤ 2 ^ 32 → AreAllowed ranges perm a (a + n) → Allows ranges a n perm
Allows-from ranges a n perm below h = record { below = below; each = λ i in'. h.each (a + i) (omega arith) (omega arith) }

pub Allows-to : (ranges : List Range) (a n : ℕ) (perm : Perm) → Allows ranges a n perm → AreAllowed ranges perm a (a + n)
Allows-to ranges a n perm h = record {
  each = λ b low high.
      let P : ℕ → Type 0 = λ (c : ℕ). is_allowed ranges perm c ≡ true in
      let same : a + (b - a) ≡ b = omega arith in
      subst P same (h.each (b - a) (omega arith));
}

pub Allows-decided : (t : Bool) (held list : List Segment) (from end a n : ℕ) (perm : Perm) → held ≡ list → from ≡ a → end ≡ a + n → end ≤ 2 ^ 32 → (IsTrue t ↔ AreAllowed (map range_of held) perm from end) → (IsTrue t ↔ Allows (map range_of list) a n perm)
Allows-decided t held list from end a n perm p q r below h =
    let OfList : List Segment → Type 0 = λ l. IsTrue t ↔ AreAllowed (map range_of l) perm from end in
    let OfFrom : ℕ → Type 0 = λ x. IsTrue t ↔ AreAllowed (map range_of list) perm x end in
    let OfEnd : ℕ → Type 0 = λ x. IsTrue t ↔ AreAllowed (map range_of list) perm a x in
    let g = subst OfEnd r (subst OfFrom q (subst OfList p h)) in
    (λ y. Allows-from (map range_of list) a n perm (omega arith) (g.0 y), λ w. g.1 (Allows-to (map range_of list) a n perm w))
