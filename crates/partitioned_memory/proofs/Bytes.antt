-- Bytes of intervals and areas, and what a write leaves.
use Rattle.std.proofs.Common.{◌≡◌, ℕ, ◌+◌, ◌*◌, Bool, true, false, cond, List, [], ◌∷◌, Some, None, refl, sym, ap, ◌∙◌, subst, arith, ℤ, pos, ◌+ℤ◌, ◌≤ℤ◌, ◌<ℤ◌, inl, inr}
use Rattle.std.specs.Prelude.{◌||◌, ◌&&◌, int_le, int_lt}
use Rattle.std.proofs.lemmas.Bool.{false≢true, and_parts, and_from, or_cases, or_left, or_right, or_parts, false_from_ne_true}
use Rattle.std.proofs.lemmas.Int.{ints, int_max_is, int_min_is}
use Rattle.std.specs.declared.cmp.Ordering.TheVariants.{Less, Equal}
use Rattle.bit_words.specs.declared.width.Width.{Width}
use Rattle.bit_words.specs.declared.width.Width.TheVariants.{B8, B16, B32}
use Rattle.bit_words.specs.Width.{bytes_of}
use Rattle.memory_map.specs.declared.span.Span.{Span}
use Rattle.memory_map.specs.Range.{Range}
use Rattle.address_regions.specs.declared.region.Region.{Region}
use Rattle.address_regions.specs.Places.{Places, place_at}
use Rattle.partitioned_memory.specs.declared.area.Area.{Area}
use Rattle.partitioned_memory.specs.declared.area.Area.TheVariants.{Image, In}
use Rattle.partitioned_memory.specs.declared.area.Interval.{Interval}
use Rattle.partitioned_memory.specs.declared.fact.Dirty.{Dirty}
use Rattle.partitioned_memory.specs.Areas.{area_cmp, has_byte, hull, is_before, is_left, is_marked, is_off, is_zeroed, same_area}
use Rattle.partitioned_memory.specs.Held.{dirty_after, dirty_of, dirty_with, first_byte, interval_of_dirty, is_dirty, known_byte}
use Rattle.partitioned_memory.specs.Describes.{IsApart, IsWritten, StartsAt, half_in, is_byte_of, number_in}
use Rattle.partitioned_memory.proofs.Orders.{Lies, area_cmp-refl, before-lies, int_le-from, int_le-true, int_lt-from, int_lt-true, same_area-is, same_area-refl, touching}
use Rattle.partitioned_memory.proofs.Kept.{dirty_of-interval}

-- ---- bytes of intervals

pub record IsByte (i : Interval) (a : Area) (o : ℤ) : Type 0 where
  pub area : i.area ≡ a
  pub low : i.low ≤ℤ o
  pub high : o <ℤ i.end

pub byte-is : (i : Interval) (a : Area) (o : ℤ) → has_byte i a o ≡ true → IsByte i a o
byte-is i a o e =
    let x = and_parts (same_area i.area a) (int_le i.low o && int_lt o i.end) e in
    let y = and_parts (int_le i.low o) (int_lt o i.end) x.1 in
    record { area = same_area-is i.area a x.0; low = int_le-true i.low o y.0; high = int_lt-true o i.end y.1 }

pub byte-from : (i : Interval) (a : Area) (o : ℤ) → IsByte i a o → has_byte i a o ≡ true
byte-from i a o h =
    let s : same_area i.area a ≡ true = ap (λ c. same_area c a) h.area ∙ same_area-refl a in
    and_from (same_area i.area a) (int_le i.low o && int_lt o i.end) s (and_from (int_le i.low o) (int_lt o i.end) (int_le-from i.low o h.low) (int_lt-from o i.end h.high))

before-no_byte : (i j : Interval) (a : Area) (o : ℤ) → is_before i j ≡ true → IsByte i a o → IsByte j a o → ⊥
unfolding Lies
before-no_byte i j a o e p q =
    elim (before-lies i j e) [
      | inl l ↦ let k : Less ≡ Equal = sym l ∙ ap (λ c. area_cmp c j.area) (p.area ∙ sym q.area) ∙ area_cmp-refl j.area in cc
      | inr b ↦ omega (arith, ints, b.1, p.low, p.high, q.low, q.high)
    ]

-- what lies off shares no byte
pub off-no_byte : (i j : Interval) (a : Area) (o : ℤ) → is_off i j ≡ true → has_byte i a o ≡ true → has_byte j a o ≡ true → ⊥
off-no_byte i j a o e p q =
    elim (or_cases (is_before i j) (is_before j i) e) [
      | inl x ↦ before-no_byte i j a o x (byte-is i a o p) (byte-is j a o q)
      | inr x ↦ before-no_byte j i a o x (byte-is j a o q) (byte-is i a o p)
    ]

-- ---- dirty bytes

hull-left : (i j : Interval) (a : Area) (o : ℤ) → has_byte i a o ≡ true → has_byte (hull i j) a o ≡ true
hull-left i j a o e =
    let b = byte-is i a o e in
    byte-from (hull i j) a o (record { area = b.area; low = omega (arith, ints, int_min_is i.low j.low, b.low); high = omega (arith, ints, int_max_is i.end j.end, b.high) })

hull-right : (i j : Interval) (a : Area) (o : ℤ) → i.area ≡ j.area → has_byte j a o ≡ true → has_byte (hull i j) a o ≡ true
hull-right i j a o s e =
    let b = byte-is j a o e in
    byte-from (hull i j) a o (record { area = s ∙ b.area; low = omega (arith, ints, int_min_is i.low j.low, b.low); high = omega (arith, ints, int_max_is i.end j.end, b.high) })

-- bytes that were dirty stay so, and those of the new range are
pub dirty_with-new : (i : Interval) (rs : List Dirty) (a : Area) (o : ℤ) → (has_byte i a o || is_dirty a o rs) ≡ true → is_dirty a o (dirty_with i rs) ≡ true
dirty_with-new i [] a o e = ap (λ j. has_byte j a o || false) (dirty_of-interval i) ∙ e
dirty_with-new i (r ∷ rs) a o e =
    let own = has_byte (interval_of_dirty r) a o in
    elim (is_left (interval_of_dirty r) i) as (λ b. is_left (interval_of_dirty r) i ≡ b → is_dirty a o (cond b (r ∷ dirty_with i rs) (cond (is_left i (interval_of_dirty r)) (dirty_of i ∷ r ∷ rs) (dirty_with (hull i (interval_of_dirty r)) rs))) ≡ true) [
      | true ↦ λ k.
          elim (or_cases (has_byte i a o) (own || is_dirty a o rs) e) [
            | inl x ↦ or_right own (is_dirty a o (dirty_with i rs)) (dirty_with-new i rs a o (or_left (has_byte i a o) (is_dirty a o rs) x))
            | inr x ↦ elim (or_cases own (is_dirty a o rs) x) [
              | inl y ↦ or_left own (is_dirty a o (dirty_with i rs)) y
              | inr y ↦ or_right own (is_dirty a o (dirty_with i rs)) (dirty_with-new i rs a o (or_right (has_byte i a o) (is_dirty a o rs) y))
            ]
          ]
      | false ↦ λ k.
          elim (is_left i (interval_of_dirty r)) as (λ b. is_left i (interval_of_dirty r) ≡ b → is_dirty a o (cond b (dirty_of i ∷ r ∷ rs) (dirty_with (hull i (interval_of_dirty r)) rs)) ≡ true) [
            | true ↦ λ q. ap (λ j. has_byte j a o || (own || is_dirty a o rs)) (dirty_of-interval i) ∙ e
            | false ↦ λ q.
                let h = hull i (interval_of_dirty r) in
                let t = touching (interval_of_dirty r) i k q in
                dirty_with-new h rs a o
                (elim (or_cases (has_byte i a o) (own || is_dirty a o rs) e) [
                  | inl x ↦ or_left (has_byte h a o) (is_dirty a o rs) (hull-left i (interval_of_dirty r) a o x)
                  | inr x ↦ elim (or_cases own (is_dirty a o rs) x) [
                    | inl y ↦ or_left (has_byte h a o) (is_dirty a o rs) (hull-right i (interval_of_dirty r) a o (sym t.area) y)
                    | inr y ↦ or_right (has_byte h a o) (is_dirty a o rs) y
                  ]
                ])
          ] refl
    ] refl

-- a byte that is not dirty after a write was not before, and was not written where writes are remembered
pub record IsCleanAfter (i : Interval) (rs : List Dirty) (a : Area) (o : ℤ) : Type 0 where
  pub before : is_dirty a o rs ≡ false
  pub unwritten : is_marked i.area ≡ true → has_byte i a o ≡ false

pub clean-after : (i : Interval) (rs : List Dirty) (a : Area) (o : ℤ) → is_dirty a o (dirty_after i rs) ≡ false → IsCleanAfter i rs a o
clean-after i rs a o e =
    elim (is_marked i.area) as (λ b. is_marked i.area ≡ b → is_dirty a o (cond b (dirty_with i rs) rs) ≡ false → IsCleanAfter i rs a o) [
      | true ↦ λ k f.
          let none : (has_byte i a o || is_dirty a o rs) ≡ false =
          false_from_ne_true (has_byte i a o || is_dirty a o rs) (λ t. false≢true (sym f ∙ dirty_with-new i rs a o t)) in
          let parts = or_parts (has_byte i a o) (is_dirty a o rs) none in
          record { before = parts.1; unwritten = λ _. parts.0 }
      | false ↦ λ k f. record { before = f; unwritten = λ m. absurd (false≢true (sym k ∙ m)) }
    ] refl e

-- ---- known bytes

pub record IsKnown (ranges : List Range) (unset : List Span) (dirty : List Dirty) (a : Area) (o : ℤ) (n : ℕ) : Type 0 where
  pub clean : is_dirty a o dirty ≡ false
  pub first : first_byte ranges unset a o ≡ Some n

pub known-is : (ranges : List Range) (unset : List Span) (dirty : List Dirty) (a : Area) (o : ℤ) (n : ℕ) → known_byte ranges unset dirty a o ≡ Some n → IsKnown ranges unset dirty a o n
known-is ranges unset dirty a o n e =
    elim (is_dirty a o dirty) as (λ b. is_dirty a o dirty ≡ b → cond b None (first_byte ranges unset a o) ≡ Some n → IsKnown ranges unset dirty a o n) [
      | true ↦ λ k f. absurd (cc)
      | false ↦ λ k f. record { clean = k; first = f }
    ] refl e

pub known-from : (ranges : List Range) (unset : List Span) (dirty : List Dirty) (a : Area) (o : ℤ) (n : ℕ) → IsKnown ranges unset dirty a o n → known_byte ranges unset dirty a o ≡ Some n
known-from ranges unset dirty a o n h = ap (λ b. cond b None (first_byte ranges unset a o)) h.clean ∙ h.first

-- a byte that is known at the start is of an area where writes are remembered
pub first-marked : (ranges : List Range) (unset : List Span) (a : Area) (o : ℤ) (n : ℕ) → first_byte ranges unset a o ≡ Some n → is_marked a ≡ true
first-marked ranges unset Image o n e = refl
first-marked ranges unset (In r) o n e =
    elim (is_zeroed r) as (λ b. cond b (Some 0) None ≡ Some n → b ≡ true) [ true ↦ λ f. refl | false ↦ λ f. absurd (cc) ] e

-- in a region it is 0
pub first-zero : (ranges : List Range) (unset : List Span) (r : Region) (o : ℤ) (n : ℕ) → first_byte ranges unset (In r) o ≡ Some n → (is_zeroed r ≡ true) × (n ≡ 0)
first-zero ranges unset r o n e =
    elim (is_zeroed r) as (λ b. cond b (Some 0) None ≡ Some n → (b ≡ true) × (n ≡ 0)) [ true ↦ λ f. (refl, cc) | false ↦ λ f. absurd (cc) ] e

-- ---- what a write leaves

-- bytes of an area were written, at some base
pub record IsWrite (ranges : List Range) (p : Places) (a : Area) (base : ℕ) (test : ℤ → Bool) (b c : ℕ → ℕ) : Type 0 where
  pub apart : IsApart ranges p
  pub starts : StartsAt p a base
  pub bytes : (o : ℤ) → test o ≡ true → is_byte_of ranges a o ≡ true
  pub written : IsWritten base test b c

pub byte-kept : (ranges : List Range) (p : Places) (a : Area) (base : ℕ) (test : ℤ → Bool) (b c : ℕ → ℕ) → IsWrite ranges p a base test b c → (k : Area) (other : ℕ) (q : ℤ) → StartsAt p k other → is_byte_of ranges k q ≡ true → (k ≡ a → other ≡ base → test q ≡ true → ⊥) → c (place_at other q) ≡ b (place_at other q)
byte-kept ranges p a base test b c w k other q s e differs =
    w.written (place_at other q) (λ o t same.
    let one = w.apart.one k a q o other base s w.starts e (w.bytes o t) same in
    differs one.0 one.1 (subst (λ (z : ℤ). test z ≡ true) (sym one.2) t))

half-kept : (b c : ℕ → ℕ) (base : ℕ) (low : ℤ) → c (place_at base low) ≡ b (place_at base low) → c (place_at base (low +ℤ pos 1)) ≡ b (place_at base (low +ℤ pos 1)) → half_in c base low ≡ half_in b base low
half-kept b c base low e f = ap (λ n. n + 256 * c (place_at base (low +ℤ pos 1))) e ∙ ap (λ n. b (place_at base low) + 256 * n) f

-- two memories with the same bytes of a number have the same number
pub number-kept : (b c : ℕ → ℕ) (base : ℕ) (low : ℤ) (w : Width) → ((o : ℤ) → low ≤ℤ o → o <ℤ (low +ℤ pos (bytes_of w)) → c (place_at base o) ≡ b (place_at base o)) → number_in c base low w ≡ number_in b base low w
number-kept b c base low B8 h = h low (omega (arith, ints)) (omega (arith, ints))
number-kept b c base low B16 h = half-kept b c base low (h low (omega (arith, ints)) (omega (arith, ints))) (h (low +ℤ pos 1) (omega (arith, ints)) (omega (arith, ints)))
number-kept b c base low B32 h =
    let first = half-kept b c base low (h low (omega (arith, ints)) (omega (arith, ints))) (h (low +ℤ pos 1) (omega (arith, ints)) (omega (arith, ints))) in
    let second = half-kept b c base (low +ℤ pos 2) (h (low +ℤ pos 2) (omega (arith, ints)) (omega (arith, ints))) (h (low +ℤ pos 2 +ℤ pos 1) (omega (arith, ints)) (omega (arith, ints))) in
    ap (λ n. n + 65536 * half_in c base (low +ℤ pos 2)) first ∙ ap (λ n. half_in b base low + 65536 * n) second
