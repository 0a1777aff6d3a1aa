-- Words put into ranges leave each range where it is and as long as it is, so the ranges stay a map.
use Rattle.std.proofs.Common.{ℕ, ◌≡◌, ◌+◌, ◌-◌, ◌≤◌, ◌<◌, ◌/◌, ◌^◌, Bool, true, false, cond, List, [], ◌∷◌, ◌++◌, length, take, drop, get_or, set, map, add-zero, refl, sym, ap, subst, ◌∙◌, arith, inl, inr, ⊎_elim, zero, suc}
use Rattle.std.specs.Prelude.{◌&&◌, nat_le, All, AllPairs}
use Rattle.std.specs.Int.{w32, byte_at, bytes_low_first, to_le_bytes}
use Rattle.std.proofs.lemmas.Bool.{leb-true, and_parts}
use Rattle.std.proofs.lemmas.List.{length-take, length-drop, length-append, length-map, map-append, take_more, take_more_set, drop-set-lt, get_or-drop, get_or-map}
use Rattle.std.proofs.lemmas.Grind.{drop_more_same}
use Rattle.std.proofs.lemmas.List.Elements.{All-append, All-take, All-drop, All-map, All-cons, All-nil}
use Rattle.std.proofs.lemmas.List.Sums.{sum_by-cons}
use Rattle.std.proofs.Math.Nat.{mod-lt}
use Rattle.memory_map.specs.Range.{Range, end_of, holds, AreApart, HasBytes, IsInUserSpace, USER_LOW, USER_END}
use Rattle.memory_map.specs.Map.{range_of, total_size, HasSome, IsMap, MAPPED_LIMIT}
use Rattle.memory_map.specs.Patch.{patched, put_word, with_word}
use Rattle.memory_map.specs.declared.segment.Segment.{Segment}
use Rattle.memory_map.proofs.Faults.{pairs-cons}

length-with_word : (bytes : List ℕ) (at word : ℕ) → at + 4 ≤ length bytes → length (with_word bytes at word) ≡ length bytes
length-with_word bytes at word h =
    let front = take at bytes ++ to_le_bytes w32 word in
    omega (arith, length-append front (drop (at + 4) bytes), length-append (take at bytes) (to_le_bytes w32 word), length-take at bytes, length-drop (at + 4) bytes)

pub patched-low : (a word : ℕ) (r : Range) → (patched a word r).low ≡ r.low
patched-low a word r = by (holds a 4 r)
  where
    by : (t : Bool) → (cond t (record r { bytes = with_word r.bytes (a - r.low) word }) r).low ≡ r.low
    by true = refl
    by false = refl

pub patched-length : (a word : ℕ) (r : Range) → length (patched a word r).bytes ≡ length r.bytes
patched-length a word r = by (holds a 4 r) refl
  where
    by : (t : Bool) → holds a 4 r ≡ t → length (cond t (record r { bytes = with_word r.bytes (a - r.low) word }) r).bytes ≡ length r.bytes
    by true e =
        let parts = and_parts (nat_le r.low a) (nat_le (a + 4) (end_of r)) e in
        let above = leb-true r.low a parts.0 in
        let below = leb-true (a + 4) (end_of r) parts.1 in
        length-with_word r.bytes (a - r.low) word (omega (arith, above, below))
    by false e = refl

low-byte : (i n : ℕ) → byte_at i n < 256
low-byte zero n = mod-lt n (omega arith)
low-byte (suc i) n = mod-lt (n / 256 ^ suc i) (omega arith)

low-bytes : (i k n : ℕ) → All (λ b. b < 256) (bytes_low_first i k n)
low-bytes i zero n = All-nil (λ b. b < 256)
low-bytes i (suc k) n = All-cons (λ b. b < 256) (byte_at i n) (bytes_low_first (suc i) k n) (low-byte i n) (low-bytes (suc i) k n)

word-bytes : (word : ℕ) → All (λ b. b < 256) (to_le_bytes w32 word)
word-bytes word = low-bytes 0 4 word

patched-bytes : (a word : ℕ) (r : Range) → HasBytes r → HasBytes (patched a word r)
patched-bytes a word r h = by (holds a 4 r)
  where
    by : (t : Bool) → HasBytes (cond t (record r { bytes = with_word r.bytes (a - r.low) word }) r)
    by true =
        All-append (λ b. b < 256) (take (a - r.low) r.bytes ++ to_le_bytes w32 word) (drop (a - r.low + 4) r.bytes)
        (All-append (λ b. b < 256) (take (a - r.low) r.bytes) (to_le_bytes w32 word) (All-take (λ b. b < 256) (a - r.low) r.bytes h) (word-bytes word))
        (All-drop (λ b. b < 256) (a - r.low + 4) r.bytes h)
    by false = h

-- what leaves each range where it is and as long as it is, with bytes
module _ (f : Range → Range) (low : (r : Range) → (f r).low ≡ r.low) (size : (r : Range) → length (f r).bytes ≡ length r.bytes) (bytes : (r : Range) → HasBytes r → HasBytes (f r)) where
  same_end : (r : Range) → end_of (f r) ≡ end_of r
  same_end r = ap (λ n. n + length (f r).bytes) (low r) ∙ ap (λ n. r.low + n) (size r)

  each : (P : Range → Type 0) → ((r : Range) → P r → P (f r)) → (rs : List Range) → All P rs → All P (map f rs)
  each P keeps [] h = All-nil P
  each P keeps (r ∷ rs) h = All-cons P (f r) (map f rs) (keeps r (h 0 r (omega arith))) (each P keeps rs (λ k d in'. h (suc k) d (omega (arith, in'))))

  apart : (r s : Range) → AreApart r s → AreApart (f r) (f s)
  apart r s (inl h) = inl (omega (arith, h, same_end r, low s))
  apart r s (inr h) = inr (omega (arith, h, same_end s, low r))

  apart_each : (r : Range) (rs : List Range) → All (AreApart r) rs → All (AreApart (f r)) (map f rs)
  apart_each r [] h = All-nil (AreApart (f r))
  apart_each r (s ∷ rs) h = All-cons (AreApart (f r)) (f s) (map f rs) (apart r s (h 0 s (omega arith))) (apart_each r rs (λ k d in'. h (suc k) d (omega (arith, in'))))

  pairs : (rs : List Range) → AllPairs AreApart rs → AllPairs AreApart (map f rs)
  pairs [] h = λ i j d lt in'. absurd (omega (arith, in'))
  pairs (r ∷ rs) h =
      pairs-cons (f r) (map f rs) (apart_each r rs (λ k d in'. h 0 (suc k) d (omega arith) (omega (arith, in')))) (pairs rs (λ i j d lt in'. h (suc i) (suc j) d (omega (arith, lt)) (omega (arith, in'))))

  same_total : (rs : List Range) → total_size (map f rs) ≡ total_size rs
  same_total [] = refl
  same_total (r ∷ rs) =
      sum_by-cons (λ (r : Range). length r.bytes) (f r) (map f rs)
      ∙ ap (λ n. n + total_size (map f rs)) (size r)
      ∙ ap (λ n. length r.bytes + n) (same_total rs)
      ∙ sym (sum_by-cons (λ (r : Range). length r.bytes) r rs)

  pub map-stays : (rs : List Range) → IsMap rs → IsMap (map f rs)
  map-stays rs h = record {
    some = each HasSome (λ r some. let P : ℕ → Type 0 = λ n. 0 < n in subst P (sym (size r)) some) rs h.some;
    inside = each IsInUserSpace (λ r i. let above = i.above in let below = i.below in record { above = omega (arith, above, low r); below = omega (arith, below, same_end r) }) rs h.inside;
    apart = pairs rs h.apart;
    bytes = each HasBytes bytes rs h.bytes;
    size = let P : ℕ → Type 0 = λ n. n ≤ MAPPED_LIMIT in subst P (sym (same_total rs)) h.size;
  }

pub put_word-map : (a word : ℕ) (ranges held : List Range) → held ≡ put_word a word ranges → IsMap ranges → IsMap held
put_word-map a word ranges held is h =
    let P : List Range → Type 0 = λ rs. IsMap rs in
    subst P (sym is) (map-stays (patched a word) (patched-low a word) (patched-length a word) (patched-bytes a word) ranges h)

-- one more segment after the word was put into it
pub patched-more : (a word : ℕ) (old now : List Segment) (i : ℕ) (before after : Segment) → i < length now → length now ≡ length old → before ≡ get_or now i before
    → range_of after ≡ patched a word (range_of before)
    → map range_of (take i now) ≡ map (patched a word) (map range_of (take i old)) → drop i now ≡ drop i old
    → (map range_of (take (i + 1) (set now i after)) ≡ map (patched a word) (map range_of (take (i + 1) old))) × (drop (i + 1) (set now i after) ≡ drop (i + 1) old)
patched-more a word old now i before after lt same is fill done rest =
    let at : get_or old i before ≡ before =
    ap (λ k. get_or old k before) (sym (add-zero i)) ∙ sym (get_or-drop i old 0 before) ∙ ap (λ l. get_or l 0 before) (sym rest) ∙ get_or-drop i now 0 before ∙ ap (λ k. get_or now k before) (add-zero i) ∙ sym is in
    let more : take (i + 1) old ≡ take i old ++ before ∷ [] = take_more old i before (omega arith) ∙ ap (λ s. take i old ++ s ∷ []) at in (
      ap (map range_of) (take_more_set now i after lt)
          ∙ map-append range_of (take i now) (after ∷ [])
          ∙ ap (λ rs. rs ++ range_of after ∷ []) done
          ∙ ap (λ r. map (patched a word) (map range_of (take i old)) ++ r ∷ []) fill
          ∙ sym (map-append (patched a word) (map range_of (take i old)) (range_of before ∷ []))
          ∙ ap (map (patched a word)) (sym (map-append range_of (take i old) (before ∷ [])))
          ∙ ap (λ l. map (patched a word) (map range_of l)) (sym more),
      drop-set-lt (i + 1) now i after (omega arith) ∙ drop_more_same now old i rest,
    )
