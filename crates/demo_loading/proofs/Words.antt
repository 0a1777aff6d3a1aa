-- Words of a file behind a part of it of a known length.
use Rattle.std.proofs.Common.{ℕ, zero, suc, ◌≡◌, ◌+◌, ◌*◌, ◌^◌, ◌<◌, List, ◌++◌, length, get_or, get_or-append-add, slice_index, refl, ap, ◌∙◌, arith, w32}
use Rattle.std.specs.Int.{to_le_bytes, from_le_bytes}
use Rattle.std.proofs.lemmas.Nat.{from_le_bytes-to_le_bytes_4}
use Rattle.memory_map.specs.FileBytes.{word_at}
use Rattle.elf32_reader.specs.Dynamic.{entry_count, tables_at, value_of}

-- the number that a word's bytes are
pub word_back : (n : ℕ) → n < 2 ^ 32 → word_at (to_le_bytes w32 n) 0 ≡ n
word_back n lt = let e : from_le_bytes w32 (to_le_bytes w32 n) ≡ n = from_le_bytes-to_le_bytes_4 n lt in omega (arith, e)

module _ (front back : List ℕ) where
  byte_behind : (at k : ℕ) → at ≡ length front + k → slice_index (front ++ back) at ≡ slice_index back k
  byte_behind at k e = ap (λ i. get_or (front ++ back) i 0) e ∙ get_or-append-add front back k 0

  pub word_behind : (at k : ℕ) → at ≡ length front + k → word_at (front ++ back) at ≡ word_at back k
  word_behind at k e =
      let e0 = byte_behind at k e in
      let e1 = byte_behind (at + 1) (k + 1) (omega arith) in
      let e2 = byte_behind (at + 2) (k + 2) (omega arith) in
      let e3 = byte_behind (at + 3) (k + 3) (omega arith) in
      rw (e0, e1, e2, e3) refl

  pub entry_count_behind : (most at k : ℕ) → at ≡ length front + k → entry_count (front ++ back) at most ≡ entry_count back k most
  unfolding entry_count
  entry_count_behind zero at k e = refl
  entry_count_behind (suc most) at k e =
      let first = word_behind at k e in
      let more = entry_count_behind most (at + 8) (k + 8) (omega arith) in
      rw (first, more) refl

  value_of_behind : (at k tag n : ℕ) → at ≡ length front + k → value_of (front ++ back) at tag n ≡ value_of back k tag n
  unfolding value_of
  value_of_behind at k tag zero e = refl
  value_of_behind at k tag (suc n) e =
      let named = word_behind (at + 8 * n) (k + 8 * n) (omega arith) in
      let worth = word_behind (at + 8 * n + 4) (k + 8 * n + 4) (omega arith) in
      let more = value_of_behind at k tag n e in
      rw (named, worth, more) refl

  pub tables_at_behind : (at k n : ℕ) → at ≡ length front + k → tables_at (front ++ back) at n ≡ tables_at back k n
  tables_at_behind at k n e =
      let same = λ (tag : ℕ). value_of_behind at k tag n e in
      rw (same 2, same 5, same 6, same 10, same 11, same 17, same 18, same 19, same 20, same 23) refl
