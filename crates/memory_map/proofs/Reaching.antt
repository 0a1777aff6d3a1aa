-- What holds of each byte of a range of addresses, by the segments that have them.
use Rattle.std.proofs.Common.{ℕ, zero, suc, ◌≡◌, ◌+◌, ◌-◌, ◌<◌, ◌≤◌, Bool, true, false, cond, List, [], ◌∷◌, length, refl, sym, ◌∙◌, ap, subst, arith, IsTrue, ◌↔◌, ⊎_elim}
use Rattle.std.specs.Prelude.{◌&&◌, ◌||◌, filter, is_some, nat_le, nat_lt, slice_get}
use Rattle.std.specs.List.{list_all, list_any, range_with_len}
use Rattle.std.proofs.lemmas.Bool.{and_parts, false≢true, leb-true, ltb-true, or_cases, or_left, or_right}
use Rattle.std.proofs.Math.Nat.{eq-or-lt_of_le}
use Rattle.memory_map.specs.Range.{Range, byte_at, end_of, has, may_write}
use Rattle.memory_map.specs.Map.{is_allowed, permits, AreAllowed}
use Rattle.memory_map.specs.declared.perm.Perm.{Perm}
use Rattle.memory_map.proofs.Lists.{byte_at-here, byte_at-there, byte_at-none}
use Rattle.std.proofs.Math.Bool.{and-true}

some_within : {X : Type 0} (xs : List X) (k : ℕ) → k < length xs → is_some (slice_get xs k) ≡ true
some_within [] k h = absurd (omega arith)
some_within (x ∷ xs) zero h = refl
some_within (x ∷ xs) (suc k) h = some_within xs k (omega (arith, h))

has_byte : (a : ℕ) (r : Range) → has a r ≡ true → is_some (slice_get r.bytes (a - r.low)) ≡ true
has_byte a r h =
    let parts = and_parts (nat_le r.low a) (nat_lt a (end_of r)) h in
    let above = leb-true r.low a parts.0 in
    let below = ltb-true a (end_of r) parts.1 in
    some_within r.bytes (a - r.low) (omega arith)

-- whether some range has an address and passes a test is whether the byte there is found among those that pass it
module _ (test pick : Range → Bool) (same : (r : Range) → test r ≡ pick r) (a : ℕ) where
  first : (r : Range) (rs : List Range) (h p : Bool) → has a r ≡ h → pick r ≡ p → list_any (λ x. has a x && test x) rs ≡ is_some (byte_at (filter pick rs) a)
      → ((h && p) || list_any (λ x. has a x && test x) rs) ≡ is_some (byte_at (cond p (r ∷ filter pick rs) (filter pick rs)) a)
  first r rs true true here passes rest = sym (ap is_some (byte_at-here r (filter pick rs) a here) ∙ has_byte a r here)
  first r rs false true here passes rest = rest ∙ sym (ap is_some (byte_at-there r (filter pick rs) a here))
  first r rs true false here passes rest = rest
  first r rs false false here passes rest = rest

  pub any_byte : (ranges : List Range) → list_any (λ x. has a x && test x) ranges ≡ is_some (byte_at (filter pick ranges) a)
  any_byte [] = sym (ap is_some (byte_at-none a))
  any_byte (r ∷ rs) =
      ap (λ t. (has a r && t) || list_any (λ x. has a x && test x) rs) (same r) ∙ first r rs (has a r) (pick r) refl refl (any_byte rs)

-- the rights READ and WRITE
abbrev readable : Perm
readable = record { 0 = 1 }

abbrev pub writable : Perm
writable = record { 0 = 2 }

all_pass : {X : Type 0} (xs : List X) → filter (λ x. true) xs ≡ xs
all_pass [] = refl
all_pass (x ∷ xs) = ap (λ ys. x ∷ ys) (all_pass xs)

pub read-mapped : (ranges : List Range) (a : ℕ) → is_allowed ranges readable a ≡ is_some (byte_at ranges a)
read-mapped ranges a = any_byte (λ r. permits readable r) (λ r. true) (λ r. refl) a ranges ∙ ap (λ rs. is_some (byte_at rs a)) (all_pass ranges)

pub write-mapped : (ranges : List Range) (a : ℕ) → is_allowed ranges writable a ≡ may_write ranges a
unfolding may_write
write-mapped ranges a = any_byte (λ r. permits writable r) (λ r. r.write) (λ r. and-true r.write) a ranges

-- a test of each number from one on, of so many
pub each_in : (test : ℕ → Bool) (a n : ℕ) → ((b : ℕ) → a ≤ b → b < a + n → test b ≡ true) → list_all test (range_with_len a n) ≡ true
each_in test a zero h = refl
each_in test a (suc n) h =
    ap (λ t. t && list_all test (range_with_len (a + 1) n)) (h a (omega arith) (omega arith))
    ∙ each_in test (a + 1) n (λ b low high. h b (omega (arith, low)) (omega (arith, high)))

pub each_of : (test : ℕ → Bool) (a n b : ℕ) → list_all test (range_with_len a n) ≡ true → a ≤ b → b < a + n → test b ≡ true
each_of test a zero b h low high = absurd (omega (arith, low, high))
each_of test a (suc n) b h low high =
    let parts = and_parts (test a) (list_all test (range_with_len (a + 1) n)) h in
    ⊎_elim (λ (is : a ≡ b). let P : ℕ → Type 0 = λ x. test x ≡ true in subst P is parts.0)
    (λ (less : a < b). each_of test (a + 1) n b parts.1 (omega (arith, less)) (omega (arith, high)))
    (eq-or-lt_of_le low)

-- a number from one on, of so many, that passes a test
pub record IsFound (test : ℕ → Bool) (a count : ℕ) : Type 0 where
  pub k : ℕ
  pub above : a ≤ k
  pub below : k < a + count
  pub passes : test k ≡ true

pub found_in : (test : ℕ → Bool) (a count : ℕ) → list_any test (range_with_len a count) ≡ true → IsFound test a count
found_in test a zero h = absurd (false≢true h)
found_in test a (suc count) h =
    ⊎_elim (λ here. record { k = a; above = omega arith; below = omega arith; passes = here })
    (λ later. let f = found_in test (a + 1) count later in let above = f.above in let below = f.below in record { k = f.k; above = omega arith; below = omega arith; passes = f.passes })
    (or_cases (test a) (list_any test (range_with_len (a + 1) count)) h)

pub any_in : (test : ℕ → Bool) (a n b : ℕ) → a ≤ b → b < a + n → test b ≡ true → list_any test (range_with_len a n) ≡ true
any_in test a zero b low high h = absurd (omega (arith, low, high))
any_in test a (suc n) b low high h =
    ⊎_elim (λ (is : a ≡ b). let P : ℕ → Type 0 = λ x. test x ≡ true in or_left (test a) (list_any test (range_with_len (a + 1) n)) (subst P (sym is) h))
    (λ (less : a < b). or_right (test a) (list_any test (range_with_len (a + 1) n)) (any_in test (a + 1) n b (omega (arith, less)) (omega (arith, high)) h))
    (eq-or-lt_of_le low)

pub decided : (t u : Bool) → (t ≡ true → u ≡ true) → (u ≡ true → t ≡ true) → t ≡ u
decided true u h g = sym (h refl)
decided false true h g = g refl
decided false false h g = refl

-- a test of each of n bytes from an address on, by one of the bytes up to an address
pub allowed_is : (t : Bool) (test : ℕ → Bool) (ranges : List Range) (perm : Perm) (a n : ℕ) → ((b : ℕ) → is_allowed ranges perm b ≡ test b)
    → (IsTrue t ↔ AreAllowed ranges perm a (a + n)) → t ≡ list_all test (range_with_len a n)
allowed_is t test ranges perm a n same h =
    decided t (list_all test (range_with_len a n))
    (λ yes. each_in test a n (λ b low high. sym (same b) ∙ (h.0 yes).each b low high))
    (λ all. h.1 (record { each = λ b low high. same b ∙ each_of test a n b all low high }))
