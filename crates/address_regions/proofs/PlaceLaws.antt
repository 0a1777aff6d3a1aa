-- Laws of places: addresses modulo 2 ^ 32, offsets that wrap, and what validity tells of them.
use Rattle.std.proofs.Common.{◌≡◌, ℕ, ◌+◌, ◌-◌, ◌*◌, ◌/◌, ◌%◌, ◌^◌, ◌<◌, refl, sym, ap, ◌∙◌, arith, ℤ, pos, negsuc, ◌+ℤ◌, ◌-ℤ◌, w32, unsigned_abs, lit<}
use Rattle.std.proofs.lemmas.Int.{ints, int_wrap-add_right, int_rem_euclid_is, of_z-to_z}
use Rattle.std.specs.Int.{int_rem_euclid, int_wrap, cast_unsigned}
use Rattle.address_regions.specs.Places.{place_at}

-- ---- the remainder of an integer by 2 ^ 32

abbrev pub residue : ℤ → ℕ
residue z = unsigned_abs (int_rem_euclid z (pos (2 ^ 32)))

pub residue-lt : (z : ℤ) → residue z < 2 ^ 32
residue-lt (pos n) = omega arith
residue-lt (negsuc n) = omega arith

pub residue-is : (z : ℤ) (k m : ℕ) → z +ℤ pos (k * 2 ^ 32) ≡ pos m → residue z ≡ m % 2 ^ 32
residue-is z k m e = ap unsigned_abs (int_rem_euclid_is z (pos (2 ^ 32)) (2 ^ 32) k m (lit< tt) refl e)

-- the remainder is the word of the wrapped integer
pub residue-word : (z : ℤ) → residue z ≡ cast_unsigned w32 (int_wrap w32 z)
unfolding int_wrap
residue-word z = sym (of_z-to_z w32 (residue z) (residue-lt z))

pub residue-wrapped : (b z : ℤ) → residue (b +ℤ int_wrap w32 z) ≡ residue (b +ℤ z)
residue-wrapped b z = residue-word (b +ℤ int_wrap w32 z) ∙ ap (cast_unsigned w32) (int_wrap-add_right w32 b z) ∙ sym (residue-word (b +ℤ z))

pub residue-add : (z : ℤ) (n : ℕ) → residue (z +ℤ pos n) ≡ (residue z + n) % 2 ^ 32
residue-add (pos a) n = omega arith
residue-add (negsuc a) n =
    let k = a / 2 ^ 32 + 1 in
    let m = k * 2 ^ 32 - a - 1 in
    let e : residue (negsuc a +ℤ pos n) ≡ (m + n) % 2 ^ 32 = residue-is (negsuc a +ℤ pos n) k (m + n) (omega (arith, ints)) in
    omega arith

-- ---- places

pub place_at-lt : (b : ℕ) (o : ℤ) → place_at b o < 2 ^ 32
place_at-lt b o = residue-lt (pos b +ℤ o)

-- an offset that wrapped gives the same place
pub place_at-wrapped : (b : ℕ) (o : ℤ) → place_at b (int_wrap w32 o) ≡ place_at b o
place_at-wrapped b o = residue-wrapped (pos b) o

pub place_at-add : (b n : ℕ) (o : ℤ) → place_at b (o +ℤ pos n) ≡ (place_at b o + n) % 2 ^ 32
place_at-add b n o = let e : pos b +ℤ (o +ℤ pos n) ≡ pos b +ℤ o +ℤ pos n = omega (arith, ints) in ap residue e ∙ residue-add (pos b +ℤ o) n

pub place_at-sub : (b n : ℕ) (o : ℤ) → n < 2 ^ 32 → place_at b (o -ℤ pos n) ≡ (place_at b o + (2 ^ 32 - n)) % 2 ^ 32
place_at-sub b n o h =
    let up : place_at b (o -ℤ pos n +ℤ pos n) ≡ (place_at b (o -ℤ pos n) + n) % 2 ^ 32 = place_at-add b n (o -ℤ pos n) in
    let e : o -ℤ pos n +ℤ pos n ≡ o = omega (arith, ints) in
    let f = ap (place_at b) e in
    let low = place_at-lt b (o -ℤ pos n) in
    omega arith

-- without a passage of 2 ^ 32 or of 0, a place is the sum
pub place_at-is : (b : ℕ) (o : ℤ) (n : ℕ) → pos b +ℤ o ≡ pos n → n < 2 ^ 32 → place_at b o ≡ n
place_at-is b o n e h = ap residue e ∙ (omega arith)
