-- Laws of regions: their equality, and their bases.
use Rattle.std.proofs.Common.{◌≡◌, ℕ, ◌<◌, ◌≤◌, refl, sym, ap, ◌∙◌, arith, ℤ, pos, negsuc, ◌+ℤ◌, ◌-ℤ◌, ◌≤ℤ◌, ◌<ℤ◌, true, unsigned_abs}
use Rattle.std.proofs.lemmas.Int.{ints}
use Rattle.std.proofs.lemmas.Grind.{common_steps}
use Rattle.address_regions.specs.declared.region.Region.{Region}
use Rattle.address_regions.specs.declared.region.Region.TheVariants.{Stack, Fs, Gs, Block}
use Rattle.address_regions.specs.Extents.{low_of, high_of, has_one_base, is_in_extent, is_inside, has_room, block_of}
use Rattle.address_regions.specs.Places.{Places, HasBase, place_at, IsValid, SameWindows, KeepsBases}
use Rattle.address_regions.specs.Same.{same_region}
use Rattle.address_regions.proofs.PlaceLaws.{place_at-is}

pub same_region-refl : (r : Region) → same_region r r ≡ true
unfolding same_region
same_region-refl Stack = refl
same_region-refl Fs = refl
same_region-refl Gs = refl
same_region-refl (Block site size zeroed) = grind (arith, common_steps)

pub same_region-is : (r s : Region) → same_region r s ≡ true → r ≡ s
unfolding same_region
same_region-is Stack Stack e = refl
same_region-is Fs Fs e = refl
same_region-is Gs Gs e = refl
same_region-is (Block site size zeroed) (Block a b c) e = grind (arith, common_steps)
same_region-is r s e = absurd (cc)

-- the stack and the segments have one base each
pub one_base : (p : Places) (r : Region) (b c : ℕ) → has_one_base r ≡ true → HasBase p r b → HasBase p r c → b ≡ c
one_base p Stack b c e h k = h ∙ sym k
one_base p Fs b c e h k = h ∙ sym k
one_base p Gs b c e h k = h ∙ sym k
one_base p (Block site size zeroed) b c e h k = absurd (cc)

-- an offset inside is in the extent
pub inside-in_extent : (r : Region) (o : ℤ) → is_inside r o ≡ true → is_in_extent r o ≡ true
inside-in_extent r o e = grind (arith, ints, common_steps)

-- what the tests on offsets tell
pub in_extent-tells : (r : Region) (o : ℤ) → is_in_extent r o ≡ true → (low_of r ≤ℤ o) × (o <ℤ high_of r)
in_extent-tells r o e = grind (arith, ints, common_steps)

pub inside-tells : (r : Region) (o : ℤ) → is_inside r o ≡ true → (has_room r ≡ true) × (low_of r ≤ℤ o) × (o ≤ℤ (high_of r -ℤ pos 4))
inside-tells r o e = grind (arith, ints, common_steps)

pub inside-from : (r : Region) (o : ℤ) → has_room r ≡ true → low_of r ≤ℤ o → o ≤ℤ (high_of r -ℤ pos 4) → is_inside r o ≡ true
inside-from r o e l h = grind (arith, ints, common_steps)

natural : (z : ℤ) → pos 0 ≤ℤ z → z ≡ pos (unsigned_abs z)
natural (pos n) h = refl
natural (negsuc n) h = absurd (omega (arith, ints))

-- a byte of a region lies at the sum of a base and its offset, which is where a window may lie
pub byte_place : (p : Places) (r : Region) (b : ℕ) (o : ℤ) → IsValid p → HasBase p r b → is_in_extent r o ≡ true → pos (place_at b o) ≡ pos b +ℤ o
byte_place p r b o v h e =
    let w = v.allowed r b h in
    let (low, high) = in_extent-tells r o e in
    let n = natural (pos b +ℤ o) (omega (arith, ints, w.low)) in
    let at = place_at-is b o (unsigned_abs (pos b +ℤ o)) n (omega (arith, ints, w.high)) in
    ap pos at ∙ sym n

pub byte_allowed : (p : Places) (r : Region) (b : ℕ) (o : ℤ) → IsValid p → HasBase p r b → is_in_extent r o ≡ true → (4096 ≤ place_at b o) × (place_at b o < 0xF0000000)
byte_allowed p r b o v h e =
    let w = v.allowed r b h in
    let (low, high) = in_extent-tells r o e in
    let at = byte_place p r b o v h e in
    (omega (arith, ints, w.low, at), omega (arith, ints, w.high, at))

-- ---- places with the same windows

-- the bases of a region that is no block are those of places with the same windows
pub window_base : (p q : Places) (r : Region) (b : ℕ) → SameWindows p q → has_one_base r ≡ true → HasBase p r b → HasBase q r b
window_base p q Stack b s e h = h ∙ sym s.stack
window_base p q Fs b s e h = h ∙ sym s.fs
window_base p q Gs b s e h = h ∙ sym s.gs
window_base p q (Block site size zeroed) b s e h = absurd (cc)

-- the bases of a region are those of places with the same windows that keep the bases of a block
pub base_kept : (p q : Places) (r : Region) (b : ℕ) → SameWindows p q → KeepsBases (block_of r) p q → HasBase p r b → HasBase q r b
base_kept p q Stack b s k h = window_base p q Stack b s refl h
base_kept p q Fs b s k h = window_base p q Fs b s refl h
base_kept p q Gs b s k h = window_base p q Gs b s refl h
base_kept p q (Block site size zeroed) b s k h = k b h
