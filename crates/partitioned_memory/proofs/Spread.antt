-- Windows and blocks that lie apart share no address.
use Rattle.std.proofs.Common.{◌≡◌, ℕ, ◌^◌, ◌<◌, ◌≤◌, true, List, [], ◌∷◌, All, refl, sym, ap, ◌∙◌, arith, ℤ, pos, negsuc, ◌+ℤ◌, ◌≤ℤ◌, inl, inr}
use Rattle.std.specs.Prelude.{◌⊎◌, is_some, nat_le, nat_lt}
use Rattle.std.proofs.lemmas.Bool.{false≢true, and_parts, leb-true, ltb-true, cases_Bool}
use Rattle.std.proofs.lemmas.Int.{ints}
use Rattle.std.proofs.lemmas.List.Elements.{All-head, All-tail}
use Rattle.memory_map.specs.Range.{IsInUserSpace, Range, byte_at, end_of, has}
use Rattle.memory_map.proofs.Lists.{byte_at-none, byte_at-there}
use Rattle.address_regions.specs.declared.region.Region.{Region}
use Rattle.address_regions.specs.Extents.{high_of, is_in_extent, low_of}
use Rattle.address_regions.specs.Places.{HasBase, IsValid, Places, place_at}
use Rattle.address_regions.proofs.PlaceLaws.{place_at-is}
use Rattle.address_regions.proofs.RegionLaws.{byte_place, in_extent-tells}
use Rattle.partitioned_memory.specs.declared.area.Area.{Area}
use Rattle.partitioned_memory.specs.declared.area.Area.TheVariants.{Image, In}
use Rattle.partitioned_memory.specs.Describes.{IsApart, IsSpread, StartsAt, is_byte_of, is_image_byte}

-- a segment that has an address
record IsHeld (P : Range → Type 0) (a : ℕ) : Type 0 where
  pub segment : Range
  pub holds : P segment
  pub low : segment.low ≤ a
  pub end : a < end_of segment

held-in : (P : Range → Type 0) (ranges : List Range) (a : ℕ) → is_some (byte_at ranges a) ≡ true → All P ranges → IsHeld P a
held-in P [] a e h = absurd (false≢true (sym (ap is_some (byte_at-none a)) ∙ e))
held-in P (t ∷ ts) a e h =
    elim (cases_Bool (has a t)) [
      | inl k ↦
          let parts = and_parts (nat_le t.low a) (nat_lt a (end_of t)) k in
          record { segment = t; holds = All-head P t ts h; low = leb-true t.low a parts.0; end = ltb-true a (end_of t) parts.1 }
      | inr k ↦ held-in P ts a (sym (ap is_some (byte_at-there t ts a k)) ∙ e) (All-tail P t ts h)
    ]

-- an offset of the image is an address below the end of what may be mapped
record IsAddress (o : ℤ) (a : ℕ) : Type 0 where
  pub is : o ≡ pos a
  pub below : a < 2 ^ 32

image-address : (ranges : List Range) (o : ℤ) → is_image_byte ranges o ≡ true → All IsInUserSpace ranges → (a : ℕ) × IsAddress o a × (is_some (byte_at ranges a) ≡ true)
image-address ranges (pos a) e h =
    let t = held-in IsInUserSpace ranges a e h in
    (a, record { is = refl; below = omega (arith, t.holds.below, t.end) }, e)
image-address ranges (negsuc a) e h = absurd (false≢true e)

-- its place is itself
image-place : (base : ℕ) (o : ℤ) (a : ℕ) → base ≡ 0 → IsAddress o a → place_at base o ≡ a
image-place base o a z h =
    let sum : pos base +ℤ o ≡ pos a = omega (arith, ints, z, h.is) in
    place_at-is base o a sum h.below

-- an address of the image is none of a window's or a block's
image-window : (ranges : List Range) (p : Places) (s : Region) (base other : ℕ) (o q : ℤ) → IsValid p → All IsInUserSpace ranges → IsSpread ranges p → base ≡ 0 → HasBase p s other → is_image_byte ranges o ≡ true → is_in_extent s q ≡ true → place_at base o ≡ place_at other q → ⊥
image-window ranges p s base other o q valid inside spread z has_base e f same =
    let (a, address, some) = image-address ranges o e inside in
    let at : place_at base o ≡ a = image-place base o a z address in
    let byte = byte_place p s other q valid has_base f in
    let tells = in_extent-tells s q f in
    let Off : Range → Type 0 = λ t. (r : Region) (x : ℕ) → HasBase p r x → (pos (end_of t) ≤ℤ (pos x +ℤ low_of r)) ⊎ ((pos x +ℤ high_of r) ≤ℤ pos t.low) in
    let t = held-in Off ranges a some spread.segments in
    elim (t.holds s other has_base) [
      | inl k ↦ omega (arith, ints, k, byte, tells.0, at, same, t.end)
      | inr k ↦ omega (arith, ints, k, byte, tells.1, at, same, t.low)
    ]

window-window : (p : Places) (ranges : List Range) (r s : Region) (base other : ℕ) (o q : ℤ) → IsValid p → IsSpread ranges p → HasBase p r base → HasBase p s other → is_in_extent r o ≡ true → is_in_extent s q ≡ true → place_at base o ≡ place_at other q → (In r ≡ In s) × (base ≡ other) × (o ≡ q)
window-window p ranges r s base other o q valid spread k l e f same =
    let first = byte_place p r base o valid k e in
    let second = byte_place p s other q valid l f in
    let in_first = in_extent-tells r o e in
    let in_second = in_extent-tells s q f in
    elim (spread.windows r s base other k l) [
      | inl one ↦ (ap In one.0, one.1, omega (arith, ints, first, second, one.1, same))
      | inr apart ↦ elim apart [
        | inl x ↦ absurd (omega (arith, ints, x, first, second, same, in_first.1, in_second.0))
        | inr x ↦ absurd (omega (arith, ints, x, first, second, same, in_second.1, in_first.0))
      ]
    ]

image-image : (ranges : List Range) (base other : ℕ) (o q : ℤ) → All IsInUserSpace ranges → base ≡ 0 → other ≡ 0 → is_image_byte ranges o ≡ true → is_image_byte ranges q ≡ true → place_at base o ≡ place_at other q → o ≡ q
image-image ranges base other o q inside z y e f same =
    let (a, first, _) = image-address ranges o e inside in
    let (b, second, _) = image-address ranges q f inside in
    let x : a ≡ b = sym (image-place base o a z first) ∙ same ∙ image-place other q b y second in
    first.is ∙ ap pos x ∙ sym second.is

one-byte : (ranges : List Range) (p : Places) → IsValid p → All IsInUserSpace ranges → IsSpread ranges p → (a c : Area) (o q : ℤ) (base other : ℕ) → StartsAt p a base → StartsAt p c other → is_byte_of ranges a o ≡ true → is_byte_of ranges c q ≡ true → place_at base o ≡ place_at other q → (a ≡ c) × (base ≡ other) × (o ≡ q)
one-byte ranges p valid inside spread Image Image o q base other s t e f same = (refl, s ∙ sym t, image-image ranges base other o q inside s t e f same)
one-byte ranges p valid inside spread Image (In k) o q base other s t e f same = absurd (image-window ranges p k base other o q valid inside spread s t e f same)
one-byte ranges p valid inside spread (In r) Image o q base other s t e f same = absurd (image-window ranges p r other base q o valid inside spread t s f e (sym same))
one-byte ranges p valid inside spread (In r) (In k) o q base other s t e f same = window-window p ranges r k base other o q valid spread s t e f same

pub spread-apart : (ranges : List Range) (p : Places) → IsValid p → All IsInUserSpace ranges → IsSpread ranges p → IsApart ranges p
spread-apart ranges p valid inside spread = record { one = one-byte ranges p valid inside spread }
