-- Numbers and writes of memory, as the machine has them and as the parts tell them.
use Rattle.std.proofs.Common.{◌≡◌, ℕ, ◌+◌, ◌^◌, ◌<◌, ◌≤◌, Bool, true, List, ap, ◌∙◌, arith, ℤ, pos, negsuc, ◌+ℤ◌, ◌≤ℤ◌, ◌<ℤ◌}
use Rattle.std.specs.Prelude.{is_some, unwrap_or, int_le, int_lt}
use Rattle.std.proofs.Math.Nat.{mod-eq_of_lt}
use Rattle.std.proofs.lemmas.Bool.{and_from}
use Rattle.std.proofs.lemmas.Int.{ints}
use Rattle.bit_words.specs.declared.width.Width.{Width}
use Rattle.bit_words.specs.declared.width.Width.TheVariants.{B8, B16, B32}
use Rattle.bit_words.specs.Width.{bytes_of}
use Rattle.memory_map.specs.Range.{Range, byte_at, maps_all}
use Rattle.memory_map.specs.State.{MachineState}
use Rattle.memory_map.proofs.RunBytes.{all_in_range}
use Rattle.x86_semantics.proofs.Storing.{IsStored, number_from}
use Rattle.address_regions.specs.declared.region.Region.{Region}
use Rattle.address_regions.specs.Extents.{low_of, high_of, is_in_extent}
use Rattle.address_regions.specs.Places.{place_at}
use Rattle.address_regions.proofs.PlaceLaws.{place_at-add}
use Rattle.partitioned_memory.specs.declared.area.Area.TheVariants.{Image, In}
use Rattle.partitioned_memory.specs.Areas.{interval_at, interval_between}
use Rattle.partitioned_memory.specs.Describes.{AreBytes, IsWritten, is_image_byte, number_in}
use Rattle.partitioned_memory.proofs.Bytes.{byte-is}
use Rattle.partitioned_memory.proofs.Orders.{int_le-from, int_lt-from}
use Rattle.abstract_state.specs.Describes.{byte_in}

-- ---- numbers

-- where addresses do not go past the last one, a later byte's place is that much later
pub place-later : (base : ℕ) (o : ℤ) (i : ℕ) → place_at base o + i < 2 ^ 32 → place_at base (o +ℤ pos i) ≡ place_at base o + i
place-later base o i h = place_at-add base i o ∙ mod-eq_of_lt h

pub number_in-is : (b : ℕ → ℕ) (base : ℕ) (o : ℤ) (w : Width) → place_at base o + bytes_of w ≤ 2 ^ 32 → number_in b base o w ≡ number_from b (bytes_of w) (place_at base o)
number_in-is b base o B8 h = omega arith
number_in-is b base o B16 h =
    let e = ap b (place-later base o 1 (omega (arith, h))) in
    omega (arith, e)
number_in-is b base o B32 h =
    let a = place_at base o in
    let first = ap b (place-later base o 1 (omega (arith, h))) in
    let two = place-later base o 2 (omega (arith, h)) in
    let second : b (place_at base (o +ℤ pos 2)) ≡ b (a + 1 + 1) = ap b (omega (arith, two)) in
    let three = place-later base (o +ℤ pos 2) 1 (omega (arith, two, h)) in
    let third : b (place_at base (o +ℤ pos 2 +ℤ pos 1)) ≡ b (a + 1 + 1 + 1) = ap b (omega (arith, two, three)) in
    omega (arith, first, second, third)

-- ---- writes

-- a byte that is stored is one of a test's
pub record IsStoredIn (base : ℕ) (test : ℤ → Bool) (c : ℕ) : Type 0 where
  pub offset : ℤ
  pub passes : test offset ≡ true
  pub place : c ≡ place_at base offset

pub written-in : (base : ℕ) (test : ℤ → Bool) (count a v : ℕ) (m n : MachineState) → IsStored count a v m n → ((i : ℕ) → i < count → IsStoredIn base test (a + i)) → IsWritten base test (byte_in m) (byte_in n)
written-in base test count a v m n s lies c off =
    ap (λ o. unwrap_or o 0) (s.others c (λ i l q. let x = lies i l in off x.offset x.passes (q ∙ x.place)))

-- ---- bytes of areas

image-byte : (ranges : List Range) (a n : ℕ) (o : ℤ) → maps_all ranges a n ≡ true → pos a ≤ℤ o → o <ℤ (pos a +ℤ pos n) → is_image_byte ranges o ≡ true
image-byte ranges a n (pos c) e low high = all_in_range (λ b. is_some (byte_at ranges b)) a n c e (omega (arith, ints, low)) (omega (arith, ints, high))
image-byte ranges a n (negsuc c) e low high = absurd (omega (arith, ints, low))

pub image-bytes : (ranges : List Range) (a n : ℕ) → maps_all ranges a n ≡ true → AreBytes ranges (interval_at Image (pos a) (pos n))
image-bytes ranges a n e = record {
  each = λ o h. let i = byte-is (interval_at Image (pos a) (pos n)) Image o h in image-byte ranges a n o e i.low i.high;
}

pub extent-from : (r : Region) (o : ℤ) → low_of r ≤ℤ o → o <ℤ high_of r → is_in_extent r o ≡ true
extent-from r o low high = and_from (int_le (low_of r) o) (int_lt o (high_of r)) (int_le-from (low_of r) o low) (int_lt-from o (high_of r) high)

pub region-bytes : (ranges : List Range) (r : Region) (low end : ℤ) → low_of r ≤ℤ low → end ≤ℤ high_of r → AreBytes ranges (interval_between (In r) low end)
region-bytes ranges r low end l h = record {
  each = λ o e. let i = byte-is (interval_between (In r) low end) (In r) o e in extent-from r o (omega (arith, ints, l, i.low)) (omega (arith, ints, h, i.high));
}
