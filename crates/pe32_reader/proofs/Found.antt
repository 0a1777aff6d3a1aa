-- What is found in one range is as long as was asked for, and lies below 2^32.
use Rattle.std.proofs.Common.{ℕ, ◌≡◌, ◌≢◌, ◌+◌, ◌-◌, ◌≤◌, Bool, true, false, List, [], ◌∷◌, length, take, drop, Option, Some, None, refl, ap, ◌∙◌, arith, All}
use Rattle.std.specs.Prelude.{◌||◌, nat_le, find}
use Rattle.std.specs.List.{list_any}
use Rattle.std.proofs.lemmas.Bool.{leb-true, and_parts}
use Rattle.std.proofs.lemmas.List.{length-take, length-drop}
use Rattle.std.proofs.lemmas.List.Elements.{All-head, All-tail}
use Rattle.memory_map.specs.Range.{Range, end_of, USER_END, IsInUserSpace}
use Rattle.memory_map.specs.Range.{holds}
use Rattle.file_pieces.specs.Found.{bytes_at}
use Rattle.file_pieces.proofs.Lookups.{held, bytes_at-found, bytes_at-none}

pub length-bytes_at : (ranges : List Range) (a n : ℕ) (bytes : List ℕ) → n ≢ 0 → Some bytes ≡ bytes_at ranges a n → length bytes ≡ n
length-bytes_at ranges a n bytes some h = by (find (holds a n) ranges) refl
  where
    by : (o : Option Range) → find (holds a n) ranges ≡ o → length bytes ≡ n
    by None e = let clash : Some bytes ≡ None = h ∙ bytes_at-none ranges a n some e in cc
    by (Some r) e =
        let is : Some bytes ≡ Some (take n (drop (a - r.low) r.bytes)) = h ∙ bytes_at-found ranges a n r some e in
        let same : bytes ≡ take n (drop (a - r.low) r.bytes) = cc in
        let inside = held ranges a n r e in
        let above = inside.above in
        let below = inside.below in
        ap length same ∙ omega (arith, length-take n (drop (a - r.low) r.bytes), length-drop (a - r.low) r.bytes, above, below)

pub in_one-below : (ranges : List Range) (a : ℕ) → All IsInUserSpace ranges → list_any (holds a 4) ranges ≡ true → a + 4 ≤ USER_END
in_one-below [] a inside h = cc
in_one-below (r ∷ rs) a inside h = by (holds a 4 r) refl h (in_one-below rs a (All-tail IsInUserSpace r rs inside))
  where
    by : (t : Bool) → holds a 4 r ≡ t → (t || list_any (holds a 4) rs) ≡ true → (list_any (holds a 4) rs ≡ true → a + 4 ≤ USER_END) → a + 4 ≤ USER_END
    by true e g rest =
        let parts = and_parts (nat_le r.low a) (nat_le (a + 4) (end_of r)) e in
        let end = leb-true (a + 4) (end_of r) parts.1 in
        let space = (All-head IsInUserSpace r rs inside).below in
        omega (arith, end, space)
    by false e g rest = rest g
