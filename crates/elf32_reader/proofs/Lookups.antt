-- How many bytes a look-up gives.
use Rattle.std.proofs.Common.{ℕ, ◌≡◌, ◌≢◌, ◌-◌, List, length, take, drop, Option, Some, None, refl, sym, ap, ◌∙◌, arith}
use Rattle.std.specs.Prelude.{find}
use Rattle.std.proofs.lemmas.List.{length-take, length-drop}
use Rattle.memory_map.specs.Range.{Range}
use Rattle.memory_map.specs.Range.{holds}
use Rattle.file_pieces.specs.Found.{bytes_at}
use Rattle.file_pieces.proofs.Lookups.{bytes_at-found, bytes_at-none, held}

pub length-bytes_at : (ranges : List Range) (a n : ℕ) (bytes : List ℕ) → n ≢ 0 → bytes_at ranges a n ≡ Some bytes → length bytes ≡ n
length-bytes_at ranges a n bytes some h = by (find (holds a n) ranges) refl
  where
    by : (o : Option Range) → find (holds a n) ranges ≡ o → length bytes ≡ n
    by None e = let clash : None ≡ Some bytes = sym (bytes_at-none ranges a n some e) ∙ h in cc
    by (Some r) e =
        let at = held ranges a n r e in
        let above = at.above in
        let below = at.below in
        let same : take n (drop (a - r.low) r.bytes) ≡ bytes = let both = sym (bytes_at-found ranges a n r some e) ∙ h in cc in
        sym (ap length same) ∙ omega (arith, length-take n (drop (a - r.low) r.bytes), length-drop (a - r.low) r.bytes, above, below)
