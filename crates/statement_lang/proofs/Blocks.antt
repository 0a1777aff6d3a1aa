-- What a list of ranges lets write, by its first range and the others.
use Rattle.std.proofs.Common.{ℕ, ◌≡◌, ◌-◌, ◌<◌, ◌≤◌, Bool, true, false, cond, List, [], ◌∷◌, refl, ap, ◌∙◌, length, arith}
use Rattle.std.specs.Prelude.{slice_get, is_some, filter, nat_le, nat_lt, ◌&&◌}
use Rattle.std.proofs.lemmas.Bool.{leb-true, ltb-true, and_parts}
use Rattle.std.proofs.lemmas.Option.{slice_get-get_or}
use Rattle.memory_map.specs.Range.{Range, byte_at, may_write, has, end_of}
use Rattle.memory_map.proofs.Lists.{byte_at-here, byte_at-there}

get-within : (xs : List ℕ) (i : ℕ) → i < length xs → is_some (slice_get xs i) ≡ true
get-within xs i h = ap is_some (slice_get-get_or xs i 0 h)

may_write-here : (r : Range) (rs : List Range) (a : ℕ) → r.write ≡ true → has a r ≡ true → may_write (r ∷ rs) a ≡ true
unfolding may_write
may_write-here r rs a w h =
    let parts = and_parts (nat_le r.low a) (nat_lt a (end_of r)) h in
    let low : r.low ≤ a = leb-true r.low a parts.0 in
    let high : a < end_of r = ltb-true a (end_of r) parts.1 in
    ap (λ b. is_some (byte_at (cond b (r ∷ filter (λ (s : Range). s.write) rs) (filter (λ (s : Range). s.write) rs)) a)) w
    ∙ ap is_some (byte_at-here r (filter (λ (s : Range). s.write) rs) a h)
    ∙ get-within r.bytes (a - r.low) (omega arith)

may_write-not_here : (r : Range) (rs : List Range) (a : ℕ) → has a r ≡ false → may_write (r ∷ rs) a ≡ may_write rs a
unfolding may_write
may_write-not_here r rs a h =
    elim r.write as (λ b. is_some (byte_at (cond b (r ∷ filter (λ (s : Range). s.write) rs) (filter (λ (s : Range). s.write) rs)) a) ≡ is_some (byte_at (filter (λ (s : Range). s.write) rs) a)) [
      | true ↦ ap is_some (byte_at-there r (filter (λ (s : Range). s.write) rs) a h)
      | false ↦ refl
    ]

may_write-not_writable : (r : Range) (rs : List Range) (a : ℕ) → r.write ≡ false → may_write (r ∷ rs) a ≡ may_write rs a
unfolding may_write
may_write-not_writable r rs a w =
    ap (λ b. is_some (byte_at (cond b (r ∷ filter (λ (s : Range). s.write) rs) (filter (λ (s : Range). s.write) rs)) a)) w

pub may_write-none : (a : ℕ) → may_write [] a ≡ false
unfolding may_write byte_at
may_write-none a = refl

-- the first range has such a byte, or it has none
pub may_write-found : (r : Range) (rs : List Range) (a : ℕ) → (r.write && has a r) ≡ true → may_write (r ∷ rs) a ≡ true
may_write-found r rs a h = (let parts = and_parts r.write (has a r) h in may_write-here r rs a parts.0 parts.1)

passed-by : (r : Range) (rs : List Range) (a : ℕ) (b : Bool) → r.write ≡ b → (b && has a r) ≡ false → may_write (r ∷ rs) a ≡ may_write rs a
passed-by r rs a true w h = may_write-not_here r rs a h
passed-by r rs a false w h = may_write-not_writable r rs a w

pub may_write-passed : (r : Range) (rs : List Range) (a : ℕ) → (r.write && has a r) ≡ false → may_write (r ∷ rs) a ≡ may_write rs a
may_write-passed r rs a h = passed-by r rs a r.write refl h
