-- A layout's faults are those of its pieces' extents.
use Rattle.std.proofs.Common.{ℕ, zero, suc, ◌≡◌, ◌+◌, ◌-◌, ◌≤◌, Bool, true, false, cond, List, [], ◌∷◌, length, take, drop, map, Option, Some, None, refl, sym, ap, ◌∙◌, arith, inl, inr, ◌⊎◌, subst, ⊎_elim}
use Rattle.std.specs.Prelude.{◌&&◌, ◌||◌, ◌==◌, not, nat_le, nat_lt, All, replicate, filter, Result, Ok, Err, MatchResult}
use Rattle.std.specs.List.{list_all}
use Rattle.std.proofs.lemmas.Bool.{ltb-false, ne_eqb, and_parts}
use Rattle.std.proofs.lemmas.List.{length-take, length-drop, length-append, length-replicate}
use Rattle.std.proofs.lemmas.List.Sums.{sum_by-cons}
use Rattle.std.proofs.lemmas.List.Elements.{All-head, All-tail, All-filter}
use Rattle.memory_map.specs.Range.{Range, end_of, USER_LOW, USER_END}
use Rattle.memory_map.specs.Map.{map_fault, all_apart, are_apart, is_in_user_space, total_size, range_of, mapped, maps_some}
use Rattle.memory_map.specs.declared.segment.Segment.{Segment}
use Rattle.memory_map.specs.declared.fault.MapFault.{MapFault}
use Rattle.memory_map.specs.declared.fault.MapFault.TheVariants.{OutOfRange, Memory}
use Rattle.memory_map.proofs.Faults.{map_fault-outside}
use Rattle.memory_map.proofs.Lists.{all_apart-cons}
use Rattle.file_pieces.specs.Found.{passes_end}
use Rattle.file_pieces.specs.Layout.{IsPiece, HasAddress, layout, extent, range_of_piece, bytes_of, is_mapped}
use Rattle.file_pieces.specs.declared.piece.Piece.{Piece}

-- what passes a test passes it
pub list_all-filter : {X : Type 0} (p : X → Bool) (xs : List X) → list_all p (filter p xs) ≡ true
list_all-filter p [] = refl
list_all-filter {X} p (x ∷ xs) = by (p x) refl (list_all-filter p xs)
  where
    by : (t : Bool) → p x ≡ t → list_all p (filter p xs) ≡ true → list_all p (cond t (x ∷ filter p xs) (filter p xs)) ≡ true
    by true e rest = ap (λ b. b && list_all p (filter p xs)) e ∙ rest
    by false e rest = rest

-- a range of file bytes that does not pass the end
pub ends_inside : (total offset size : ℕ) → passes_end total offset size ≡ false → (size ≡ 0) ⊎ (offset + size ≤ total)
ends_inside total offset zero h = inl refl
ends_inside total offset (suc n) h = by (nat_lt total (offset + suc n)) refl
  where
    by : (t : Bool) → nat_lt total (offset + suc n) ≡ t → (suc n ≡ 0) ⊎ (offset + suc n ≤ total)
    by false e = inr (ltb-false total (offset + suc n) e)
    by true e =
        let some : (not (suc n == 0)) ≡ true = ap not (ne_eqb (suc n) 0 (λ z. omega (arith, z))) in
        let passes : passes_end total offset (suc n) ≡ true = ap (λ b. b && nat_lt total (offset + suc n)) some ∙ e in
        let clash : true ≡ false = sym passes ∙ h in cc

module _ (file : List ℕ) where
  pub length-bytes_of : (p : Piece) → IsPiece file p → length (bytes_of file p) ≡ p.size
  length-bytes_of p h =
      let within = h.within in
      let part = take (p.offset + p.file_size - p.offset) (drop p.offset file) in
      let parts = length-append part (replicate (p.size - p.file_size) 0) in
      let front = length-take (p.offset + p.file_size - p.offset) (drop p.offset file) in
      let left = length-drop p.offset file in
      let zeros = length-replicate {A = ℕ} (p.size - p.file_size) 0 in
      ⊎_elim (λ e. omega (arith, e, within, parts, front, left, zeros)) (λ e. omega (arith, e, within, parts, front, left, zeros)) (ends_inside (length file) p.offset p.file_size h.inside)

  same_length : (p : Piece) → IsPiece file p → length (bytes_of file p) ≡ length {A = ℕ} (replicate p.size 0)
  same_length p h = length-bytes_of p h ∙ sym (length-replicate {A = ℕ} p.size 0)

  same_end : (p : Piece) → IsPiece file p → end_of (range_of_piece file p) ≡ end_of (extent p)
  same_end p h = ap (λ n. p.address + n) (same_length p h)

  same_inside : (ps : List Piece) → All (IsPiece file) ps → list_all is_in_user_space (map (range_of_piece file) ps) ≡ list_all is_in_user_space (map extent ps)
  same_inside [] h = refl
  same_inside (p ∷ ps) h =
      ap (λ e. (nat_le USER_LOW p.address && nat_le e USER_END) && list_all is_in_user_space (map (range_of_piece file) ps)) (same_end p (All-head (IsPiece file) p ps h))
      ∙ ap (λ b. is_in_user_space (extent p) && b) (same_inside ps (All-tail (IsPiece file) p ps h))

  same_apart : (p : Piece) (ps : List Piece) → IsPiece file p → All (IsPiece file) ps → list_all (are_apart (range_of_piece file p)) (map (range_of_piece file) ps) ≡ list_all (are_apart (extent p)) (map extent ps)
  same_apart p [] f h = refl
  same_apart p (q ∷ qs) f h =
      let rest = list_all (are_apart (range_of_piece file p)) (map (range_of_piece file) qs) in
      ap (λ e. (nat_le e q.address || nat_le (end_of (range_of_piece file q)) p.address) && rest) (same_end p f)
      ∙ ap (λ e. (nat_le (end_of (extent p)) q.address || nat_le e p.address) && rest) (same_end q (All-head (IsPiece file) q qs h))
      ∙ ap (λ b. are_apart (extent p) (extent q) && b) (same_apart p qs f (All-tail (IsPiece file) q qs h))

  same_all_apart : (ps : List Piece) → All (IsPiece file) ps → all_apart (map (range_of_piece file) ps) ≡ all_apart (map extent ps)
  same_all_apart [] h = refl
  same_all_apart (p ∷ ps) h =
      all_apart-cons (range_of_piece file p) (map (range_of_piece file) ps)
      ∙ ap (λ b. b && all_apart (map (range_of_piece file) ps)) (same_apart p ps (All-head (IsPiece file) p ps h) (All-tail (IsPiece file) p ps h))
      ∙ ap (λ b. list_all (are_apart (extent p)) (map extent ps) && b) (same_all_apart ps (All-tail (IsPiece file) p ps h))
      ∙ sym (all_apart-cons (extent p) (map extent ps))

  same_total : (ps : List Piece) → All (IsPiece file) ps → total_size (map (range_of_piece file) ps) ≡ total_size (map extent ps)
  same_total [] h = refl
  same_total (p ∷ ps) h =
      let rest = same_total ps (All-tail (IsPiece file) p ps h) in
      let here = same_length p (All-head (IsPiece file) p ps h) in
      sum_by-cons (λ (r : Range). length r.bytes) (range_of_piece file p) (map (range_of_piece file) ps)
      ∙ ap (λ n. n + total_size (map (range_of_piece file) ps)) here
      ∙ ap (λ n. length {A = ℕ} (replicate p.size 0) + n) rest
      ∙ sym (sum_by-cons (λ (r : Range). length r.bytes) (extent p) (map extent ps))

  pub map_fault-extents : (ps : List Piece) → All (IsPiece file) ps → map_fault (map (range_of_piece file) ps) ≡ map_fault (map extent ps)
  unfolding map_fault
  map_fault-extents ps h =
      let inside = same_inside ps h in
      let apart = same_all_apart ps h in
      let total = same_total ps h in
      rw (inside, apart, total) refl

  -- segments of pieces that are not empty are all mapped
  pub mapped-all : (segments : List Segment) (ps : List Piece) → map range_of segments ≡ map (range_of_piece file) ps → All (IsPiece file) ps → list_all is_mapped ps ≡ true → mapped segments ≡ segments
  mapped-all [] ps e h some = refl
  mapped-all (s ∷ ss) [] e h some = cc
  mapped-all (s ∷ ss) (p ∷ ps) e h some =
      let first : range_of s ≡ range_of_piece file p = cc in
      let rest : map range_of ss ≡ map (range_of_piece file) ps = cc in
      let parts = and_parts (is_mapped p) (list_all is_mapped ps) some in
      let size : length s.bytes ≡ p.size = ap (λ (r : Range). length r.bytes) first ∙ length-bytes_of p (All-head (IsPiece file) p ps h) in
      let here : maps_some s ≡ true = ap (λ n. not (n == 0)) size ∙ parts.0 in
      ap (λ b. cond b (s ∷ mapped ss) (mapped ss)) here
      ∙ ap (λ (l : List Segment). s ∷ l) (mapped-all ss ps rest (All-tail (IsPiece file) p ps h) parts.1)

pub inside-no_fault : (rs : List Range) → map_fault rs ≡ None → list_all is_in_user_space rs ≡ true
inside-no_fault rs h = by (list_all is_in_user_space rs) refl
  where
    by : (t : Bool) → list_all is_in_user_space rs ≡ t → t ≡ true
    by true e = refl
    by false e = let clash : Some OutOfRange ≡ None = sym (map_fault-outside rs e) ∙ h in cc

pub addresses : (file : List ℕ) (ps : List Piece) → All (IsPiece file) ps → All HasAddress ps
addresses file ps h = λ k d lt. record { address = (h k d lt).address }

module _ (file : List ℕ) (items ps : List Piece) (kept : ps ≡ filter is_mapped items) (all : All (IsPiece file) items) where
  pub kept_pieces : All (IsPiece file) ps
  kept_pieces = let P : List Piece → Type 0 = λ (l : List Piece). All (IsPiece file) l in subst P (sym kept) (All-filter is_mapped (IsPiece file) items all)

  same_fault : map_fault (layout file items) ≡ map_fault (map extent ps)
  same_fault = ap (λ (l : List Piece). map_fault (map (range_of_piece file) l)) (sym kept) ∙ map_fault-extents file ps kept_pieces

  pub refused : (o : Option MapFault) (e : MapFault) → o ≡ map_fault (map extent ps) → o ≡ Some e → map_fault (layout file items) ≡ Some e
  refused o e h k = same_fault ∙ sym h ∙ k

  -- what mapping the segments of the pieces answers, said of the layout
  pub answered : (segments : List Segment) (r : Result (List Segment) MapFault) → map range_of segments ≡ map (range_of_piece file) ps → map_fault (map extent ps) ≡ None
      → MatchResult r (λ s. (s ≡ mapped segments) × (map_fault (map range_of (mapped segments)) ≡ None)) (λ e. (e ≡ Memory) ⊎ (map_fault (map range_of (mapped segments)) ≡ Some e))
      → MatchResult r (λ s. (map range_of s ≡ layout file items) × (map_fault (layout file items) ≡ None)) (λ e. (e ≡ Memory) ⊎ (map_fault (layout file items) ≡ Some e))
  answered segments r same none = by r
    where
      some : list_all is_mapped ps ≡ true
      some = ap (list_all is_mapped) kept ∙ list_all-filter is_mapped items

      laid : map range_of (mapped segments) ≡ layout file items
      laid = ap (map range_of) (mapped-all file segments ps same kept_pieces some) ∙ same ∙ ap (map (range_of_piece file)) kept

      by : (r : Result (List Segment) MapFault) → MatchResult r (λ s. (s ≡ mapped segments) × (map_fault (map range_of (mapped segments)) ≡ None)) (λ e. (e ≡ Memory) ⊎ (map_fault (map range_of (mapped segments)) ≡ Some e)) → MatchResult r (λ s. (map range_of s ≡ layout file items) × (map_fault (layout file items) ≡ None)) (λ e. (e ≡ Memory) ⊎ (map_fault (layout file items) ≡ Some e))
      by (Ok s) h = (ap (map range_of) h.0 ∙ laid, same_fault ∙ none)
      by (Err e) (inl h) = inl h
      by (Err e) (inr h) = inr (ap map_fault (sym laid) ∙ h)
