-- Ordered sets: sorting a list and dropping repeats gives them, and they have the members of the list.
use Rattle.std.proofs.Common.{◌≡◌, ◌⊎◌, Bool, true, List, [], ◌∷◌, refl, sym, ◌∙◌, ap, subst, inl, inr}
use Rattle.std.specs.Prelude.{Contains, fold}
use Rattle.std.specs.List.{AllByRecursion}
use Rattle.std.specs.List.Sorted.{IsStrictlySortedBy, IsPermutation, IsSorted}
use Rattle.std.specs.List.{dedup}
use Rattle.std.specs.Ordering.{eq_by_cmp, is_eq}
use Rattle.std.proofs.lemmas.List.Sorted.{Contains-permutation, IsPermutation-sym}
use Rattle.std.proofs.lemmas.List.Kept.{Contains-dedup, Contains-from_dedup, IsStrictlySortedBy-dedup}
use Rattle.std.specs.Cmp.{IsTotalOrder, IsEquivalence}
use Rattle.std.specs.declared.cmp.Ordering.{Ordering}
use Rattle.std.specs.declared.cmp.Ordering.TheVariants.{Less, Equal, Greater}
use Rattle.std.specs.Ordering.{ordering_reverse}
use Rattle.flow_log.specs.Ordered.{insert_once, by_order, ordered_set, IsExact}
use Rattle.flow_log.proofs.Members.{Contains-here, Contains-later, Contains-cases, Contains-none}

module _ {X : Type 0} (cmp : X → X → Ordering) (total : IsTotalOrder cmp) (exact : IsExact cmp) where
  -- below each member
  abbrev pub Below : X → List X → Type 0
  Below x xs = AllByRecursion (λ y. cmp x y ≡ Less) xs

  turned : (x y : X) → cmp x y ≡ Greater → cmp y x ≡ Less
  turned x y h = total.antisymm y x ∙ ap ordering_reverse h

  not_below_itself : (x : X) → cmp x x ≡ Less → ⊥
  not_below_itself x h = let e : cmp x x ≡ Greater = total.antisymm x x ∙ ap ordering_reverse h in cc

  not_both_below : (x y : X) → cmp x y ≡ Less → cmp y x ≡ Less → ⊥
  not_both_below x y h k = not_below_itself x (total.trans x y x h k)

  below_more : (x y : X) (ys : List X) → cmp x y ≡ Less → Below y ys → Below x ys
  below_more x y [] h below = tt
  below_more x y (z ∷ ys) h (first, rest) = (total.trans x y z h first, below_more x y ys h rest)

  below_member : (x z : X) (xs : List X) → Below x xs → Contains xs z → cmp x z ≡ Less
  below_member x z [] below held = absurd (Contains-none z held)
  below_member x z (y ∷ xs) (first, rest) held =
      elim (Contains-cases y z xs held) [ inl e ↦ ap (cmp x) (sym e) ∙ first | inr h ↦ below_member x z xs rest h ]

  inserted_by : (y x z : X) (ys rest : List X) (r : Ordering) → cmp y x ≡ Less → cmp y z ≡ Less → Below y ys → Below y rest
      → Below y (by_order cmp r (x ∷ z ∷ ys) (z ∷ ys) (z ∷ rest))
  inserted_by y x z ys rest Less h first below more = (h, (first, below))
  inserted_by y x z ys rest Equal h first below more = (first, below)
  inserted_by y x z ys rest Greater h first below more = (first, more)

  below_inserted : (y x : X) (ys : List X) → cmp y x ≡ Less → Below y ys → Below y (insert_once cmp x ys)
  below_inserted y x [] h below = (h, tt)
  below_inserted y x (z ∷ ys) h (first, rest) = inserted_by y x z ys (insert_once cmp x ys) (cmp x z) h first rest (below_inserted y x ys h rest)

  sorted_by : (x z : X) (ys rest : List X) (r : Ordering) → cmp x z ≡ r → Below z ys → IsStrictlySortedBy cmp ys
      → (cmp z x ≡ Less → Below z rest) → IsStrictlySortedBy cmp rest
      → IsStrictlySortedBy cmp (by_order cmp r (x ∷ z ∷ ys) (z ∷ ys) (z ∷ rest))
  unfolding IsStrictlySortedBy
  sorted_by x z ys rest Less is below sorted above more = ((is, below_more x z ys is below), (below, sorted))
  sorted_by x z ys rest Equal is below sorted above more = (below, sorted)
  sorted_by x z ys rest Greater is below sorted above more = (above (turned x z is), more)

  sorted_inserted : (x : X) (ys : List X) → IsStrictlySortedBy cmp ys → IsStrictlySortedBy cmp (insert_once cmp x ys)
  unfolding IsStrictlySortedBy
  sorted_inserted x [] sorted = (tt, tt)
  sorted_inserted x (z ∷ ys) (below, sorted) =
      sorted_by x z ys (insert_once cmp x ys) (cmp x z) refl below sorted (λ h. below_inserted z x ys h below) (sorted_inserted x ys sorted)

  member_by : (x z w : X) (ys rest : List X) (r : Ordering) → cmp x z ≡ r → ((x ≡ w) ⊎ Contains ys w → Contains rest w)
      → (x ≡ w) ⊎ Contains (z ∷ ys) w → Contains (by_order cmp r (x ∷ z ∷ ys) (z ∷ ys) (z ∷ rest)) w
  member_by x z w ys rest Less is later (inl e) = let P : X → Type 0 = λ v. Contains (v ∷ z ∷ ys) w in subst P (sym e) (Contains-here w (z ∷ ys))
  member_by x z w ys rest Less is later (inr h) = Contains-later x w (z ∷ ys) h
  member_by x z w ys rest Equal is later (inl e) = let P : X → Type 0 = λ v. Contains (v ∷ ys) w in subst P (sym (sym (exact.same x z is) ∙ e)) (Contains-here w ys)
  member_by x z w ys rest Equal is later (inr h) = h
  member_by x z w ys rest Greater is later (inl e) = Contains-later z w rest (later (inl e))
  member_by x z w ys rest Greater is later (inr h) =
      elim (Contains-cases z w ys h)
      [ inl e ↦ (let P : X → Type 0 = λ v. Contains (v ∷ rest) w in subst P (sym e) (Contains-here w rest)) | inr l ↦ Contains-later z w rest (later (inr l)) ]

  member_inserted : (x w : X) (ys : List X) → (x ≡ w) ⊎ Contains ys w → Contains (insert_once cmp x ys) w
  member_inserted x w [] (inl e) = let P : X → Type 0 = λ v. Contains (v ∷ []) w in subst P (sym e) (Contains-here w [])
  member_inserted x w [] (inr h) = absurd (Contains-none w h)
  member_inserted x w (z ∷ ys) held = member_by x z w ys (insert_once cmp x ys) (cmp x z) refl (λ h. member_inserted x w ys h) held

  from_by : (x z w : X) (ys rest : List X) (r : Ordering) → (Contains rest w → (x ≡ w) ⊎ Contains ys w)
      → Contains (by_order cmp r (x ∷ z ∷ ys) (z ∷ ys) (z ∷ rest)) w → (x ≡ w) ⊎ Contains (z ∷ ys) w
  from_by x z w ys rest Less later held = Contains-cases x w (z ∷ ys) held
  from_by x z w ys rest Equal later held = inr held
  from_by x z w ys rest Greater later held =
      elim (Contains-cases z w rest held) [
        | inl e ↦ (let P : X → Type 0 = λ v. Contains (v ∷ ys) w in inr (subst P (sym e) (Contains-here w ys)))
        | inr h ↦ elim (later h) [ inl e ↦ inl e | inr l ↦ inr (Contains-later z w ys l) ]
      ]

  from_inserted : (x w : X) (ys : List X) → Contains (insert_once cmp x ys) w → (x ≡ w) ⊎ Contains ys w
  from_inserted x w [] held = Contains-cases x w [] held
  from_inserted x w (z ∷ ys) held = from_by x z w ys (insert_once cmp x ys) (cmp x z) (λ h. from_inserted x w ys h) held

  -- a list in order with the members of another
  pub record IsSetOf (items set : List X) : Type 0 where
    pub sorted : IsStrictlySortedBy cmp set
    pub kept : (x : X) → Contains items x → Contains set x
    pub only : (x : X) → Contains set x → Contains items x

  -- the same while a list is inserted into a set
  folded : (xs set : List X) → IsStrictlySortedBy cmp set → IsStrictlySortedBy cmp (fold (λ s x. insert_once cmp x s) set xs)
  folded [] set sorted = sorted
  folded (x ∷ xs) set sorted = folded xs (insert_once cmp x set) (sorted_inserted x set sorted)

  folded_kept : (xs set : List X) (w : X) → Contains xs w ⊎ Contains set w → Contains (fold (λ s x. insert_once cmp x s) set xs) w
  folded_kept [] set w (inl h) = absurd (Contains-none w h)
  folded_kept [] set w (inr h) = h
  folded_kept (x ∷ xs) set w (inr h) = folded_kept xs (insert_once cmp x set) w (inr (member_inserted x w set (inr h)))
  folded_kept (x ∷ xs) set w (inl h) =
      elim (Contains-cases x w xs h)
      [ inl e ↦ folded_kept xs (insert_once cmp x set) w (inr (member_inserted x w set (inl e))) | inr l ↦ folded_kept xs (insert_once cmp x set) w (inl l) ]

  folded_only : (xs set : List X) (w : X) → Contains (fold (λ s x. insert_once cmp x s) set xs) w → Contains xs w ⊎ Contains set w
  folded_only [] set w h = inr h
  folded_only (x ∷ xs) set w h =
      elim (folded_only xs (insert_once cmp x set) w h) [
        | inl l ↦ inl (Contains-later x w xs l)
        | inr s ↦ elim (from_inserted x w set s)
            [ inl e ↦ (let P : X → Type 0 = λ v. Contains (v ∷ xs) w in inl (subst P (sym e) (Contains-here w xs))) | inr k ↦ inr k ]
      ]

  pub ordered_set-is : (xs : List X) → IsSetOf xs (ordered_set cmp xs)
  unfolding ordered_set IsStrictlySortedBy
  ordered_set-is xs = record {
    sorted = folded xs [] tt;
    kept = λ x held. folded_kept xs [] x (inl held);
    only = λ x held. elim (folded_only xs [] x held) [ inl h ↦ h | inr n ↦ absurd (Contains-none x n) ];
  }

  -- two strictly sorted lists with the same members begin alike
  same_first : (x y : X) (xs ys : List X) (r : Ordering) → cmp x y ≡ r → Below x xs → Below y ys
      → Contains (y ∷ ys) x → Contains (x ∷ xs) y → x ≡ y
  same_first x y xs ys Equal is below below' held held' = exact.same x y is
  same_first x y xs ys Less is below below' held held' =
      elim (Contains-cases y x ys held) [ inl e ↦ sym e | inr h ↦ absurd (not_both_below x y is (below_member y x ys below' h)) ]
  same_first x y xs ys Greater is below below' held held' =
      elim (Contains-cases x y xs held') [ inl e ↦ e | inr h ↦ absurd (not_both_below y x (turned x y is) (below_member x y xs below h)) ]

  -- a member of the rest of one is in the rest of the other
  in_rest : (x z : X) (xs ys : List X) → Below x xs → Contains xs z → Contains (x ∷ ys) z → Contains ys z
  in_rest x z xs ys below held both =
      elim (Contains-cases x z ys both)
      [ inl e ↦ absurd (not_below_itself x (ap (cmp x) e ∙ below_member x z xs below held)) | inr h ↦ h ]

  pub one_set : (xs ys : List X) → IsStrictlySortedBy cmp xs → IsStrictlySortedBy cmp ys
      → ((z : X) → Contains xs z → Contains ys z) → ((z : X) → Contains ys z → Contains xs z) → xs ≡ ys
  unfolding IsStrictlySortedBy
  one_set [] [] sorted sorted' there back = refl
  one_set [] (y ∷ ys) sorted sorted' there back = absurd (Contains-none y (back y (Contains-here y ys)))
  one_set (x ∷ xs) [] sorted sorted' there back = absurd (Contains-none x (there x (Contains-here x xs)))
  one_set (x ∷ xs) (y ∷ ys) (below, sorted) (below', sorted') there back =
      let e : x ≡ y = same_first x y xs ys (cmp x y) refl below below' (there x (Contains-here x xs)) (back y (Contains-here y ys)) in
      let there' : (z : X) → Contains xs z → Contains ys z =
      λ z held. in_rest x z xs ys below held (let P : X → Type 0 = λ v. Contains (v ∷ ys) z in subst P (sym e) (there z (Contains-later x z xs held))) in
      let back' : (z : X) → Contains ys z → Contains xs z =
      λ z held. in_rest y z ys xs below' held (let P : X → Type 0 = λ v. Contains (v ∷ xs) z in subst P e (back z (Contains-later y z ys held))) in
      ap (λ v. v ∷ xs) e ∙ ap (λ us. y ∷ us) (one_set xs ys sorted sorted' there' back')

  pub set_is_ordered : (items set : List X) → IsSetOf items set → set ≡ ordered_set cmp items
  set_is_ordered items set is =
      let ordered : IsSetOf items (ordered_set cmp items) = ordered_set-is items in
      one_set set (ordered_set cmp items) is.sorted ordered.sorted (λ z h. ordered.kept z (is.only z h)) (λ z h. is.kept z (ordered.only z h))

-- sorted with repeats dropped, a list is its ordered set
module _ {X : Type 0} (cmp : X → X → Ordering) (total : IsTotalOrder cmp) (exact : IsExact cmp) (eq : X → X → Bool) (ties : (x y : X) → eq x y ≡ eq_by_cmp cmp x y) where
  equal_same : (x y : X) (r : Ordering) → cmp x y ≡ r → is_eq r ≡ true → x ≡ y
  equal_same x y Less is e = cc
  equal_same x y Equal is e = exact.same x y is
  equal_same x y Greater is e = cc

  eq_same : (x y : X) → eq x y ≡ true → x ≡ y
  eq_same x y e = equal_same x y (cmp x y) refl (sym (ties x y) ∙ e)

  pub sorted_without_repeats : (items sorted : List X) → IsEquivalence eq → IsPermutation items sorted → IsSorted cmp sorted → dedup eq sorted ≡ ordered_set cmp items
  sorted_without_repeats items sorted equal moved ascends =
      set_is_ordered cmp total exact items (dedup eq sorted) (record {
        sorted = IsStrictlySortedBy-dedup total ties sorted ascends;
        kept = λ x held. Contains-dedup equal eq_same sorted x (Contains-permutation items sorted x moved held);
        only = λ x held. Contains-permutation sorted items x (IsPermutation-sym items sorted moved) (Contains-from_dedup eq sorted x held);
      })
