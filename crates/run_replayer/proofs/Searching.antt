-- What a binary search tells of a sorted list.
use Rattle.std.proofs.Common.{◌≡◌, ℕ, ◌<◌, Bool, List, length, refl, sym, ◌∙◌, ap, subst, arith, Result, Ok, Err, inl, inr}
use Rattle.std.specs.Prelude.{Contains, IsTrue, ◌↔◌, is_ok, slice_index_or}
use Rattle.std.specs.Cmp.{IsTotalOrder}
use Rattle.std.specs.List.Sorted.{IsBinarySearchResult, IsPermutation, IsSearchInRange, IsSorted}
use Rattle.std.proofs.lemmas.List.Sorted.{Contains-permutation, IsPermutation-sym, searchable_from_sorted}
use Rattle.std.specs.Ordering.{ordering_reverse}
use Rattle.std.specs.declared.cmp.Ordering.{Ordering}
use Rattle.std.specs.declared.cmp.Ordering.TheVariants.{Less, Equal, Greater}
use Rattle.flow_log.proofs.Members.{lt_or_le}

module _ {X : Type 0} (cmp : X → X → Ordering) (total : IsTotalOrder cmp) (exact : (a b : X) → cmp a b ≡ Equal → a ≡ b) where
  own_reverse : (o : Ordering) → o ≡ ordering_reverse o → o ≡ Equal
  own_reverse Less e = cc
  own_reverse Equal e = refl
  own_reverse Greater e = cc

  equal_itself : (x : X) → cmp x x ≡ Equal
  equal_itself x = own_reverse (cmp x x) (total.antisymm x x)

  found : (xs : List X) (x : X) (i : ℕ) → i < length xs → IsBinarySearchResult (λ y. cmp y x) xs (Ok i) → Contains xs x
  found xs x i below is = (i, below, exact (slice_index_or xs i x) x (is x))

  absent : (xs : List X) (x : X) (i : ℕ) → IsSorted cmp xs → IsBinarySearchResult (λ y. cmp y x) xs (Err i) → Contains xs x → ⊥
  absent xs x i sorted is (k, below, at) =
      let point = is (searchable_from_sorted total (λ y. y) xs x sorted) in
      let here : cmp (slice_index_or xs k x) x ≡ Equal = ap (λ y. cmp y x) at ∙ equal_itself x in
      elim (lt_or_le k i) [ inl less ↦ (let no : cmp (slice_index_or xs k x) x ≡ Less = point.0 k x (omega arith) less in cc) | inr more ↦ (let no : cmp (slice_index_or xs k x) x ≡ Greater = point.1 k x more below in cc) ]

  has_is : (xs : List X) (x : X) (r : Result ℕ ℕ) → IsSearchInRange r (length xs) → IsSorted cmp xs → IsBinarySearchResult (λ y. cmp y x) xs r → IsTrue (is_ok r) ↔ Contains xs x
  has_is xs x (Ok i) below sorted is = (λ _. found xs x i below is, λ _. refl)
  has_is xs x (Err i) below sorted is = (λ e. (let never : ⊥ = cc in absurd never), λ held. absurd (absent xs x i sorted is held))

  -- what a search in a sorted list tells of the list that it shows
  pub has_told : (shown held now : List X) (x : X) (r : Result ℕ ℕ) (told : Bool) → shown ≡ held → held ≡ now → told ≡ is_ok r → IsSorted cmp held
      → IsSearchInRange r (length shown) → IsBinarySearchResult (λ y. cmp y x) shown r → IsTrue told ↔ Contains now x
  has_told shown held now x r told same is ok sorted below searched =
      let S : List X → Type 0 = λ xs. IsSorted cmp xs in
      let P : List X → Type 0 = λ xs. IsTrue told ↔ Contains xs x in
      let Q : Bool → Type 0 = λ b. IsTrue b ↔ Contains shown x in
      subst P (same ∙ is) (subst Q (sym ok) (has_is shown x r below (subst S (sym same) sorted) searched))

-- sorted, a list has the same members
pub permuted : {X : Type 0} (xs held sorted : List X) → held ≡ xs → IsPermutation held sorted → (x : X) → Contains sorted x ↔ Contains xs x
permuted {X} xs held sorted same moved x =
    let P : List X → Type 0 = λ l. Contains l x in
    (λ h. subst P same (Contains-permutation sorted held x (IsPermutation-sym held sorted moved) h), λ h. Contains-permutation held sorted x moved (subst P (sym same) h))
