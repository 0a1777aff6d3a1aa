-- Locations in ascending order: where one is found, and one more.
use Rattle.std.proofs.Common.{◌≡◌, ◌≢◌, inl, inr, ℕ, zero, suc, ◌<◌, ◌≤◌, ◌+◌, ◌-◌, ◌==◌, Bool, true, false, List, [], ◌∷◌, ◌++◌, length, get_or, Option, None, Some, refl, sym, ◌∙◌, ap, arith, nat_lt}
use Rattle.std.specs.Prelude.{slice_get}
use Rattle.std.specs.Option.{option_map_or}
use Rattle.std.specs.List.Sorted.{IsPartitionPoint, IsPartitionedBy}
use Rattle.std.proofs.lemmas.Bool.Decides.{nat_tests}
use Rattle.std.proofs.lemmas.Option.{get_or_from_slice_get, slice_get-get_or}
use Rattle.std.proofs.lemmas.List.Quantifiers.{all_pairs_push}
use Rattle.flow_log.proofs.Members.{lt_or_le}
use Rattle.automaton_text.specs.declared.automaton.Location.{Location}
use Rattle.automaton_text.specs.Reading.{AreAscending, is_above, location_at}

abbrev is_below : ℕ → Location → Bool
is_below at l = nat_lt l.at at

pub less : (a b : ℕ) → nat_lt a b ≡ true → a < b
less a b e = grind (arith, nat_tests)

not_less : (a b : ℕ) → nat_lt a b ≡ false → b ≤ a
not_less a b e = grind (arith, nat_tests)

pub test_less : (a b : ℕ) → a < b → nat_lt a b ≡ true
test_less a b h = grind (arith, nat_tests)

test_other : (a b : ℕ) → a ≢ b → (a == b) ≡ false
test_other a b h = grind (arith, nat_tests)

test_same : (a b : ℕ) → a ≡ b → (a == b) ≡ true
test_same a b h = grind (arith, nat_tests)

-- the locations below an address stand first
pub parted : (ls : List Location) (at : ℕ) → AreAscending ls → IsPartitionedBy (is_below at) ls
parted ls at ascending i j d within below passes =
    elim (lt_or_le i j) [
      | inl before ↦ (let step = ascending i j d before below in let top = less (get_or ls j d).at at passes in test_less (get_or ls i d).at at (omega arith))
      | inr behind ↦ (let same : i ≡ j = omega arith in rw same passes)
    ]

find_there : (ls : List Location) (at i : ℕ) (l : Location) → ((k : ℕ) (d : Location) → k < i → (get_or ls k d).at < at) → slice_get ls i ≡ Some l → l.at ≡ at → location_at ls at ≡ Some l
unfolding location_at
find_there [] at i l before is same = let never : ⊥ = cc in absurd never
find_there (x ∷ ls) at zero l before is same =
    let first : x ≡ l = cc in
    let test : (l.at == at) ≡ true = test_same l.at at same in
    rw (first, test) refl
find_there (x ∷ ls) at (suc i) l before is same =
    let below : x.at < at = before 0 x (omega arith) in
    let test : (x.at == at) ≡ false = test_other x.at at (λ e. omega arith) in
    rw test (find_there ls at i l (λ k d h. before (suc k) d (omega arith)) is same)

find_nowhere : (ls : List Location) (at : ℕ) → ((k : ℕ) (d : Location) → k < length ls → (get_or ls k d).at ≢ at) → location_at ls at ≡ None
unfolding location_at
find_nowhere [] at others = refl
find_nowhere (x ∷ ls) at others =
    let test : (x.at == at) ≡ false = test_other x.at at (others 0 x (omega arith)) in
    rw test (find_nowhere ls at (λ k d h. others (suc k) d (omega arith)))

module _ (ls : List Location) (at i : ℕ) (ascending : AreAscending ls) (point : IsPartitionPoint (λ l. is_below at l ≡ true) (λ l. is_below at l ≡ false) ls i) where
  front : (k : ℕ) (d : Location) → k < i → (get_or ls k d).at < at
  front k d below = less (get_or ls k d).at at (point.0 k d (omega arith) below)

  -- the first one that is not below is the one, or there is none
  pub found : (l : Location) → slice_get ls i ≡ Some l → l.at ≡ at → Some l ≡ location_at ls at
  found l is same = sym (find_there ls at i l front is same)

  behind : (l : Location) → slice_get ls i ≡ Some l → l.at ≢ at → (k : ℕ) (d : Location) → i ≤ k → k < length ls → (get_or ls k d).at ≢ at
  behind l is other k d from within same =
      let here : get_or ls i d ≡ l = get_or_from_slice_get ls i l d is in
      elim (lt_or_le i k) [
        | inl later ↦ (
            let least : at ≤ (get_or ls i d).at = not_less (get_or ls i d).at at (point.1 i d (omega arith) (omega arith)) in
            let more = ascending i k d later within in
            omega arith)
        | inr not_later ↦ (let one : k ≡ i = omega arith in absurd (other (sym (ap (λ (x : Location). x.at) here) ∙ ap (λ n. (get_or ls n d).at) (sym one) ∙ same)))
      ]

  pub other : (l : Location) → slice_get ls i ≡ Some l → l.at ≢ at → ◌≡◌ {A = Option Location} None (location_at ls at)
  other l is differs =
      sym (find_nowhere ls at (λ k d within same.
      elim (lt_or_le k i) [ inl before ↦ (let less_here = front k d before in omega arith) | inr from ↦ behind l is differs k d from within same ]))

  pub past : length ls ≤ i → ◌≡◌ {A = Option Location} None (location_at ls at)
  past all = sym (find_nowhere ls at (λ k d within same. let less_here = front k d (omega arith) in omega arith))

abbrev is_above_of : Option Location → ℕ → Bool
is_above_of last at = option_map_or (λ l. nat_lt l.at at) last true

-- a location above the last one stands above all
above_by : (ls : List Location) (at : ℕ) (last : Option Location) → slice_get ls (length ls - 1) ≡ last → AreAscending ls → is_above_of last at ≡ true → (k : ℕ) (d : Location) → k < length ls → (get_or ls k d).at < at
above_by ls at None e ascending test k d below = let held = slice_get-get_or ls (length ls - 1) d (omega arith) in let never : ⊥ = cc in absurd never
above_by ls at (Some l) e ascending test k d below =
    let top : l.at < at = less l.at at test in
    let here : get_or ls (length ls - 1) d ≡ l = get_or_from_slice_get ls (length ls - 1) l d e in
    let at_last : (get_or ls (length ls - 1) d).at ≡ l.at = ap (λ (x : Location). x.at) here in
    elim (lt_or_le k (length ls - 1)) [
      | inl before ↦ (let step = ascending k (length ls - 1) d before (omega arith) in omega arith)
      | inr not_before ↦ (let one : k ≡ length ls - 1 = omega arith in rw one (omega arith))
    ]

pub ascending_more : (ls : List Location) (l : Location) → AreAscending ls → is_above ls l.at ≡ true → AreAscending (ls ++ l ∷ [])
ascending_more ls l ascending test = all_pairs_push (λ (a b : Location). a.at < b.at) ls l ascending (above_by ls l.at (slice_get ls (length ls - 1)) refl ascending test)

pub found_index : (ls : List Location) (at i : ℕ) (d : Location) → AreAscending ls → IsPartitionPoint (λ l. nat_lt l.at at ≡ true) (λ l. nat_lt l.at at ≡ false) ls i
    → i < length ls → (get_or ls i d).at ≡ at → Some (get_or ls i d) ≡ location_at ls at
found_index ls at i d ascending point within same = found ls at i ascending point (get_or ls i d) (slice_get-get_or ls i d within) same

pub other_index : (ls : List Location) (at i : ℕ) (d : Location) → AreAscending ls → IsPartitionPoint (λ l. nat_lt l.at at ≡ true) (λ l. nat_lt l.at at ≡ false) ls i
    → i < length ls → (get_or ls i d).at ≢ at → ◌≡◌ {A = Option Location} None (location_at ls at)
other_index ls at i d ascending point within differs = other ls at i ascending point (get_or ls i d) (slice_get-get_or ls i d within) differs
