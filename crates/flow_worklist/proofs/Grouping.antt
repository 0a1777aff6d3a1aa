-- An index of a location's rows finds one that covers a state where there is one.
use Rattle.std.proofs.Common.{◌≡◌, ℕ, zero, suc, ◌<◌, ◌≤◌, Bool, true, false, cond, List, [], ◌∷◌, ◌++◌, length, map, Option, Some, None, refl, sym, ◌∙◌, ap, subst, inl, inr, arith, Any, Contains, slice_index_or, option_map, ◌⊎◌, ◌||◌, nat_eq}
use Rattle.std.specs.Prelude.{slice_get}
use Rattle.std.specs.List.{list_any}
use Rattle.std.specs.Option.{option_map_or}
use Rattle.std.proofs.lemmas.List.Elements.{Contains-append_left, Contains-append_right}
use Rattle.std.proofs.lemmas.List.{length-append}
use Rattle.std.proofs.lemmas.List.Folds.{Any-from_list_any, list_any-from_Any}
use Rattle.std.proofs.lemmas.Option.{slice_get-map, slice_get_within}
use Rattle.domain_laws.specs.Laws.{Values, IsLawful}
use Rattle.flow_log.specs.Log.{Row}
use Rattle.flow_log.proofs.Members.{lt_or_le, slice_get-append_back, slice_get-last}
use Rattle.partitioned_memory.specs.Held.{pair_of_fact}
use Rattle.partitioned_memory.specs.Lists.{Ascends}
use Rattle.partitioned_memory.specs.Pairs.{pair_before}
use Rattle.abstract_state.specs.State.{Known, covers_state}
use Rattle.flow_worklist.specs.declared.told.Told.{Told}
use Rattle.flow_worklist.specs.declared.told.Told.TheVariants.{Numbers, Nothing, Unclear}
use Rattle.flow_worklist.specs.declared.row_index.Group.{Group}
use Rattle.flow_worklist.specs.declared.row_index.RowIndex.{RowIndex}
use Rattle.flow_worklist.specs.Covering.{covers_at, covers_by, row_nth}
use Rattle.flow_worklist.specs.Telling.{digest_with, told_at}
use Rattle.flow_worklist.specs.Grouping.{HasPlace, IsIn, IsInRest, IsIndexOf, covers_in, covers_nth, covers_told, places_at}
use Rattle.flow_worklist.proofs.Telling.{told-agrees}

same-answers : (b c : Bool) → (b ≡ true → c ≡ true) → (c ≡ true → b ≡ true) → b ≡ c
same-answers true true f g = refl
same-answers false false f g = refl
same-answers true false f g = sym (f refl)
same-answers false true f g = g refl

Any-at : {X : Type 0} (P : X → Type 0) (xs : List X) (k : ℕ) (x : X) → k < length xs → slice_index_or xs k x ≡ x → P x → Any P xs
Any-at P xs k x within at p = (k, x, within, at, p)

pub any-more : {X : Type 0} (P Q : X → Type 0) (xs ys : List X) → ((x : X) → P x → Q x) → Any P xs → Any Q (xs ++ ys)
any-more P Q xs ys more (k, x, within, at, p) =
    let there = Contains-append_left xs ys x (k, within, at) in
    (there.0, x, there.1, there.2, more x p)

any-passes : {X : Type 0} (p : X → Bool) (xs : List X) (x : X) → Contains xs x → p x ≡ true → list_any p xs ≡ true
any-passes p xs x (k, within, at) passes = list_any-from_Any p xs (k, x, within, at, passes)

-- ---- keys

-- what is under a key stays under it as a place is put under some key
pub put-kept : {V : Type 0} (items : V → List ℕ) (key q : ℕ) (before taken after : Option V) (there : List ℕ) (v : V) (place p : ℕ)
    → after ≡ cond (nat_eq key q) (Some v) taken
    → (nat_eq key q ≡ false → option_map_or items taken [] ≡ option_map_or items before [])
    → (nat_eq key q ≡ true → option_map_or items before [] ≡ there)
    → items v ≡ there ++ place ∷ []
    → Contains (option_map_or items before []) p → Contains (option_map_or items after []) p
put-kept items key q before taken after there v place p put apart same more h = by (nat_eq key q) refl
  where
    by : (b : Bool) → nat_eq key q ≡ b → Contains (option_map_or items after []) p
    by true is =
        subst (λ (l : List ℕ). Contains l p) (sym (ap (λ o. option_map_or items o []) (put ∙ ap (λ b. cond b (Some v) taken) is) ∙ more))
        (Contains-append_left there (place ∷ []) p (subst (λ (l : List ℕ). Contains l p) (same is) h))
    by false is =
        subst (λ (l : List ℕ). Contains l p) (sym (ap (λ o. option_map_or items o []) (put ∙ ap (λ b. cond b (Some v) taken) is) ∙ apart is)) h

-- a place is in a group without holders that is pushed
pub rest-pushed : (new : RowIndex) (before : List Group) (group : Group) (place : ℕ) → new.groups.items ≡ before ++ group ∷ [] → group.holders.items ≡ []
    → Contains (places_at new (digest_with 0 group.number)) place → Any (IsInRest new place) new.groups.items
rest-pushed new before group place groups none has =
    let last = Contains-append_right before (group ∷ []) group (0, omega arith, refl) in
    subst (λ (gs : List Group). Any (IsInRest new place) gs) (sym groups) (last.0, group, last.1, last.2, record { none = none; has = has })

-- ---- rows by their places

-- the row at a place is that of the location
pub nth-is : {S : Type 0} (rows : List (Row S)) (numbers : List ℕ) (here : List (Row S)) (place : ℕ) → map (slice_get rows) numbers ≡ map Some here → row_nth rows numbers place ≡ slice_get here place
nth-is rows [] [] place e = refl
nth-is rows [] (r ∷ here) place e = absurd (cc)
nth-is rows (n ∷ numbers) [] place e = absurd (cc)
nth-is rows (n ∷ numbers) (r ∷ here) zero e = (let is : slice_get rows n ≡ Some r = cc in is)
nth-is rows (n ∷ numbers) (r ∷ here) (suc place) e =
    let more : map (slice_get rows) numbers ≡ map Some here = cc in
    nth-is rows numbers here place more

module _ {D : Type 0} (d : Values D) where
  record CoversAt (rows : List (Row (Known D))) (numbers : List ℕ) (s : Known D) : Type 0 where
    pub place : ℕ
    pub row : Row (Known D)
    pub at : row_nth rows numbers place ≡ Some row
    pub covers : covers_state d row.state s ≡ true

  covers-one : (s : Known D) (o : Option (Row (Known D))) → covers_by d s o ≡ true → (row : Row (Known D)) × ((o ≡ Some row) × (covers_state d row.state s ≡ true))
  covers-one s None e = absurd (cc)
  covers-one s (Some row) e = (row, (refl, e))

  -- where a row covers a state, one at a place does
  covers-placed : (rows : List (Row (Known D))) (numbers : List ℕ) (s : Known D) → list_any (covers_at d rows s) numbers ≡ true → CoversAt rows numbers s
  covers-placed rows [] s e = absurd (cc)
  covers-placed rows (n ∷ numbers) s e = by (covers_at d rows s n) refl (covers-placed rows numbers s)
    where
      by : (c : Bool) → covers_at d rows s n ≡ c → (list_any (covers_at d rows s) numbers ≡ true → CoversAt rows numbers s) → CoversAt rows (n ∷ numbers) s
      by true is later =
          let one = covers-one s (slice_get rows n) is in
          record { place = 0; row = one.0; at = one.1.0; covers = one.1.1 }
      by false is later =
          let more = later (ap (λ b. b || list_any (covers_at d rows s) numbers) (sym is) ∙ e) in
          record { place = suc more.place; row = more.row; at = more.at; covers = more.covers }

  -- and the other way round
  placed-covers : (rows : List (Row (Known D))) (numbers : List ℕ) (s : Known D) (place : ℕ) → covers_nth d rows numbers s place ≡ true → list_any (covers_at d rows s) numbers ≡ true
  placed-covers rows [] s place e = absurd (cc)
  placed-covers rows (n ∷ numbers) s zero e = ap (λ b. b || list_any (covers_at d rows s) numbers) e
  placed-covers rows (n ∷ numbers) s (suc place) e = by (covers_at d rows s n) (placed-covers rows numbers s place e)
    where
      by : (c : Bool) → list_any (covers_at d rows s) numbers ≡ true → (c || list_any (covers_at d rows s) numbers) ≡ true
      by true later = refl
      by false later = later

  -- ---- an index

  in-kept : (old new : RowIndex) (place : ℕ) (s : Known D) (group : Group) → ((k : ℕ) (p : ℕ) → Contains (places_at old k) p → Contains (places_at new k) p) → IsIn d old place s group → IsIn d new place s group
  in-kept old new place s group kept h = record { digest = h.digest; told = h.told; has = kept (digest_with h.digest group.number) place h.has }

  -- what has a place keeps it
  pub place-kept : (old new : RowIndex) (more : List Group) (place : ℕ) (s : Known D) → new.groups.items ≡ old.groups.items ++ more
      → ((k : ℕ) (p : ℕ) → Contains (places_at old k) p → Contains (places_at new k) p) → HasPlace d old place s → HasPlace d new place s
  place-kept old new more place s groups kept h =
      subst (λ (gs : List Group). Any (IsIn d new place s) gs) (sym groups)
      (any-more (IsIn d old place s) (IsIn d new place s) old.groups.items more (λ group. in-kept old new place s group kept) h)

  -- a state that holds the numbers of a group that is there has the place at which it is put in
  pub place-put : (old new : RowIndex) (place : ℕ) (s : Known D) (number digest : ℕ) → new.groups ≡ old.groups
      → Any (λ (g : Group). (g.number ≡ number) × (told_at d g.holders.items s ≡ Numbers digest)) old.groups.items
      → Contains (places_at new (digest_with digest number)) place → HasPlace d new place s
  place-put old new place s number digest groups (k, g, within, at, (numbered, told)) has =
      let there = Any-at (IsIn d new place s) old.groups.items k g within at (record {
        digest = digest;
        told = told;
        has = subst (λ (n : ℕ). Contains (places_at new (digest_with digest n)) place) (sym numbered) has;
      }) in
      subst (λ (gs : List Group). Any (IsIn d new place s) gs) (ap (λ v. v.items) (sym groups)) there

  -- and so has each in a group without holders
  pub place-rest : (new : RowIndex) (place : ℕ) (s : Known D) → Any (IsInRest new place) new.groups.items → HasPlace d new place s
  place-rest new place s (k, g, within, at, rest) =
      (k, g, within, at, record { digest = 0; told = ap (λ hs. told_at d hs s) rest.none; has = rest.has })

  -- an index by the rows' places is one of their states
  pub index-made : (index : RowIndex) (rows : List (Row (Known D))) (numbers : List ℕ) (here : List (Row (Known D))) → map (slice_get rows) numbers ≡ map Some here
      → ((place : ℕ) (row : Row (Known D)) → row_nth rows numbers place ≡ Some row → HasPlace d index place row.state)
      → IsIndexOf d (Some index) (map (λ (row : Row (Known D)). row.state) here)
  index-made index rows numbers here found made place s at = by (slice_get here place) refl
    where
      by : (o : Option (Row (Known D))) → slice_get here place ≡ o → HasPlace d index place s
      by None e =
          let none : None ≡ Some s = ap (option_map (λ (row : Row (Known D)). row.state)) (sym e) ∙ sym (slice_get-map (λ (row : Row (Known D)). row.state) here place) ∙ at in
          absurd (cc)
      by (Some row) e =
          let same : Some (row.state) ≡ Some s = ap (option_map (λ (row : Row (Known D)). row.state)) (sym e) ∙ sym (slice_get-map (λ (row : Row (Known D)). row.state) here place) ∙ at in
          let is : row.state ≡ s = cc in
          subst (HasPlace d index place) is (made place row (nth-is rows numbers here place found ∙ e))

  -- a state more, at the place after the others
  pub index-more : (old new : RowIndex) (states : List (Known D)) (s : Known D) → HasPlace d new (length states) s
      → ((p : ℕ) (t : Known D) → HasPlace d old p t → HasPlace d new p t)
      → IsIndexOf d (Some old) states → IsIndexOf d (Some new) (states ++ s ∷ [])
  index-more old new states s has kept indexed place t at = by (lt_or_le place (length states))
    where
      by : (place < length states) ⊎ (length states ≤ place) → HasPlace d new place t
      by (inl less) = kept place t (indexed place t (slice_get-append_back states (s ∷ []) place t less at))
      by (inr more) =
          let within : place < length (states ++ s ∷ []) = slice_get_within (states ++ s ∷ []) place t at in
          let last : place ≡ length states = omega (arith, length-append states (s ∷ [])) in
          let same : Some t ≡ Some s = sym at ∙ ap (slice_get (states ++ s ∷ [])) last ∙ slice_get-last states s in
          let is : t ≡ s = cc in
          subst (λ (p : ℕ). HasPlace d new p t) (sym last) (subst (λ (u : Known D). HasPlace d new (length states) u) (sym is) has)

  module _ (l : IsLawful d) (s : Known D) (ascend : Ascends pair_before (map pair_of_fact s.parts.facts)) where
    -- a row that covers the state is among those of its group that may
    among : (index : RowIndex) (rows : List (Row (Known D))) (numbers : List ℕ) (place : ℕ) (row : Row (Known D)) (group : Group)
        → row_nth rows numbers place ≡ Some row → covers_state d row.state s ≡ true → IsIn d index place row.state group → covers_in d index rows numbers s group ≡ true
    among index rows numbers place row group at covers h =
        let passes : covers_nth d rows numbers s place ≡ true = ap (covers_by d s) at ∙ covers in
        by (told-agrees d l row.state s covers ascend group.holders.items h.digest h.told) passes
      where
        by : (told_at d group.holders.items s ≡ Numbers h.digest) ⊎ (told_at d group.holders.items s ≡ Unclear) → covers_nth d rows numbers s place ≡ true → covers_in d index rows numbers s group ≡ true
        by (inl same) passes =
            ap (covers_told d index rows numbers s group) same
            ∙ any-passes (covers_nth d rows numbers s) (places_at index (digest_with h.digest group.number)) place h.has passes
        by (inr same) passes = ap (covers_told d index rows numbers s group) same ∙ placed-covers rows numbers s place passes

    -- what a group answers is a row's
    told-covers : (index : RowIndex) (rows : List (Row (Known D))) (numbers : List ℕ) (group : Group) (told : Told) → covers_told d index rows numbers s group told ≡ true → list_any (covers_at d rows s) numbers ≡ true
    told-covers index rows numbers group (Numbers digest) e =
        let place = Any-from_list_any (covers_nth d rows numbers s) (places_at index (digest_with digest group.number)) e in
        placed-covers rows numbers s place.1 (place.4)
    told-covers index rows numbers group Nothing e = absurd (cc)
    told-covers index rows numbers group Unclear e = e

    -- the index answers what all rows of the location do
    pub index-covers : (index : RowIndex) (rows : List (Row (Known D))) (numbers : List ℕ) (here : List (Row (Known D)))
        → map (slice_get rows) numbers ≡ map Some here → IsIndexOf d (Some index) (map (λ (row : Row (Known D)). row.state) here)
        → list_any (covers_in d index rows numbers s) index.groups.items ≡ list_any (covers_at d rows s) numbers
    index-covers index rows numbers here found indexed =
        same-answers (list_any (covers_in d index rows numbers s) index.groups.items) (list_any (covers_at d rows s) numbers)
        (λ e.
        let group = Any-from_list_any (covers_in d index rows numbers s) index.groups.items e in
        told-covers index rows numbers (group.1) (told_at d (group.1).holders.items s) (group.4))
        (λ e.
        let one = covers-placed rows numbers s e in
        let state : slice_get (map (λ (row : Row (Known D)). row.state) here) one.place ≡ Some (one.row).state =
        slice_get-map (λ (row : Row (Known D)). row.state) here one.place ∙ ap (option_map (λ (row : Row (Known D)). row.state)) (sym (nth-is rows numbers here one.place found) ∙ one.at) in
        let there = indexed one.place (one.row).state state in
        list_any-from_Any (covers_in d index rows numbers s) index.groups.items
        (there.0, there.1, there.2, there.3, among index rows numbers one.place one.row there.1 one.at one.covers there.4))
