-- What the tests of `map_fault` say.
use Rattle.std.proofs.Common.{◌≡◌, inl, inr, ⊎_elim, Bool, true, false, List, [], ◌∷◌, Some, None, refl, ap, sym, ◌∙◌, arith, subst, map, zero, suc, cond}
use Rattle.std.specs.Prelude.{◌&&◌, ◌||◌, nat_le, nat_lt, All, AllPairs, filter}
use Rattle.std.specs.List.{list_all}
use Rattle.std.proofs.lemmas.Bool.{leb-true, le-leb, le-ltb, ltb-false, or_cases, or_right, and_parts}
use Rattle.std.proofs.lemmas.List.Elements.{All-nil, All-cons, All-map}
use Rattle.memory_map.specs.Range.{Range, USER_LOW, USER_END, end_of, IsInUserSpace, AreApart, HasBytes}
use Rattle.memory_map.specs.Map.{range_of, all_apart, are_apart, is_in_user_space, total_size, map_fault, mapped, maps_some, HasSome, IsMap, MAPPED_LIMIT}
use Rattle.memory_map.specs.declared.segment.Segment.{Segment}
use Rattle.memory_map.specs.declared.fault.MapFault.TheVariants.{OutOfRange, Overlap, TooLarge}
use Rattle.memory_map.proofs.Lists.{all_apart-nil, all_apart-cons, list_all-map}

pub map_fault-outside : (rs : List Range) → list_all is_in_user_space rs ≡ false → map_fault rs ≡ Some OutOfRange
unfolding map_fault
map_fault-outside rs h = rw h refl

pub map_fault-overlap : (rs : List Range) → list_all is_in_user_space rs ≡ true → all_apart rs ≡ false → map_fault rs ≡ Some Overlap
unfolding map_fault
map_fault-overlap rs h k = rw (h, k) refl

pub map_fault-large : (rs : List Range) → list_all is_in_user_space rs ≡ true → all_apart rs ≡ true → nat_lt MAPPED_LIMIT (total_size rs) ≡ true → map_fault rs ≡ Some TooLarge
unfolding map_fault
map_fault-large rs h k l = rw (h, k, l) refl

pub map_fault-none : (rs : List Range) → list_all is_in_user_space rs ≡ true → all_apart rs ≡ true → nat_lt MAPPED_LIMIT (total_size rs) ≡ false → map_fault rs ≡ None
unfolding map_fault
map_fault-none rs h k l = rw (h, k, l) refl

-- both parts of a test that passes
kept_first : {X : Type 0} (p : X → Bool) (x : X) (xs : List X) (b : Bool) → p x ≡ b → list_all p (filter p xs) ≡ true → list_all p (cond b (x ∷ filter p xs) (filter p xs)) ≡ true
kept_first p x xs true is h = rw is h
kept_first p x xs false is h = h

-- each that a filter keeps passes
all_kept : {X : Type 0} (p : X → Bool) (xs : List X) → list_all p (filter p xs) ≡ true
all_kept p [] = refl
all_kept p (x ∷ xs) = kept_first p x xs (p x) refl (all_kept p xs)

pub All-from_list_all : {X : Type 0} (P : X → Type 0) (p : X → Bool) → ((x : X) → p x ≡ true → P x) → (xs : List X) → list_all p xs ≡ true → All P xs
All-from_list_all P p says [] h = All-nil P
All-from_list_all P p says (x ∷ xs) h =
    let parts = and_parts (p x) (list_all p xs) h in
    All-cons P x xs (says x parts.0) (All-from_list_all P p says xs parts.1)

pub user_space : (r : Range) → is_in_user_space r ≡ true → IsInUserSpace r
user_space r h =
    let parts = and_parts (nat_le USER_LOW r.low) (nat_le (end_of r) USER_END) h in
    record { above = leb-true USER_LOW r.low parts.0; below = leb-true (end_of r) USER_END parts.1 }

pub apart_ranges : (r s : Range) → are_apart r s ≡ true → AreApart r s
apart_ranges r s h =
    ⊎_elim (λ a. inl (leb-true (end_of r) s.low a)) (λ b. inr (leb-true (end_of s) r.low b)) (or_cases (nat_le (end_of r) s.low) (nat_le (end_of s) r.low) h)

-- each of a list in which all are apart
pub pairs-cons : (r : Range) (rs : List Range) → All (AreApart r) rs → AllPairs AreApart rs → AllPairs AreApart (r ∷ rs)
pairs-cons r rs first rest zero (suc j) d lt in' = first j d (omega (arith, in'))
pairs-cons r rs first rest (suc i) (suc j) d lt in' = rest i j d (omega (arith, lt)) (omega (arith, in'))
pairs-cons r rs first rest i zero d lt in' = absurd (omega (arith, lt))

pub pairs_apart : (rs : List Range) → all_apart rs ≡ true → AllPairs AreApart rs
pairs_apart [] h = λ i j d lt in'. absurd (omega (arith, in'))
pairs_apart (r ∷ rs) h =
    let parts = and_parts (list_all (are_apart r) rs) (all_apart rs) (sym (all_apart-cons r rs) ∙ h) in
    pairs-cons r rs (All-from_list_all (AreApart r) (are_apart r) (apart_ranges r) rs parts.0) (pairs_apart rs parts.1)

-- segments that map anything have some byte each
some_bytes : (s : Segment) → maps_some s ≡ true → HasSome (range_of s)
some_bytes s h = grind arith

pub mapped-some : (list : List Segment) → All HasSome (map range_of (mapped list))
mapped-some list = All-map HasSome range_of (mapped list) (All-from_list_all (λ s. HasSome (range_of s)) maps_some some_bytes (mapped list) (all_kept maps_some list))

pub is_map : (rs : List Range) → All HasSome rs → list_all is_in_user_space rs ≡ true → all_apart rs ≡ true → nat_lt MAPPED_LIMIT (total_size rs) ≡ false → All HasBytes rs → IsMap rs
is_map rs some inside apart size bytes = record {
  some = some;
  inside = All-from_list_all IsInUserSpace is_in_user_space user_space rs inside;
  apart = pairs_apart rs apart;
  bytes = bytes;
  size = ltb-false MAPPED_LIMIT (total_size rs) size;
}

-- what the three tests of `Segments::new` come to, each over the list by another name
pub tests_pass : (given items d e f : List Segment) (b c t : Bool) → items ≡ mapped given → d ≡ items → e ≡ items → f ≡ items → b ≡ list_all (λ s. is_in_user_space (range_of s)) d → c ≡ all_apart (map range_of e) → t ≡ nat_lt MAPPED_LIMIT (total_size (map range_of f)) → (t ≡ false → All HasBytes (map range_of f)) → b ≡ true → c ≡ true → t ≡ false → IsMap (map range_of items)
tests_pass given items d e f b c t kept same same' same'' inside apart size bytes h h' h'' =
    let P : List Segment → Type 0 = λ l. All HasBytes (map range_of l) in
    let Some : List Segment → Type 0 = λ l. All HasSome (map range_of l) in
    is_map (map range_of items)
    (subst Some (sym kept) (mapped-some given))
    (ap (λ (l : List Segment). list_all is_in_user_space (map range_of l)) (sym same) ∙ list_all-map is_in_user_space range_of d ∙ sym inside ∙ h)
    (ap (λ (l : List Segment). all_apart (map range_of l)) (sym same') ∙ sym apart ∙ h')
    (ap (λ (l : List Segment). nat_lt MAPPED_LIMIT (total_size (map range_of l))) (sym same'') ∙ sym size ∙ h'')
    (subst P same'' (bytes h''))

-- a map's own list has no fault, and each of its segments maps something
list_all-from_All : {X : Type 0} (P : X → Type 0) (p : X → Bool) → ((x : X) → P x → p x ≡ true) → (xs : List X) → All P xs → list_all p xs ≡ true
list_all-from_All P p says [] h = refl
list_all-from_All P p says (x ∷ xs) h =
    ap (λ b. b && list_all p xs) (says x (h 0 x (omega arith))) ∙ list_all-from_All P p says xs (λ k d in'. h (suc k) d (omega (arith, in')))

in_user_space : (r : Range) → IsInUserSpace r → is_in_user_space r ≡ true
in_user_space r h = ap (λ b. b && nat_le (end_of r) USER_END) (le-leb USER_LOW r.low h.above) ∙ le-leb (end_of r) USER_END h.below

are_apart_by : (r s : Range) → AreApart r s → are_apart r s ≡ true
are_apart_by r s (inl h) = ap (λ b. b || nat_le (end_of s) r.low) (le-leb (end_of r) s.low h)
are_apart_by r s (inr h) = or_right (nat_le (end_of r) s.low) (nat_le (end_of s) r.low) (le-leb (end_of s) r.low h)

all_apart_by : (rs : List Range) → AllPairs AreApart rs → all_apart rs ≡ true
all_apart_by [] h = all_apart-nil
all_apart_by (r ∷ rs) h =
    all_apart-cons r rs
    ∙ ap (λ b. b && all_apart rs) (list_all-from_All (AreApart r) (are_apart r) (are_apart_by r) rs (λ k d in'. h 0 (suc k) d (omega arith) (omega (arith, in'))))
    ∙ all_apart_by rs (λ i j d lt in'. h (suc i) (suc j) d (omega (arith, lt)) (omega (arith, in')))

pub map-no_fault : (rs : List Range) → IsMap rs → map_fault rs ≡ None
map-no_fault rs h =
    map_fault-none rs (list_all-from_All IsInUserSpace is_in_user_space in_user_space rs h.inside) (all_apart_by rs h.apart) (le-ltb MAPPED_LIMIT (total_size rs) h.size)

All-of_map : {X Y : Type 0} (P : Y → Type 0) (f : X → Y) (xs : List X) → All P (map f xs) → All (λ x. P (f x)) xs
All-of_map P f [] h = All-nil (λ x. P (f x))
All-of_map P f (x ∷ xs) h = All-cons (λ y. P (f y)) x xs (h 0 (f x) (omega arith)) (All-of_map P f xs (λ k d in'. h (suc k) d (omega (arith, in'))))

maps_some_by : (s : Segment) → HasSome (range_of s) → maps_some s ≡ true
maps_some_by s h = grind arith

filter-all : {X : Type 0} (p : X → Bool) (xs : List X) → list_all p xs ≡ true → filter p xs ≡ xs
filter-all p [] h = refl
filter-all p (x ∷ xs) h =
    let parts = and_parts (p x) (list_all p xs) h in
    ap (λ b. cond b (x ∷ filter p xs) (filter p xs)) parts.0 ∙ ap (λ ys. x ∷ ys) (filter-all p xs parts.1)

pub mapped-map : (list : List Segment) → IsMap (map range_of list) → mapped list ≡ list
mapped-map list h = filter-all maps_some list (list_all-from_All (λ s. HasSome (range_of s)) maps_some maps_some_by list (All-of_map HasSome range_of list h.some))
