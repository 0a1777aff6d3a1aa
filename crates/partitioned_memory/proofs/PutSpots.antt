-- Facts at one spot: what is found there, and what is left where it changes.
use Rattle.std.proofs.Common.{◌≡◌, ℤ, Bool, true, false, cond, List, [], ◌∷◌, ◌++◌, map, filter, Option, Some, None, Result, refl, sym, ap, ◌∙◌, subst}
use Rattle.std.specs.Prelude.{◌||◌, ◌&&◌, ◌==◌, not, find, is_some, IfOk}
use Rattle.std.specs.List.{list_any}
use Rattle.std.specs.Option.{option_map}
use Rattle.std.specs.Ordering.{int_eq}
use Rattle.std.proofs.lemmas.Bool.{false≢true, and_parts, or_right, not-true}
use Rattle.bit_words.specs.declared.width.Width.{Width}
use Rattle.bit_words.specs.Width.{bytes_of}
use Rattle.domain_laws.specs.Laws.{Values}
use Rattle.partitioned_memory.specs.declared.area.Area.{Area}
use Rattle.partitioned_memory.specs.declared.fact.Spot.{Spot}
use Rattle.partitioned_memory.specs.declared.fact.Held.{Held}
use Rattle.partitioned_memory.specs.declared.fact.Fact.{Fact}
use Rattle.partitioned_memory.specs.Areas.{same_area}
use Rattle.partitioned_memory.specs.Leaves.{unless}
use Rattle.partitioned_memory.specs.Lists.{Every, Ascends, around}
use Rattle.partitioned_memory.specs.Pairs.{pair_before, same_spot, spot_before, value_at}
use Rattle.partitioned_memory.specs.Held.{covers_fact, fact_at, fact_given, facts_put, found, is_at, is_below, pair_of_fact, value_below, value_of_width}
use Rattle.partitioned_memory.proofs.ListLaws.{Every-weaker, filter-by, find-same}
use Rattle.partitioned_memory.proofs.PairLaws.{inserted-ascends, other-spot, removed, removed-ascends, same_spot-is, same_spot-parts, spot_before-trans, spots-apart}
use Rattle.partitioned_memory.proofs.Cuts.{filter-all, filter-none}
use Rattle.partitioned_memory.proofs.Kept.{same_width}
use Rattle.partitioned_memory.proofs.FactSpots.{map-filter, ok-mapped}

-- ---- tests that one element passes at most

abbrev pub Once : {X : Type 0} → (X → Bool) → List X → Type 0
Once s [] = Unit {0}
Once s (x ∷ xs) = (s x ≡ true → Every (λ y. s y ≡ false) xs) × Once s xs

find-not : {X : Type 0} (s u : X → Bool) (xs : List X) → Every (λ x. s x ≡ false) xs → find (λ x. s x && u x) xs ≡ None
find-not s u [] h = refl
find-not s u (x ∷ xs) h = ap (λ b. cond (b && u x) (Some x) (find (λ y. s y && u y) xs)) h.0 ∙ find-not s u xs h.1

pub find-once : {X : Type 0} (s u : X → Bool) (xs : List X) → Once s xs → find (λ x. s x && u x) xs ≡ unless (λ x. not (u x)) (find s xs)
find-once s u [] h = refl
find-once s u (x ∷ xs) h =
    elim (s x) as (λ b. s x ≡ b → cond (b && u x) (Some x) (find (λ y. s y && u y) xs) ≡ unless (λ y. not (u y)) (cond b (Some x) (find s xs))) [
      | true ↦ λ e.
          elim (u x) as (λ b. cond b (Some x) (find (λ y. s y && u y) xs) ≡ cond (not b) None (Some x)) [
            | true ↦ refl
            | false ↦ find-not s u xs (h.0 e)
          ]
      | false ↦ λ e. find-once s u xs h.1
    ] refl

any-found : {X : Type 0} (t : X → Bool) (xs : List X) → list_any t xs ≡ is_some (find t xs)
any-found t [] = refl
any-found t (x ∷ xs) = elim (t x) as (λ b. (b || list_any t xs) ≡ is_some (cond b (Some x) (find t xs))) [ true ↦ refl | false ↦ any-found t xs ]

pub find-map : {X Y : Type 0} (f : X → Y) (t : Y → Bool) (xs : List X) → find t (map f xs) ≡ option_map f (find (λ x. t (f x)) xs)
find-map f t [] = refl
find-map f t (x ∷ xs) =
    elim (t (f x)) as (λ b. cond b (Some (f x)) (find t (map f xs)) ≡ option_map f (cond b (Some x) (find (λ y. t (f y)) xs))) [ true ↦ refl | false ↦ find-map f t xs ]

-- ---- one spot

-- no later pair is of the same spot
elsewhere : (a b k : Spot) → same_spot a k ≡ true → spot_before a b ≡ true → same_spot b k ≡ false
elsewhere a b k e h =
    let own : a ≡ k = same_spot-is a k e in
    let more : spot_before k b ≡ true = ap (λ (s : Spot). spot_before s b) (sym own) ∙ h in
    let other : not (same_spot b k) ≡ true = sym (other-spot b k) ∙ or_right (spot_before b k) (spot_before k b) more in
    not-true (same_spot b k) other

once-at : {V : Type 0} (k : Spot) (pairs : List (Spot × V)) → Ascends pair_before pairs → Once (λ p. same_spot p.0 k) pairs
once-at k [] h = tt
once-at k (p ∷ pairs) h = (λ e. Every-weaker (λ q. pair_before p q ≡ true) (λ q. same_spot q.0 k ≡ false) pairs (λ q l. elsewhere p.0 q.0 k e l) h.0, once-at k pairs h.1)

and-three : (a b c : Bool) → (a && (b && c)) ≡ ((a && b) && c)
and-three true b c = refl
and-three false b c = refl

-- a fact is that of a spot and a width where its pair is of the spot and its width is that
at-by-spot : {D : Type 0} (a : Area) (low : ℤ) (w : Width) (p : Spot × Held D) → is_at a low w (fact_at p) ≡ (same_spot p.0 (record { area = a; low = low }) && (bytes_of p.1.w == bytes_of w))
at-by-spot a low w p =
    and-three (same_area p.0.area a) (int_eq p.0.low low) (bytes_of p.1.w == bytes_of w)
    ∙ ap (λ b. b && (bytes_of p.1.w == bytes_of w)) (sym (same_spot-parts p.0 (record { area = a; low = low })))

width-value : {D : Type 0} (w : Width) (r : Option (Spot × Held D)) → option_map (λ (f : Fact D). f.value) (option_map fact_at (unless (λ p. not (bytes_of p.1.w == bytes_of w)) r)) ≡ value_of_width w (option_map (λ p. p.1) r)
width-value w None = refl
width-value {D} w (Some p) =
    elim (bytes_of p.1.w == bytes_of w) as (λ b. option_map (λ (f : Fact D). f.value) (option_map fact_at (cond (not b) None (Some p))) ≡ cond b (Some p.1.value) None) [ true ↦ refl | false ↦ refl ]

find-at : {D : Type 0} (a : Area) (low : ℤ) (w : Width) (pairs : List (Spot × Held D)) → Ascends pair_before pairs → find (is_at a low w) (map fact_at pairs) ≡ option_map fact_at (unless (λ p. not (bytes_of p.1.w == bytes_of w)) (find (λ p. same_spot p.0 (record { area = a; low = low })) pairs))
find-at {D} a low w pairs h =
    let k : Spot = record { area = a; low = low } in
    find-map (fact_at {D = D}) (is_at a low w) pairs
    ∙ ap (option_map (fact_at {D = D})) (find-same (λ p. is_at a low w (fact_at p)) (λ p. same_spot p.0 k && (bytes_of p.1.w == bytes_of w)) (λ p. at-by-spot a low w p) pairs)
    ∙ ap (option_map (fact_at {D = D})) (find-once (λ p. same_spot p.0 k) (λ p. bytes_of p.1.w == bytes_of w) pairs (once-at k pairs h))

-- what is found at a spot and a width
pub found-at : {D : Type 0} (a : Area) (low : ℤ) (w : Width) (pairs : List (Spot × Held D)) → Ascends pair_before pairs → found a low w (map fact_at pairs) ≡ value_of_width w (value_at (record { area = a; low = low }) pairs)
found-at {D} a low w pairs h =
    ap (option_map (λ (f : Fact D). f.value)) (find-at a low w pairs h)
    ∙ width-value w (find (λ p. same_spot p.0 (record { area = a; low = low })) pairs)

below-by : {D : Type 0} (d : Values D) (f : Fact D) (r : Option (Spot × Held D)) → is_some (unless (λ p. not ((bytes_of p.1.w == bytes_of f.w) && d.leq p.1.value f.value)) r) ≡ value_below d f (option_map (λ p. p.1) r)
below-by d f None = refl
below-by {D} d f (Some p) =
    elim ((bytes_of p.1.w == bytes_of f.w) && d.leq p.1.value f.value) as (λ b. is_some (let r : Option (Spot × Held D) = cond (not b) None (Some p) in r) ≡ b) [ true ↦ refl | false ↦ refl ]

some-mapped : {X Y : Type 0} (f : X → Y) (r : Option X) → is_some (option_map f r) ≡ is_some r
some-mapped f None = refl
some-mapped f (Some x) = refl

-- a fact is covered by the one of its spot
pub covered-at : {D : Type 0} (d : Values D) (f : Fact D) (pairs : List (Spot × Held D)) → Ascends pair_before pairs → covers_fact d (map fact_at pairs) f ≡ value_below d f (value_at (record { area = f.area; low = f.low }) pairs)
covered-at {D} d f pairs h =
    let k : Spot = record { area = f.area; low = f.low } in
    any-found (is_below d f) (map fact_at pairs)
    ∙ ap is_some (find-map (fact_at {D = D}) (is_below d f) pairs)
    ∙ some-mapped (fact_at {D = D}) (find (λ p. is_below d f (fact_at p)) pairs)
    ∙ ap is_some (find-same (λ p. is_below d f (fact_at p)) (λ p. same_spot p.0 k && ((bytes_of p.1.w == bytes_of f.w) && d.leq p.1.value f.value)) (λ p.
    ap (λ b. b && d.leq p.1.value f.value) (at-by-spot f.area f.low f.w p) ∙ sym (and-three (same_spot p.0 k) (bytes_of p.1.w == bytes_of f.w) (d.leq p.1.value f.value))) pairs)
    ∙ ap is_some (find-once (λ p. same_spot p.0 k) (λ p. (bytes_of p.1.w == bytes_of f.w) && d.leq p.1.value f.value) pairs (once-at k pairs h))
    ∙ below-by d f (find (λ p. same_spot p.0 k) pairs)

-- ---- a fact that gets a value or goes

found-none : {X : Type 0} (t : X → Bool) (xs : List X) → is_some (find t xs) ≡ false → Every (λ x. t x ≡ false) xs
found-none t [] e = tt
found-none t (x ∷ xs) e =
    elim (t x) as (λ b. t x ≡ b → is_some (cond b (Some x) (find t xs)) ≡ false → Every (λ y. t y ≡ false) (x ∷ xs)) [
      | true ↦ λ k q. absurd (false≢true (sym q))
      | false ↦ λ k q. (k, found-none t xs q)
    ] refl e

map-given : {D : Type 0} (a : Area) (low : ℤ) (w : Width) (v : D) (facts : List (Fact D)) → Every (λ f. is_at a low w f ≡ false) facts → map (fact_given a low w v) facts ≡ facts
map-given a low w v [] h = refl
map-given {D} a low w v (f ∷ facts) h =
    ap (λ b. (let g : Fact D = cond b (record { area = f.area; low = f.low; w = f.w; value = v }) f in g) ∷ map (fact_given a low w v) facts) h.0
    ∙ ap (λ fs. f ∷ fs) (map-given a low w v facts h.1)

-- without such a fact nothing changes
pub put-none : {D : Type 0} (d : Values D) (a : Area) (low : ℤ) (w : Width) (v : D) (facts : List (Fact D)) (r : Option D) → r ≡ found a low w facts → is_some r ≡ false → facts_put d a low w v facts ≡ facts
put-none d a low w v facts r e n =
    let none : Every (λ f. is_at a low w f ≡ false) facts = found-none (is_at a low w) facts (sym (some-mapped (λ f. f.value) (find (is_at a low w) facts)) ∙ ap is_some (sym e) ∙ n) in
    elim (d.rank v == 0) as (λ b. cond b (filter (λ f. not (is_at a low w f)) facts) (map (fact_given a low w v) facts) ≡ facts) [
      | true ↦ filter-all (λ f. not (is_at a low w f)) facts (Every-weaker (λ f. is_at a low w f ≡ false) (λ f. not (is_at a low w f) ≡ true) facts (λ f k. ap not k) none)
      | false ↦ map-given a low w v facts none
    ]

-- where an element passes both tests, which one at most does, the first test tells both
agree-once : {X : Type 0} (s u : X → Bool) (xs : List X) → Once s xs → is_some (find (λ x. s x && u x) xs) ≡ true → Every (λ x. s x ≡ (s x && u x)) xs
agree-once s u [] h e = tt
agree-once s u (x ∷ xs) h e =
    elim (s x) as (λ b. s x ≡ b → is_some (cond (b && u x) (Some x) (find (λ y. s y && u y) xs)) ≡ true → (b ≡ (b && u x)) × Every (λ y. s y ≡ (s y && u y)) xs) [
      | true ↦ λ k.
          elim (u x) as (λ b. is_some (cond b (Some x) (find (λ y. s y && u y) xs)) ≡ true → (true ≡ b) × Every (λ y. s y ≡ (s y && u y)) xs) [
            | true ↦ λ q. (refl, Every-weaker (λ y. s y ≡ false) (λ y. s y ≡ (s y && u y)) xs (λ y n. n ∙ sym (ap (λ b. b && u y) n)) (h.0 k))
            | false ↦ λ q. absurd (false≢true (sym (ap is_some (find-not s u xs (h.0 k))) ∙ q))
          ]
      | false ↦ λ k q. (refl, agree-once s u xs h.1 q)
    ] refl e

map-by : {X Y : Type 0} (f g : X → Y) (xs : List X) → Every (λ x. f x ≡ g x) xs → map f xs ≡ map g xs
map-by f g [] h = refl
map-by f g (x ∷ xs) h = ap (λ y. y ∷ map f xs) h.0 ∙ ap (λ ys. g x ∷ ys) (map-by f g xs h.1)

map-two : {X Y Z : Type 0} (f : X → Y) (g : Y → Z) (xs : List X) → map g (map f xs) ≡ map (λ x. g (f x)) xs
map-two f g [] = refl
map-two f g (x ∷ xs) = ap (λ ys. g (f x) ∷ ys) (map-two f g xs)

-- the pair, unless it is of a spot
abbrev changed : {V : Type 0} → Spot → V → Spot × V → Spot × V
changed k v p = cond (same_spot p.0 k) (k, v) p

map-elsewhere : {V : Type 0} (k : Spot) (v : V) (pairs : List (Spot × V)) → Every (λ p. same_spot p.0 k ≡ false) pairs → map (changed k v) pairs ≡ pairs
map-elsewhere k v [] h = refl
map-elsewhere {V} k v (p ∷ pairs) h =
    ap (λ b. (let q : Spot × V = cond b (k, v) p in q) ∷ map (changed k v) pairs) h.0 ∙ ap (λ ps. p ∷ ps) (map-elsewhere k v pairs h.1)

none-there : {X : Type 0} (s : X → Bool) (xs : List X) → Every (λ x. s x ≡ false) xs → find s xs ≡ None
none-there s [] h = refl
none-there s (x ∷ xs) h = ap (λ b. cond b (Some x) (find s xs)) h.0 ∙ none-there s xs h.1

not-same : (a k : Spot) → spot_before k a ≡ true → same_spot a k ≡ false
not-same a k h = not-true (same_spot a k) (sym (other-spot a k) ∙ or_right (spot_before a k) (spot_before k a) h)

itself : (k : Spot) → spot_before k k ≡ false
itself k =
    elim (spot_before k k) as (λ b. spot_before k k ≡ b → b ≡ false) [
      | true ↦ λ e. absurd (false≢true (sym (spots-apart k k e) ∙ e))
      | false ↦ λ e. refl
    ] refl

-- a pair in the place of the one of its spot
pub changed-around : {V : Type 0} (k : Spot) (v : V) (pairs : List (Spot × V)) → Ascends pair_before pairs → is_some (find (λ p. same_spot p.0 k) pairs) ≡ true → around (λ p. spot_before p.0 k) (Some (k, v)) (λ p. spot_before k p.0) pairs ≡ map (changed k v) pairs
changed-around k v [] h e = absurd (false≢true e)
changed-around {V} k v (p ∷ pairs) h e =
    let F = filter (λ q. spot_before q.0 k) pairs in
    let G = filter (λ q. spot_before k q.0) pairs in
    elim (same_spot p.0 k) as (λ b. same_spot p.0 k ≡ b → is_some (cond b (Some p) (find (λ q. same_spot q.0 k) pairs)) ≡ true → around (λ q. spot_before q.0 k) (Some (k, v)) (λ q. spot_before k q.0) (p ∷ pairs) ≡ (let q : Spot × V = cond b (k, v) p in q) ∷ map (changed k v) pairs) [
      | true ↦ λ s x.
          let own : p.0 ≡ k = same_spot-is p.0 k s in
          let first : spot_before p.0 k ≡ false = ap (λ (z : Spot). spot_before z k) own ∙ itself k in
          let last : spot_before k p.0 ≡ false = ap (λ (z : Spot). spot_before k z) own ∙ itself k in
          let right : Every (λ q. spot_before k q.0 ≡ true) pairs = Every-weaker (λ q. pair_before p q ≡ true) (λ q. spot_before k q.0 ≡ true) pairs (λ q l. ap (λ (z : Spot). spot_before z q.0) (sym own) ∙ l) h.0 in
          ap (λ b. cond b (p ∷ F) F ++ ((k, v) ∷ cond (spot_before k p.0) (p ∷ G) G)) first
          ∙ ap (λ ys. ys ++ ((k, v) ∷ cond (spot_before k p.0) (p ∷ G) G)) (filter-none (λ q. spot_before q.0 k) pairs (Every-weaker (λ q. spot_before k q.0 ≡ true) (λ q. spot_before q.0 k ≡ false) pairs (λ q l. spots-apart k q.0 l) right))
          ∙ ap (λ b. (k, v) ∷ cond b (p ∷ G) G) last
          ∙ ap (λ ys. (k, v) ∷ ys) (filter-all (λ q. spot_before k q.0) pairs right)
          ∙ ap (λ ys. (k, v) ∷ ys) (sym (map-elsewhere k v pairs (Every-weaker (λ q. spot_before k q.0 ≡ true) (λ q. same_spot q.0 k ≡ false) pairs (λ q l. not-same q.0 k l) right)))
      | false ↦ λ s x.
          elim (spot_before p.0 k) as (λ b. spot_before p.0 k ≡ b → cond b (p ∷ F) F ++ ((k, v) ∷ cond (spot_before k p.0) (p ∷ G) G) ≡ p ∷ map (changed k v) pairs) [
            | true ↦ λ l.
                ap (λ b. (p ∷ F) ++ ((k, v) ∷ cond b (p ∷ G) G)) (spots-apart p.0 k l) ∙ ap (λ ys. p ∷ ys) (changed-around k v pairs h.1 x)
            | false ↦ λ l.
                let past : spot_before k p.0 ≡ true = ap (λ b. b || spot_before k p.0) (sym l) ∙ other-spot p.0 k ∙ ap not s in
                absurd (false≢true (sym (ap is_some (none-there (λ q. same_spot q.0 k) pairs (Every-weaker (λ q. pair_before p q ≡ true) (λ q. same_spot q.0 k ≡ false) pairs (λ q m. not-same q.0 k (spot_before-trans k p.0 q.0 past m)) h.0))) ∙ x))
          ] refl
    ] refl e

some-weaker : {X : Type 0} (s u : X → Bool) (xs : List X) → is_some (find (λ x. s x && u x) xs) ≡ true → is_some (find s xs) ≡ true
some-weaker s u [] e = e
some-weaker s u (x ∷ xs) e =
    elim (s x) as (λ b. is_some (cond (b && u x) (Some x) (find (λ y. s y && u y) xs)) ≡ true → is_some (cond b (Some x) (find s xs)) ≡ true) [
      | true ↦ λ q. refl
      | false ↦ λ q. some-weaker s u xs q
    ] e

-- the pair of the fact's spot has its width
there-once : {D : Type 0} (new : Fact D) (pairs : List (Spot × Held D)) (r : Option D) → r ≡ found new.area new.low new.w (map fact_at pairs) → is_some r ≡ true → is_some (find (λ p. same_spot p.0 (pair_of_fact new).0 && (bytes_of p.1.w == bytes_of new.w)) pairs) ≡ true
there-once {D} new pairs r e n =
    let t = λ (p : Spot × Held D). same_spot p.0 (pair_of_fact new).0 && (bytes_of p.1.w == bytes_of new.w) in
    let same : found new.area new.low new.w (map fact_at pairs) ≡ option_map (λ (f : Fact D). f.value) (option_map fact_at (find t pairs)) =
    ap (option_map (λ (f : Fact D). f.value)) (find-map (fact_at {D = D}) (is_at new.area new.low new.w) pairs ∙ ap (option_map (fact_at {D = D})) (find-same (λ p. is_at new.area new.low new.w (fact_at p)) t (λ p. at-by-spot new.area new.low new.w p) pairs)) in
    sym (some-mapped (fact_at {D = D}) (find t pairs))
    ∙ sym (some-mapped (λ (f : Fact D). f.value) (option_map fact_at (find t pairs)))
    ∙ ap is_some (sym (e ∙ same))
    ∙ n

agree-there : {D : Type 0} (new : Fact D) (pairs : List (Spot × Held D)) (r : Option D) → Ascends pair_before pairs → r ≡ found new.area new.low new.w (map fact_at pairs) → is_some r ≡ true → Every (λ p. same_spot p.0 (pair_of_fact new).0 ≡ is_at new.area new.low new.w (fact_at p)) pairs
agree-there {D} new pairs r h e n =
    let k = (pair_of_fact new).0 in
    Every-weaker (λ p. same_spot p.0 k ≡ (same_spot p.0 k && (bytes_of p.1.w == bytes_of new.w))) (λ p. same_spot p.0 k ≡ is_at new.area new.low new.w (fact_at p)) pairs (λ p q. q ∙ sym (at-by-spot new.area new.low new.w p))
    (agree-once (λ p. same_spot p.0 k) (λ p. bytes_of p.1.w == bytes_of new.w) pairs (once-at k pairs h) (there-once new pairs r e n))

given-there : {D : Type 0} (new : Fact D) (p : Spot × Held D) → same_spot p.0 (pair_of_fact new).0 ≡ is_at new.area new.low new.w (fact_at p) → fact_at (changed (pair_of_fact new).0 (pair_of_fact new).1 p) ≡ fact_given new.area new.low new.w new.value (fact_at p)
given-there {D} new p e =
    elim (same_spot p.0 (pair_of_fact new).0) as (λ b. same_spot p.0 (pair_of_fact new).0 ≡ b → b ≡ is_at new.area new.low new.w (fact_at p) → fact_at (let q : Spot × Held D = cond b (pair_of_fact new) p in q) ≡ fact_given new.area new.low new.w new.value (fact_at p)) [
      | true ↦ λ s q.
          let own : p.0 ≡ (pair_of_fact new).0 = same_spot-is p.0 (pair_of_fact new).0 s in
          let parts = and_parts (same_area p.0.area new.area) (int_eq p.0.low new.low && (bytes_of p.1.w == bytes_of new.w)) (sym q) in
          let width : p.1.w ≡ new.w = same_width p.1.w new.w (and_parts (int_eq p.0.low new.low) (bytes_of p.1.w == bytes_of new.w) parts.1).1 in
          ap (λ (z : Spot). let f : Fact D = record { area = z.area; low = z.low; w = new.w; value = new.value } in f) (sym own)
          ∙ ap (λ (z : Width). let f : Fact D = record { area = p.0.area; low = p.0.low; w = z; value = new.value } in f) (sym width)
          ∙ ap (λ b. let f : Fact D = cond b (record { area = p.0.area; low = p.0.low; w = p.1.w; value = new.value }) (fact_at p) in f) q
      | false ↦ λ s q. ap (λ b. let f : Fact D = cond b (record { area = p.0.area; low = p.0.low; w = p.1.w; value = new.value }) (fact_at p) in f) q
    ] refl e

put-there : {D : Type 0} (d : Values D) (new : Fact D) (pairs : List (Spot × Held D)) (r : Option D) → Ascends pair_before pairs → r ≡ found new.area new.low new.w (map fact_at pairs) → is_some r ≡ true → map fact_at (around (λ p. spot_before p.0 (pair_of_fact new).0) (cond (d.rank new.value == 0) None (Some (pair_of_fact new))) (λ p. spot_before (pair_of_fact new).0 p.0) pairs) ≡ facts_put d new.area new.low new.w new.value (map fact_at pairs)
put-there {D} d new pairs r h e n =
    let k = (pair_of_fact new).0 in
    let agree = agree-there new pairs r h e n in
    let exists = some-weaker (λ p. same_spot p.0 k) (λ p. bytes_of p.1.w == bytes_of new.w) pairs (there-once new pairs r e n) in
    elim (d.rank new.value == 0) as (λ b. map fact_at (around (λ p. spot_before p.0 (pair_of_fact new).0) (cond b None (Some (pair_of_fact new))) (λ p. spot_before (pair_of_fact new).0 p.0) pairs) ≡ cond b (filter (λ f. not (is_at new.area new.low new.w f)) (map fact_at pairs)) (map (fact_given new.area new.low new.w new.value) (map fact_at pairs))) [
      | true ↦
          ap (map (fact_at {D = D})) (removed k pairs h)
          ∙ ap (map (fact_at {D = D})) (filter-by (λ p. not (same_spot p.0 k)) (λ p. not (is_at new.area new.low new.w (fact_at p))) pairs (Every-weaker (λ p. same_spot p.0 k ≡ is_at new.area new.low new.w (fact_at p)) (λ p. not (same_spot p.0 k) ≡ not (is_at new.area new.low new.w (fact_at p))) pairs (λ p q. ap not q) agree))
          ∙ map-filter (fact_at {D = D}) (λ f. not (is_at new.area new.low new.w f)) pairs
      | false ↦
          ap (map (fact_at {D = D})) (changed-around k (pair_of_fact new).1 pairs h exists)
          ∙ map-two (changed k (pair_of_fact new).1) (fact_at {D = D}) pairs
          ∙ map-by (λ p. fact_at (changed k (pair_of_fact new).1 p)) (λ p. fact_given new.area new.low new.w new.value (fact_at p)) pairs (Every-weaker (λ p. same_spot p.0 k ≡ is_at new.area new.low new.w (fact_at p)) (λ p. fact_at (changed k (pair_of_fact new).1 p) ≡ fact_given new.area new.low new.w new.value (fact_at p)) pairs (λ p q. given-there new p q) agree)
          ∙ sym (map-two (fact_at {D = D}) (fact_given new.area new.low new.w new.value) pairs)
    ]

-- ---- the same of what a call makes

pub put-made : {D E : Type 0} (d : Values D) (new : Fact D) (pair : Spot × Held D) (instead : Option (Spot × Held D)) (pairs : List (Spot × Held D)) (there : Option D) (r : Result (List (Spot × Held D)) E) → pair ≡ pair_of_fact new → instead ≡ cond (d.rank new.value == 0) None (Some (pair_of_fact new)) → Ascends pair_before pairs → there ≡ found new.area new.low new.w (map fact_at pairs) → is_some there ≡ true → IfOk r (λ all. all ≡ around (λ p. spot_before p.0 pair.0) instead (λ p. spot_before pair.0 p.0) pairs) → IfOk r (λ all. map fact_at all ≡ facts_put d new.area new.low new.w new.value (map fact_at pairs))
put-made {D} d new pair instead pairs there r s i h e n k =
    ok-mapped (fact_at {D = D}) r (around (λ p. spot_before p.0 pair.0) instead (λ p. spot_before pair.0 p.0) pairs) (facts_put d new.area new.low new.w new.value (map fact_at pairs))
    (ap (λ (z : Option (Spot × Held D)). map fact_at (around (λ p. spot_before p.0 pair.0) z (λ p. spot_before pair.0 p.0) pairs)) i
    ∙ ap (λ (z : Spot × Held D). map fact_at (around (λ p. spot_before p.0 z.0) (cond (d.rank new.value == 0) None (Some (pair_of_fact new))) (λ p. spot_before z.0 p.0) pairs)) s
    ∙ put-there d new pairs there h e n) k

put-ascends : {D : Type 0} (b : Bool) (new : Fact D) (pairs : List (Spot × Held D)) → Ascends pair_before pairs → Ascends pair_before (around (λ p. spot_before p.0 (pair_of_fact new).0) (cond b None (Some (pair_of_fact new))) (λ p. spot_before (pair_of_fact new).0 p.0) pairs)
put-ascends true new pairs h = removed-ascends (pair_of_fact new).0 pairs h
put-ascends false new pairs h = inserted-ascends (pair_of_fact new).0 (pair_of_fact new).1 pairs h

pub put-made-ascends : {D : Type 0} (d : Values D) (new : Fact D) (pair : Spot × Held D) (instead : Option (Spot × Held D)) (pairs : List (Spot × Held D)) → pair ≡ pair_of_fact new → instead ≡ cond (d.rank new.value == 0) None (Some (pair_of_fact new)) → Ascends pair_before pairs → Ascends pair_before (around (λ p. spot_before p.0 pair.0) instead (λ p. spot_before pair.0 p.0) pairs)
put-made-ascends {D} d new pair instead pairs s i h =
    subst (λ (z : Option (Spot × Held D)). Ascends pair_before (around (λ p. spot_before p.0 pair.0) z (λ p. spot_before pair.0 p.0) pairs)) (sym i)
    (subst (λ (z : Spot × Held D). Ascends pair_before (around (λ p. spot_before p.0 z.0) (cond (d.rank new.value == 0) None (Some (pair_of_fact new))) (λ p. spot_before z.0 p.0) pairs)) (sym s) (put-ascends (d.rank new.value == 0) new pairs h))

-- without such a fact a copy is what is wanted
pub put-copied : {D E : Type 0} (d : Values D) (new : Fact D) (pairs : List (Spot × Held D)) (there : Option D) (r : Result (List (Spot × Held D)) E) → there ≡ found new.area new.low new.w (map fact_at pairs) → is_some there ≡ false → IfOk r (λ all. all ≡ pairs) → IfOk r (λ all. map fact_at all ≡ facts_put d new.area new.low new.w new.value (map fact_at pairs))
put-copied {D} d new pairs there r e n k =
    ok-mapped (fact_at {D = D}) r pairs (facts_put d new.area new.low new.w new.value (map fact_at pairs)) (sym (put-none d new.area new.low new.w new.value (map fact_at pairs) there e n)) k
