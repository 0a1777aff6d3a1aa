-- Laws of lists that are cut where a test begins to fail, and of lists that lie in leaves.
use Rattle.std.proofs.Common.{◌≡◌, ℕ, suc, zero, ◌+◌, ◌<◌, ◌≤◌, Bool, true, false, cond, List, [], ◌∷◌, ◌++◌, length, get_or, map, filter, take, drop, Option, Some, None, refl, sym, ap, ◌∙◌, subst, arith, add-one, append_assoc}
use Rattle.std.specs.Prelude.{◌-◌, ◌==◌, slice_get, not, ◌||◌, ◌&&◌, find, option_to_list}
use Rattle.std.specs.List.{AllWithin, list_all, list_any}
use Rattle.std.specs.Option.{option_map}
use Rattle.std.specs.List.Sorted.{IsPartitionedBy}
use Rattle.std.proofs.lemmas.Bool.{false≢true, and_right}
use Rattle.std.proofs.lemmas.List.{append-nil, drop-drop, drop-take, drop_more, length-take-le, map-append, nil_from_length, take-append-drop, take_rest}
use Rattle.std.proofs.lemmas.List.Elements.{filter-append, filter_agree}
use Rattle.partitioned_memory.specs.Lists.{Every, Ascends, Falls, around, placed}
use Rattle.partitioned_memory.specs.Leaves.{IsLeaf, flattened, last_passes, unless}
use Rattle.partitioned_memory.proofs.ListLaws.{Every-map, Every-weaker}

-- ---- what holds of each element of two lists as one

pub Every-append : {X : Type 0} (P : X → Type 0) (xs ys : List X) → Every P xs → Every P ys → Every P (xs ++ ys)
Every-append P [] ys h k = k
Every-append P (x ∷ xs) ys h k = (h.0, Every-append P xs ys h.1 k)

pub Every-front : {X : Type 0} (P : X → Type 0) (xs ys : List X) → Every P (xs ++ ys) → Every P xs
Every-front P [] ys h = tt
Every-front P (x ∷ xs) ys h = (h.0, Every-front P xs ys h.1)

pub Every-back : {X : Type 0} (P : X → Type 0) (xs ys : List X) → Every P (xs ++ ys) → Every P ys
Every-back P [] ys h = h
Every-back P (x ∷ xs) ys h = Every-back P xs ys h.1

pub Every-take : {X : Type 0} (P : X → Type 0) (n : ℕ) (xs : List X) → Every P xs → Every P (take n xs)
Every-take P zero xs h = tt
Every-take P (suc n) [] h = tt
Every-take P (suc n) (x ∷ xs) h = (h.0, Every-take P n xs h.1)

pub Every-drop : {X : Type 0} (P : X → Type 0) (n : ℕ) (xs : List X) → Every P xs → Every P (drop n xs)
Every-drop P zero xs h = h
Every-drop P (suc n) [] h = tt
Every-drop P (suc n) (x ∷ xs) h = Every-drop P n xs h.1

-- ---- tests that fall

pub Falls-front : {X : Type 0} (t : X → Bool) (xs ys : List X) → Falls t (xs ++ ys) → Falls t xs
Falls-front t [] ys h = tt
Falls-front t (x ∷ xs) ys h = (λ e. Every-front (λ y. t y ≡ false) xs ys (h.0 e), Falls-front t xs ys h.1)

pub Falls-back : {X : Type 0} (t : X → Bool) (xs ys : List X) → Falls t (xs ++ ys) → Falls t ys
Falls-back t [] ys h = h
Falls-back t (x ∷ xs) ys h = Falls-back t xs ys h.1

-- in an ascending list a test falls that fails at a later element where it fails at an earlier one
pub Falls-ascending : {X : Type 0} (before : X → X → Bool) (t : X → Bool) (xs : List X) → ((x y : X) → before x y ≡ true → t x ≡ false → t y ≡ false) → Ascends before xs → Falls t xs
Falls-ascending before t [] f h = tt
Falls-ascending before t (x ∷ xs) f h =
    (λ e. Every-weaker (λ y. before x y ≡ true) (λ y. t y ≡ false) xs (λ y k. f x y k e) h.0, Falls-ascending before t xs f h.1)

pub Every-unmap : {X Y : Type 0} (f : X → Y) (P : Y → Type 0) (xs : List X) → Every P (map f xs) → Every (λ x. P (f x)) xs
Every-unmap f P [] h = tt
Every-unmap f P (x ∷ xs) h = (h.0, Every-unmap f P xs h.1)

pub Falls-map : {X Y : Type 0} (f : X → Y) (t : Y → Bool) (xs : List X) → Falls t (map f xs) → Falls (λ x. t (f x)) xs
Falls-map f t [] h = tt
Falls-map f t (x ∷ xs) h = (λ e. Every-unmap f (λ y. t y ≡ false) xs (h.0 e), Falls-map f t xs h.1)

-- ---- as a binary search has it

falls-at : {X : Type 0} (t : X → Bool) (xs : List X) (d : X) (j : ℕ) → Every (λ x. t x ≡ false) xs → j < length xs → t (get_or xs j d) ≡ false
falls-at t [] d j h l = absurd (omega (arith, l))
falls-at t (x ∷ xs) d zero h l = h.0
falls-at t (x ∷ xs) d (suc j) h l = falls-at t xs d j h.1 (omega (arith, l))

pub parted-by : {X : Type 0} (t : X → Bool) (xs : List X) → Falls t xs → IsPartitionedBy t xs
parted-by t [] h i j d le l e = absurd (omega (arith, l))
parted-by t (x ∷ xs) h zero zero d le l e = e
parted-by t (x ∷ xs) h (suc i) zero d le l e = absurd (omega (arith, le))
parted-by t (x ∷ xs) h (suc i) (suc j) d le l e = parted-by t xs h.1 i j d (omega (arith, le)) (omega (arith, l)) e
parted-by t (x ∷ xs) h zero (suc j) d le l e =
    elim (t x) as (λ b. t x ≡ b → b ≡ true) [
      | true ↦ λ k. refl
      | false ↦ λ k. absurd (false≢true (sym (falls-at t xs d j (h.0 k) (omega (arith, l))) ∙ e))
    ] refl

pub point-front : {X : Type 0} (P : X → Type 0) (xs : List X) (n : ℕ) → n ≤ length xs → AllWithin P xs 0 n → Every P (take n xs)
point-front P xs zero l h = tt
point-front P [] (suc n) l h = tt
point-front P (x ∷ xs) (suc n) l h =
    (h 0 x (omega arith) (omega arith), point-front P xs n (omega (arith, l)) (λ k d p q. h (suc k) d (omega arith) (omega (arith, q))))

pub point-back : {X : Type 0} (P : X → Type 0) (xs : List X) (n : ℕ) → AllWithin P xs n (length xs) → Every P (drop n xs)
point-back P [] zero h = tt
point-back P [] (suc n) h = tt
point-back P (x ∷ xs) zero h =
    (h 0 x (omega arith) (omega arith), point-back P xs 0 (λ k d p q. h (suc k) d (omega arith) (omega (arith, q))))
point-back P (x ∷ xs) (suc n) h = point-back P xs n (λ k d p q. h (suc k) d (omega (arith, p)) (omega (arith, q)))

-- ---- filters of a list that is cut

pub filter-all : {X : Type 0} (t : X → Bool) (xs : List X) → Every (λ x. t x ≡ true) xs → filter t xs ≡ xs
filter-all t [] h = refl
filter-all t (x ∷ xs) h = ap (λ b. cond b (x ∷ filter t xs) (filter t xs)) h.0 ∙ ap (λ ys. x ∷ ys) (filter-all t xs h.1)

pub filter-none : {X : Type 0} (t : X → Bool) (xs : List X) → Every (λ x. t x ≡ false) xs → filter t xs ≡ []
filter-none t [] h = refl
filter-none t (x ∷ xs) h = ap (λ b. cond b (x ∷ filter t xs) (filter t xs)) h.0 ∙ filter-none t xs h.1

pub cut-front : {X : Type 0} (t : X → Bool) (xs ys : List X) → Every (λ x. t x ≡ true) xs → Every (λ x. t x ≡ false) ys → filter t (xs ++ ys) ≡ xs
cut-front t xs ys h k =
    filter-append t xs ys ∙ ap (λ zs. zs ++ filter t ys) (filter-all t xs h) ∙ ap (λ zs. xs ++ zs) (filter-none t ys k) ∙ append-nil xs

pub cut-back : {X : Type 0} (t : X → Bool) (xs ys : List X) → Every (λ x. t x ≡ true) xs → Every (λ x. t x ≡ false) ys → filter (λ x. not (t x)) (xs ++ ys) ≡ ys
cut-back t xs ys h k =
    filter-append (λ x. not (t x)) xs ys
    ∙ ap (λ zs. zs ++ filter (λ x. not (t x)) ys) (filter-none (λ x. not (t x)) xs (Every-weaker (λ x. t x ≡ true) (λ x. not (t x) ≡ false) xs (λ x e. ap not e) h))
    ∙ filter-all (λ x. not (t x)) ys (Every-weaker (λ x. t x ≡ false) (λ x. not (t x) ≡ true) ys (λ x e. ap not e) k)

-- ---- the last element of a leaf

last-place : (n : ℕ) → suc (suc n) - 1 ≡ suc (suc n - 1)
last-place n = omega arith

pub last-read : {X : Type 0} (t : X → Bool) (xs : List X) (x : X) → Some x ≡ slice_get xs (length xs - 1) → t x ≡ last_passes t xs
last-read t [] x e = absurd (cc)
last-read t (y ∷ []) x e = let same : x ≡ y = cc in ap t same
last-read t (y ∷ z ∷ zs) x e = last-read t (z ∷ zs) x (e ∙ ap (slice_get (y ∷ z ∷ zs)) (last-place (length zs)))

last-none : {X : Type 0} (t : X → Bool) (xs : List X) → Every (λ x. t x ≡ false) xs → last_passes t xs ≡ false
last-none t [] h = refl
last-none t (x ∷ []) h = h.0
last-none t (x ∷ y ∷ ys) h = last-none t (y ∷ ys) h.1

last-true : {X : Type 0} (t : X → Bool) (xs : List X) → Falls t xs → last_passes t xs ≡ true → Every (λ x. t x ≡ true) xs
last-true t [] f e = tt
last-true t (x ∷ []) f e = (e, tt)
last-true t (x ∷ y ∷ ys) f e =
    elim (t x) as (λ b. t x ≡ b → (b ≡ true) × Every (λ z. t z ≡ true) (y ∷ ys)) [
      | true ↦ λ k. (refl, last-true t (y ∷ ys) f.1 e)
      | false ↦ λ k. absurd (false≢true (sym (last-none t (y ∷ ys) (f.0 k)) ∙ e))
    ] refl

last-false : {X : Type 0} (t : X → Bool) (xs ys : List X) → Falls t (xs ++ ys) → 0 < length xs → last_passes t xs ≡ false → Every (λ x. t x ≡ false) ys
last-false t [] ys f l e = absurd (omega (arith, l))
last-false t (x ∷ []) ys f l e = f.0 e
last-false t (x ∷ y ∷ zs) ys f l e = last-false t (y ∷ zs) ys f.1 (omega arith) e

last-all : {X : Type 0} (t : X → Bool) (xs : List X) → 0 < length xs → Every (λ x. t x ≡ true) xs → last_passes t xs ≡ true
last-all t [] l h = absurd (omega (arith, l))
last-all t (x ∷ []) l h = h.0
last-all t (x ∷ y ∷ ys) l h = last-all t (y ∷ ys) (omega arith) h.1

-- ---- leaves

flattened-append : {X : Type 0} (xss yss : List (List X)) → flattened (xss ++ yss) ≡ flattened xss ++ flattened yss
flattened-append [] yss = refl
flattened-append (xs ∷ xss) yss = ap (λ zs. xs ++ zs) (flattened-append xss yss) ∙ sym (append_assoc xs (flattened xss) (flattened yss))

none-of-leaves : {X : Type 0} (t : X → Bool) (xss : List (List X)) → Every (λ x. t x ≡ false) (flattened xss) → Every (λ xs. last_passes t xs ≡ false) xss
none-of-leaves t [] h = tt
none-of-leaves t (xs ∷ xss) h =
    (last-none t xs (Every-front (λ x. t x ≡ false) xs (flattened xss) h), none-of-leaves t xss (Every-back (λ x. t x ≡ false) xs (flattened xss) h))

-- a test that falls along the pairs falls along the leaves, at the last pair of each
pub Falls-leaves : {X : Type 0} (t : X → Bool) (xss : List (List X)) → Falls t (flattened xss) → Every IsLeaf xss → Falls (last_passes t) xss
Falls-leaves t [] f h = tt
Falls-leaves t (xs ∷ xss) f h =
    (λ e. none-of-leaves t xss (last-false t xs (flattened xss) f h.0.filled e), Falls-leaves t xss (Falls-back t xs (flattened xss) f) h.1)

all-in-leaves : {X : Type 0} (t : X → Bool) (xss : List (List X)) → Falls t (flattened xss) → Every (λ xs. last_passes t xs ≡ true) xss → Every (λ x. t x ≡ true) (flattened xss)
all-in-leaves t [] f h = tt
all-in-leaves t (xs ∷ xss) f h =
    Every-append (λ x. t x ≡ true) xs (flattened xss) (last-true t xs (Falls-front t xs (flattened xss) f) h.0) (all-in-leaves t xss (Falls-back t xs (flattened xss) f) h.1)

-- where a list of leaves is cut: before the first leaf whose last pair fails, or before the last leaf
pub Falls-take : {X : Type 0} (t : X → Bool) (n : ℕ) (xs : List X) → Falls t xs → Falls t (take n xs)
Falls-take t zero xs h = tt
Falls-take t (suc n) [] h = tt
Falls-take t (suc n) (x ∷ xs) h = (λ e. Every-take (λ y. t y ≡ false) n xs (h.0 e), Falls-take t n xs h.1)

pub place-of-leaf : {A : Type 0} (q : A → Bool) (ls : List A) (x : A) (n at : ℕ) → suc n ≡ length ls → at ≤ n → x ≡ get_or ls at x → Every (λ a. q a ≡ true) (take at (take n ls)) → Every (λ a. q a ≡ false) (drop at (take n ls)) → Every (λ a. q a ≡ true) (take at ls) × ((drop (suc at) ls ≡ [] → ⊥) → q x ≡ false)
place-of-leaf q [] x n at e l is h k = absurd (omega (arith, e))
place-of-leaf q (a ∷ ls) x zero zero e l is h k =
    let short : length ls ≡ 0 = omega (arith, e) in
    (tt, λ more. absurd (more (nil_from_length ls short)))
place-of-leaf q (a ∷ ls) x zero (suc at) e l is h k = absurd (omega (arith, l))
place-of-leaf q (a ∷ ls) x (suc n) zero e l is h k = (tt, λ more. ap q is ∙ k.0)
place-of-leaf q (a ∷ ls) x (suc n) (suc at) e l is h k =
    let r = place-of-leaf q ls x n at (omega (arith, e)) (omega (arith, l)) is h.1 k in
    ((h.0, r.0), r.1)

pub split-there : {A : Type 0} (ls : List A) (x : A) (at : ℕ) → at < length ls → x ≡ get_or ls at x → ls ≡ take at ls ++ (x ∷ drop (suc at) ls)
split-there [] x at l is = absurd (omega (arith, l))
split-there (a ∷ ls) x zero l is = ap (λ y. y ∷ ls) (sym is)
split-there (a ∷ ls) x (suc at) l is = ap (λ ys. a ∷ ys) (split-there ls x at (omega (arith, l)) is)

-- a list of leaves is cut within a leaf, where a test begins to fail
pub record IsCut {X : Type 0} (t : X → Bool) (all before : List (List X)) (left right : List X) (after : List (List X)) : Type 0 where
  pub front : flattened before ++ left ≡ filter t (flattened all)
  pub back : right ++ flattened after ≡ filter (λ x. not (t x)) (flattened all)
  pub next : right ≡ [] → flattened after ≡ []
  pub leaves_before : Every IsLeaf before
  pub leaves_after : Every IsLeaf after

rest-fails : {X : Type 0} (t : X → Bool) (ys : List X) (after : List (List X)) → Falls t (ys ++ flattened after) → 0 < length ys → ((after ≡ [] → ⊥) → last_passes t ys ≡ false) → Every (λ x. t x ≡ false) (flattened after)
rest-fails t ys [] f l h = tt
rest-fails t ys (z ∷ zs) f l h = last-false t ys (flattened (z ∷ zs)) f l (h (λ e. cc))

none-left : {X : Type 0} (t : X → Bool) (ys left right : List X) (after : List (List X)) → ys ≡ left ++ right → 0 < length ys → Every (λ x. t x ≡ true) left → ((after ≡ [] → ⊥) → last_passes t ys ≡ false) → right ≡ [] → flattened after ≡ []
none-left t ys left right [] s l h k e = refl
none-left t ys left right (z ∷ zs) s l h k e =
    let same : ys ≡ left = s ∙ ap (λ r. left ++ r) e ∙ append-nil left in
    absurd (false≢true (sym (k (λ q. cc)) ∙ last-all t ys l (subst (Every (λ x. t x ≡ true)) (sym same) h)))

pub cut-there : {X : Type 0} (t : X → Bool) (before : List (List X)) (ys left right : List X) (after : List (List X)) → ys ≡ left ++ right → Falls t (flattened (before ++ ys ∷ after)) → Every IsLeaf (before ++ ys ∷ after) → Every (λ xs. last_passes t xs ≡ true) before → ((after ≡ [] → ⊥) → last_passes t ys ≡ false) → Every (λ x. t x ≡ true) left → Every (λ x. t x ≡ false) right → IsCut t (before ++ ys ∷ after) before left right after
cut-there t before ys left right after s f leaves h k p q =
    let whole : flattened (before ++ ys ∷ after) ≡ flattened before ++ (ys ++ flattened after) = flattened-append before (ys ∷ after) in
    let parted : flattened (before ++ ys ∷ after) ≡ (flattened before ++ left) ++ (right ++ flattened after) =
    whole
    ∙ ap (λ zs. flattened before ++ (zs ++ flattened after)) s
    ∙ ap (λ zs. flattened before ++ zs) (append_assoc left right (flattened after))
    ∙ sym (append_assoc (flattened before) left (right ++ flattened after)) in
    let falls : Falls t (flattened before ++ (ys ++ flattened after)) = subst (Falls t) whole f in
    let own = Every-back IsLeaf before (ys ∷ after) leaves in
    let first : Every (λ x. t x ≡ true) (flattened before ++ left) = Every-append (λ x. t x ≡ true) (flattened before) left (all-in-leaves t before (Falls-front t (flattened before) (ys ++ flattened after) falls) h) p in
    let rest : Every (λ x. t x ≡ false) (right ++ flattened after) = Every-append (λ x. t x ≡ false) right (flattened after) q (rest-fails t ys after (Falls-back t (flattened before) (ys ++ flattened after) falls) own.0.filled k) in
    record {
      front = sym (ap (filter t) parted ∙ cut-front t (flattened before ++ left) (right ++ flattened after) first rest);
      back = sym (ap (filter (λ x. not (t x))) parted ∙ cut-back t (flattened before ++ left) (right ++ flattened after) first rest);
      next = none-left t ys left right after s own.0.filled p k;
      leaves_before = Every-front IsLeaf before (ys ∷ after) leaves;
      leaves_after = own.1;
    }

-- the same for shared leaves
pub cut-leaves : {A X : Type 0} (f : A → List X) (t : X → Bool) (ls : List A) (x : A) (n at here : ℕ) (after : List A) → suc n ≡ length ls → at ≤ n → x ≡ get_or ls at x → after ≡ drop (suc at) ls → Falls t (flattened (map f ls)) → Every IsLeaf (map f ls) → Every (λ a. last_passes t (f a) ≡ true) (take at (take n ls)) → Every (λ a. last_passes t (f a) ≡ false) (drop at (take n ls)) → Every (λ y. t y ≡ true) (take here (f x)) → Every (λ y. t y ≡ false) (drop here (f x)) → IsCut t (map f ls) (map f (take at ls)) (take here (f x)) (drop here (f x)) (map f after)
cut-leaves {A} {X} f t ls x n at here after e l is is_after falls leaves h k p q =
    let there = place-of-leaf (λ a. last_passes t (f a)) ls x n at e l is h k in
    let split : ls ≡ take at ls ++ (x ∷ drop (suc at) ls) = split-there ls x at (omega (arith, e, l)) is in
    let same : map f ls ≡ map f (take at ls) ++ (f x ∷ map f (drop (suc at) ls)) = ap (map f) split ∙ map-append f (take at ls) (x ∷ drop (suc at) ls) in
    let made : IsCut t (map f (take at ls) ++ (f x ∷ map f (drop (suc at) ls))) (map f (take at ls)) (take here (f x)) (drop here (f x)) (map f (drop (suc at) ls)) =
    cut-there t (map f (take at ls)) (f x) (take here (f x)) (drop here (f x)) (map f (drop (suc at) ls)) (sym (take-append-drop here (f x)))
    (subst (λ xss. Falls t (flattened xss)) same falls) (subst (Every IsLeaf) same leaves)
    (Every-map (λ a. last_passes t (f a) ≡ true) (λ xs. last_passes t xs ≡ true) f (take at ls) (λ a b. b) there.0)
    (λ more. there.1 (λ none. more (ap (map f) none))) p q in
    subst (λ (zs : List A). IsCut t (map f ls) (map f (take at ls)) (take here (f x)) (drop here (f x)) (map f zs)) (sym is_after)
    (subst (λ (xss : List (List X)). IsCut t xss (map f (take at ls)) (take here (f x)) (drop here (f x)) (map f (drop (suc at) ls))) (sym same) made)

-- ---- leaves that are appended

pub leaf-pushed : {X : Type 0} (ps qs : List (List X)) (first others rest all : List X) → qs ≡ ps ++ first ∷ [] → rest ≡ first ++ others → flattened ps ++ rest ≡ all → flattened qs ++ others ≡ all
leaf-pushed ps qs first others rest all e s h =
    ap (λ zs. flattened zs ++ others) e
    ∙ ap (λ zs. zs ++ others) (flattened-append ps (first ∷ []))
    ∙ append_assoc (flattened ps) (first ++ []) others
    ∙ ap (λ zs. flattened ps ++ (zs ++ others)) (append-nil first)
    ∙ ap (λ zs. flattened ps ++ zs) (sym s)
    ∙ h

pub leaves-pushed : {X : Type 0} (ps qs : List (List X)) (first : List X) → qs ≡ ps ++ first ∷ [] → 0 < length first → length first ≤ 64 → Every IsLeaf ps → Every IsLeaf qs
leaves-pushed ps qs first e l m h = subst (Every IsLeaf) (sym e) (Every-append IsLeaf ps (first ∷ []) h (record { filled = l; bounded = m }, tt))

nonzero : (n : ℕ) (b : Bool) → b ≡ (n == 0) → b ≡ false → 0 < n
nonzero zero b e h = absurd (false≢true (sym h ∙ e))
nonzero (suc n) b e h = omega arith

-- the same, by what the calls tell
pub cut-found : {A X : Type 0} (f : A → List X) (t : X → Bool) (ls others after : List A) (x : A) (at here : ℕ) (ys left right : List X) (empty : Bool) → empty ≡ (length ls == 0) → empty ≡ false → others ≡ take (length ls - 1) ls → at ≤ length others → x ≡ get_or ls at x → after ≡ take (length ls - (at + 1)) (drop (at + 1) ls) → ys ≡ f x → left ≡ take here ys → right ≡ drop here ys → Falls t (flattened (map f ls)) → Every IsLeaf (map f ls) → Every (λ a. last_passes t (f a) ≡ true) (take at others) → Every (λ a. last_passes t (f a) ≡ false) (drop at others) → Every (λ y. t y ≡ true) (take here ys) → Every (λ y. t y ≡ false) (drop here ys) → IsCut t (map f ls) (map f (take at ls)) left right (map f after)
cut-found {A} {X} f t ls others after x at here ys left right empty is_empty filled is_others within is is_after is_ys is_left is_right falls leaves h k p q =
    let some : 0 < length ls = nonzero (length ls) empty is_empty filled in
    let short : length (take (length ls - 1) ls) ≡ length ls - 1 = length-take-le (length ls - 1) ls (omega arith) in
    let low : at ≤ length (take (length ls - 1) ls) = subst (λ (zs : List A). at ≤ length zs) is_others within in
    let rest : after ≡ drop (suc at) ls = is_after ∙ take_rest ls (at + 1) ∙ ap (λ n. drop n ls) (add-one at) in
    let made : IsCut t (map f ls) (map f (take at ls)) (take here (f x)) (drop here (f x)) (map f after) =
    cut-leaves f t ls x (length ls - 1) at here after (omega (arith, some)) (omega (arith, low, short)) is rest falls leaves
    (subst (λ (zs : List A). Every (λ a. last_passes t (f a) ≡ true) (take at zs)) is_others h)
    (subst (λ (zs : List A). Every (λ a. last_passes t (f a) ≡ false) (drop at zs)) is_others k)
    (subst (λ (zs : List X). Every (λ y. t y ≡ true) (take here zs)) is_ys p)
    (subst (λ (zs : List X). Every (λ y. t y ≡ false) (drop here zs)) is_ys q) in
    subst (λ (zs : List X). IsCut t (map f ls) (map f (take at ls)) zs right (map f after)) (sym (is_left ∙ ap (take here) is_ys))
    (subst (λ (zs : List X). IsCut t (map f ls) (map f (take at ls)) (take here (f x)) zs (map f after)) (sym (is_right ∙ ap (drop here) is_ys)) made)

falls-there : {A X : Type 0} (f : A → List X) (t : X → Bool) (ls : List A) (x : A) (at : ℕ) → at < length ls → x ≡ get_or ls at x → Falls t (flattened (map f ls)) → Falls t (f x)
falls-there f t [] x at l is h = absurd (omega (arith, l))
falls-there f t (a ∷ ls) x zero l is h = subst (λ z. Falls t (f z)) (sym is) (Falls-front t (f a) (flattened (map f ls)) h)
falls-there f t (a ∷ ls) x (suc at) l is h = falls-there f t ls x at (omega (arith, l)) is (Falls-back t (f a) (flattened (map f ls)) h)

-- a test that falls along all pairs falls along those of a leaf
pub falls-found : {A X : Type 0} (f : A → List X) (t : X → Bool) (ls others : List A) (x : A) (at : ℕ) (ys : List X) (empty : Bool) → empty ≡ (length ls == 0) → empty ≡ false → others ≡ take (length ls - 1) ls → at ≤ length others → x ≡ get_or ls at x → ys ≡ f x → Falls t (flattened (map f ls)) → Falls t ys
falls-found {A} f t ls others x at ys empty is_empty filled is_others within is is_ys h =
    let some : 0 < length ls = nonzero (length ls) empty is_empty filled in
    let short : length (take (length ls - 1) ls) ≡ length ls - 1 = length-take-le (length ls - 1) ls (omega arith) in
    let low : at ≤ length (take (length ls - 1) ls) = subst (λ (zs : List A). at ≤ length zs) is_others within in
    subst (Falls t) (sym is_ys) (falls-there f t ls x at (omega (arith, low, short, some)) is h)

-- ---- lists around a stretch

pub around-none : {X : Type 0} (b a : X → Bool) (xs : List X) → ((x : X) → b x ≡ true → a x ≡ false) → Falls b xs → filter b xs ++ filter a xs ≡ filter (λ x. b x || a x) xs
around-none b a [] apart h = refl
around-none b a (x ∷ xs) apart h =
    elim (b x) as (λ s. b x ≡ s → cond s (x ∷ filter b xs) (filter b xs) ++ filter a (x ∷ xs) ≡ cond (s || a x) (x ∷ filter (λ y. b y || a y) xs) (filter (λ y. b y || a y) xs)) [
      | true ↦ λ e.
          ap (λ s. (x ∷ filter b xs) ++ cond s (x ∷ filter a xs) (filter a xs)) (apart x e) ∙ ap (λ ys. x ∷ ys) (around-none b a xs apart h.1)
      | false ↦ λ e.
          let none : filter b xs ≡ [] = filter-none b xs (h.0 e) in
          let rest : filter a xs ≡ filter (λ y. b y || a y) xs = ap (λ ys. ys ++ filter a xs) (sym none) ∙ around-none b a xs apart h.1 in
          ap (λ ys. ys ++ filter a (x ∷ xs)) none
          ∙ elim (a x) as (λ s. cond s (x ∷ filter a xs) (filter a xs) ≡ cond s (x ∷ filter (λ y. b y || a y) xs) (filter (λ y. b y || a y) xs)) [
            | true ↦ ap (λ ys. x ∷ ys) rest
            | false ↦ rest
          ]
    ] refl

pub placed-between : {X : Type 0} (before : X → X → Bool) (y : X) (xs ys : List X) → Every (λ x. before x y ≡ true) xs → Every (λ x. before x y ≡ false) ys → placed before y (xs ++ ys) ≡ xs ++ (y ∷ ys)
placed-between before y [] [] h k = refl
placed-between before y [] (x ∷ ys) h k = ap (λ b. cond b (x ∷ placed before y ys) (y ∷ x ∷ ys)) k.0
placed-between before y (x ∷ xs) ys h k =
    ap (λ b. cond b (x ∷ placed before y (xs ++ ys)) (y ∷ x ∷ (xs ++ ys))) h.0 ∙ ap (λ zs. x ∷ zs) (placed-between before y xs ys h.1 k)

pub around-nothing : {X : Type 0} (b a : X → Bool) (new : Option X) → around b new a [] ≡ option_to_list new
around-nothing b a new = append-nil (option_to_list new)

twice-not : (b : Bool) → not (not b) ≡ b
twice-not true = refl
twice-not false = refl

-- the pairs of leaves, with others appended
pub around-flattened : {X : Type 0} (b a : X → Bool) (new : Option X) (all : List X) (none one two three before after : List (List X)) (left right pairs : List X) → none ≡ [] → one ≡ none ++ before → flattened two ≡ flattened one ++ pairs → three ≡ two ++ after → pairs ≡ left ++ (option_to_list new ++ right) → flattened before ++ left ≡ filter b all → right ++ flattened after ≡ filter (λ x. not (not (a x))) all → flattened three ≡ around b new a all
around-flattened b a new all none one two three before after left right pairs e f g h s p q =
    ap flattened h
    ∙ flattened-append two after
    ∙ ap (λ zs. zs ++ flattened after) (g ∙ ap (λ zs. flattened zs ++ pairs) (f ∙ ap (λ zs. zs ++ before) e) ∙ ap (λ zs. flattened before ++ zs) s)
    ∙ ap (λ zs. zs ++ flattened after) (sym (append_assoc (flattened before) left (option_to_list new ++ right)))
    ∙ append_assoc (flattened before ++ left) (option_to_list new ++ right) (flattened after)
    ∙ ap (λ zs. (flattened before ++ left) ++ zs) (append_assoc (option_to_list new) right (flattened after))
    ∙ ap (λ zs. zs ++ (option_to_list new ++ (right ++ flattened after))) p
    ∙ ap (λ zs. filter b all ++ (option_to_list new ++ zs)) (q ∙ filter_agree (λ x. not (not (a x))) a (λ x. twice-not (a x)) all)

-- ---- the first element in a stretch

find-none : {X : Type 0} (b a : X → Bool) (xs : List X) → Every (λ x. not (a x) ≡ false) xs → find (λ x. not (b x) && not (a x)) xs ≡ None
find-none b a [] h = refl
find-none b a (x ∷ xs) h =
    ap (λ s. cond (not (b x) && s) (Some x) (find (λ y. not (b y) && not (a y)) xs)) h.0
    ∙ elim (b x) as (λ s. cond (not s && false) (Some x) (find (λ y. not (b y) && not (a y)) xs) ≡ None) [ true ↦ find-none b a xs h.1 | false ↦ find-none b a xs h.1 ]

pub first-found : {X : Type 0} (b a : X → Bool) (xs : List X) → Falls (λ x. not (a x)) xs → find (λ x. not (b x) && not (a x)) xs ≡ unless a (slice_get (filter (λ x. not (b x)) xs) 0)
first-found b a [] h = refl
first-found b a (x ∷ xs) h =
    elim (b x) as (λ s. cond (not s && not (a x)) (Some x) (find (λ y. not (b y) && not (a y)) xs) ≡ unless a (slice_get (cond (not s) (x ∷ filter (λ y. not (b y)) xs) (filter (λ y. not (b y)) xs)) 0)) [
      | true ↦ first-found b a xs h.1
      | false ↦ elim (a x) as (λ s. a x ≡ s → cond (not s) (Some x) (find (λ y. not (b y) && not (a y)) xs) ≡ cond s None (Some x)) [
        | true ↦ λ e. find-none b a xs (h.0 (ap not e))
        | false ↦ λ e. refl
      ] refl
    ]

pub head-right : {X : Type 0} (right more all : List X) → (right ≡ [] → more ≡ []) → right ++ more ≡ all → slice_get right 0 ≡ slice_get all 0
head-right [] more all h e = ap (λ zs. slice_get zs 0) (sym (h refl) ∙ e)
head-right (x ∷ right) more all h e = ap (λ zs. slice_get zs 0) e

-- ---- the elements in a stretch

drop-more : {X : Type 0} (s e : ℕ) (xs : List X) → s ≤ e → drop (e - s) (drop s xs) ≡ drop e xs
drop-more s e xs l = drop-drop (e - s) s xs ∙ ap (λ n. drop n xs) (omega (arith, l))

middle-filter : {X : Type 0} (b a : X → Bool) (xs : List X) → Every (λ x. b x ≡ false) xs → Every (λ x. not (a x) ≡ true) xs → filter (λ x. not (b x) && not (a x)) xs ≡ xs
middle-filter b a [] h k = refl
middle-filter b a (x ∷ xs) h k =
    ap (λ s. cond (not s && not (a x)) (x ∷ filter (λ y. not (b y) && not (a y)) xs) (filter (λ y. not (b y) && not (a y)) xs)) h.0
    ∙ ap (λ s. cond s (x ∷ filter (λ y. not (b y) && not (a y)) xs) (filter (λ y. not (b y) && not (a y)) xs)) k.0
    ∙ ap (λ ys. x ∷ ys) (middle-filter b a xs h.1 k.1)

before-filter : {X : Type 0} (b a : X → Bool) (xs : List X) → Every (λ x. b x ≡ true) xs → filter (λ x. not (b x) && not (a x)) xs ≡ []
before-filter b a [] h = refl
before-filter b a (x ∷ xs) h =
    ap (λ s. cond (not s && not (a x)) (x ∷ filter (λ y. not (b y) && not (a y)) xs) (filter (λ y. not (b y) && not (a y)) xs)) h.0 ∙ before-filter b a xs h.1

after-filter : {X : Type 0} (b a : X → Bool) (xs : List X) → Every (λ x. not (a x) ≡ false) xs → filter (λ x. not (b x) && not (a x)) xs ≡ []
after-filter b a xs h = filter-none (λ x. not (b x) && not (a x)) xs (Every-weaker (λ x. not (a x) ≡ false) (λ x. (not (b x) && not (a x)) ≡ false) xs (λ x e. and_right (not (b x)) (not (a x)) e) h)

rest-filter : {X : Type 0} (b a : X → Bool) (xs : List X) (s : ℕ) → Every (λ x. b x ≡ true) (take s xs) → filter (λ x. not (b x) && not (a x)) xs ≡ filter (λ x. not (b x) && not (a x)) (drop s xs)
rest-filter b a xs s h =
    ap (filter (λ x. not (b x) && not (a x))) (sym (take-append-drop s xs))
    ∙ filter-append (λ x. not (b x) && not (a x)) (take s xs) (drop s xs)
    ∙ ap (λ ys. ys ++ filter (λ x. not (b x) && not (a x)) (drop s xs)) (before-filter b a (take s xs) h)

-- those from where the stretch begins to where it ends
pub middle-is : {X : Type 0} (b a : X → Bool) (xs : List X) (s e : ℕ) → s ≤ e → Every (λ x. b x ≡ true) (take s xs) → Every (λ x. b x ≡ false) (drop s xs) → Every (λ x. not (a x) ≡ true) (take e xs) → Every (λ x. not (a x) ≡ false) (drop e xs) → take (e - s) (drop s xs) ≡ filter (λ x. not (b x) && not (a x)) xs
middle-is {X} b a xs s e l h k p q =
    let inner : take (e - s) (drop s xs) ≡ drop s (take e xs) = sym (ap (λ n. drop s (take n xs)) (omega (arith, l)) ∙ drop-take s (e - s) xs) in
    let whole : filter (λ x. not (b x) && not (a x)) (drop s xs) ≡ take (e - s) (drop s xs) =
    ap (filter (λ x. not (b x) && not (a x))) (sym (take-append-drop (e - s) (drop s xs)))
    ∙ filter-append (λ x. not (b x) && not (a x)) (take (e - s) (drop s xs)) (drop (e - s) (drop s xs))
    ∙ ap (λ ys. filter (λ x. not (b x) && not (a x)) (take (e - s) (drop s xs)) ++ ys) (after-filter b a (drop (e - s) (drop s xs)) (subst (Every (λ x. not (a x) ≡ false)) (sym (drop-more s e xs l)) q))
    ∙ append-nil (filter (λ x. not (b x) && not (a x)) (take (e - s) (drop s xs)))
    ∙ middle-filter b a (take (e - s) (drop s xs)) (Every-take (λ x. b x ≡ false) (e - s) (drop s xs) k) (subst (Every (λ x. not (a x) ≡ true)) (sym inner) (Every-drop (λ x. not (a x) ≡ true) s (take e xs) p)) in
    sym (rest-filter b a xs s h ∙ whole)

pub middle-none : {X : Type 0} (b a : X → Bool) (xs : List X) (s e : ℕ) → e ≤ s → Every (λ x. b x ≡ true) (take s xs) → Every (λ x. not (a x) ≡ false) (drop e xs) → filter (λ x. not (b x) && not (a x)) xs ≡ []
middle-none b a xs s e l h q =
    rest-filter b a xs s h
    ∙ after-filter b a (drop s xs) (subst (Every (λ x. not (a x) ≡ false)) (drop-more e s xs l) (Every-drop (λ x. not (a x) ≡ false) (s - e) (drop e xs) q))

-- ---- tests of all pairs, leaf by leaf

list_any-append : {X : Type 0} (t : X → Bool) (xs ys : List X) → list_any t (xs ++ ys) ≡ (list_any t xs || list_any t ys)
list_any-append t [] ys = refl
list_any-append t (x ∷ xs) ys = elim (t x) as (λ b. (b || list_any t (xs ++ ys)) ≡ ((b || list_any t xs) || list_any t ys)) [ true ↦ refl | false ↦ list_any-append t xs ys ]

list_all-append : {X : Type 0} (t : X → Bool) (xs ys : List X) → list_all t (xs ++ ys) ≡ (list_all t xs && list_all t ys)
list_all-append t [] ys = refl
list_all-append t (x ∷ xs) ys = elim (t x) as (λ b. (b && list_all t (xs ++ ys)) ≡ ((b && list_all t xs) && list_all t ys)) [ true ↦ list_all-append t xs ys | false ↦ refl ]

any-map : {X Y : Type 0} (f : X → Y) (t : Y → Bool) (xs : List X) → list_any t (map f xs) ≡ list_any (λ x. t (f x)) xs
any-map f t [] = refl
any-map f t (x ∷ xs) = ap (λ b. t (f x) || b) (any-map f t xs)

all-map : {X Y : Type 0} (f : X → Y) (t : Y → Bool) (xs : List X) → list_all t (map f xs) ≡ list_all (λ x. t (f x)) xs
all-map f t [] = refl
all-map f t (x ∷ xs) = ap (λ b. t (f x) && b) (all-map f t xs)

any-flattened : {A X Y : Type 0} (g : A → List X) (f : X → Y) (t : Y → Bool) (ls : List A) → list_any (λ a. list_any (λ x. t (f x)) (g a)) ls ≡ list_any t (map f (flattened (map g ls)))
any-flattened g f t [] = refl
any-flattened g f t (a ∷ ls) =
    ap (λ b. b || list_any (λ l. list_any (λ x. t (f x)) (g l)) ls) (sym (any-map f t (g a)))
    ∙ ap (λ b. list_any t (map f (g a)) || b) (any-flattened g f t ls)
    ∙ sym (ap (list_any t) (map-append f (g a) (flattened (map g ls))) ∙ list_any-append t (map f (g a)) (map f (flattened (map g ls))))

all-flattened : {A X Y : Type 0} (g : A → List X) (f : X → Y) (t : Y → Bool) (ls : List A) → list_all (λ a. list_all (λ x. t (f x)) (g a)) ls ≡ list_all t (map f (flattened (map g ls)))
all-flattened g f t [] = refl
all-flattened g f t (a ∷ ls) =
    ap (λ b. b && list_all (λ l. list_all (λ x. t (f x)) (g l)) ls) (sym (all-map f t (g a)))
    ∙ ap (λ b. list_all t (map f (g a)) && b) (all-flattened g f t ls)
    ∙ sym (ap (list_all t) (map-append f (g a) (flattened (map g ls))) ∙ list_all-append t (map f (g a)) (map f (flattened (map g ls))))

-- what a walk over the leaves tells of all pairs
pub any-of-leaves : {A X Y : Type 0} (g : A → List X) (f : X → Y) (t : Y → Bool) (ls : List A) (xs : List X) (r : Bool) → r ≡ list_any (λ a. list_any (λ x. t (f x)) (g a)) ls → flattened (map g ls) ≡ xs → r ≡ list_any t (map f xs)
any-of-leaves g f t ls xs r e s = e ∙ any-flattened g f t ls ∙ ap (λ ys. list_any t (map f ys)) s

pub all-of-leaves : {A X Y : Type 0} (g : A → List X) (f : X → Y) (t : Y → Bool) (ls : List A) (xs : List X) (r : Bool) → r ≡ list_all (λ a. list_all (λ x. t (f x)) (g a)) ls → flattened (map g ls) ≡ xs → r ≡ list_all t (map f xs)
all-of-leaves g f t ls xs r e s = e ∙ all-flattened g f t ls ∙ ap (λ ys. list_all t (map f ys)) s

-- ---- elements by their places

pub get-left : {X : Type 0} (xs ys : List X) (i : ℕ) → i < length xs → slice_get (xs ++ ys) i ≡ slice_get xs i
get-left [] ys i l = absurd (omega (arith, l))
get-left (x ∷ xs) ys zero l = refl
get-left (x ∷ xs) ys (suc i) l = get-left xs ys i (omega (arith, l))

pub get-right : {X : Type 0} (xs ys : List X) (i n : ℕ) → n + length xs ≡ i → slice_get (xs ++ ys) i ≡ slice_get ys n
get-right [] ys i n e = ap (slice_get ys) (omega (arith, e))
get-right (x ∷ xs) ys zero n e = absurd (omega (arith, e))
get-right (x ∷ xs) ys (suc i) n e = get-right xs ys i n (omega (arith, e))

pub get-map : {X Y : Type 0} (f : X → Y) (xs : List X) (i : ℕ) → option_map f (slice_get xs i) ≡ slice_get (map f xs) i
get-map f [] i = refl
get-map f (x ∷ xs) zero = refl
get-map f (x ∷ xs) (suc i) = get-map f xs i

-- ---- a walk over leaves

pub leaf-next : {A X : Type 0} (g : A → List X) (ls : List A) (i : ℕ) (a : A) → i < length ls → a ≡ get_or ls i a → flattened (map g (drop i ls)) ≡ g a ++ flattened (map g (drop (i + 1) ls))
leaf-next g ls i a l e = ap (λ zs. flattened (map g zs)) (drop_more ls i a l) ∙ ap (λ z. g z ++ flattened (map g (drop (i + 1) ls))) (sym e)

-- what is in the stretch, one leaf more
pub within-more : {A X : Type 0} (g : A → List X) (t : X → Bool) (ls : List A) (i : ℕ) (a : A) (out new : List X) (pairs all : List X) → i < length ls → a ≡ get_or ls i a → pairs ≡ g a → new ≡ out ++ filter t pairs → out ++ filter t (flattened (map g (drop i ls))) ≡ all → new ++ filter t (flattened (map g (drop (i + 1) ls))) ≡ all
within-more g t ls i a out new pairs all l e s n h =
    ap (λ zs. zs ++ filter t (flattened (map g (drop (i + 1) ls)))) (n ∙ ap (λ zs. out ++ filter t zs) s)
    ∙ append_assoc out (filter t (g a)) (filter t (flattened (map g (drop (i + 1) ls))))
    ∙ ap (λ zs. out ++ zs) (sym (filter-append t (g a) (flattened (map g (drop (i + 1) ls)))))
    ∙ ap (λ zs. out ++ filter t zs) (sym (leaf-next g ls i a l e))
    ∙ h

pub falls-first : {A X : Type 0} (g : A → List X) (t : X → Bool) (ls : List A) (i : ℕ) (a : A) (pairs : List X) → i < length ls → a ≡ get_or ls i a → pairs ≡ g a → Falls t (flattened (map g (drop i ls))) → Falls t pairs
falls-first g t ls i a pairs l e s h =
    subst (Falls t) (sym s) (Falls-front t (g a) (flattened (map g (drop (i + 1) ls))) (subst (Falls t) (leaf-next g ls i a l e) h))

pub falls-rest : {A X : Type 0} (g : A → List X) (t : X → Bool) (ls : List A) (i : ℕ) (a : A) → i < length ls → a ≡ get_or ls i a → Falls t (flattened (map g (drop i ls))) → Falls t (flattened (map g (drop (i + 1) ls)))
falls-rest g t ls i a l e h = Falls-back t (g a) (flattened (map g (drop (i + 1) ls))) (subst (Falls t) (leaf-next g ls i a l e) h)

-- the i-th pair, when those of a leaf are passed over, and in a leaf
pub nth-more : {A X : Type 0} (g : A → List X) (ls : List A) (i left rest : ℕ) (a : A) (pairs : List X) (o : Option X) → i < length ls → a ≡ get_or ls i a → pairs ≡ g a → rest + length pairs ≡ left → slice_get (flattened (map g (drop i ls))) left ≡ o → slice_get (flattened (map g (drop (i + 1) ls))) rest ≡ o
nth-more g ls i left rest a pairs o l e s k h =
    sym (get-right (g a) (flattened (map g (drop (i + 1) ls))) left rest (ap (λ zs. rest + length zs) (sym s) ∙ k)) ∙ ap (λ zs. slice_get zs left) (sym (leaf-next g ls i a l e)) ∙ h

pub nth-there : {A X : Type 0} (g : A → List X) (ls : List A) (i left : ℕ) (a : A) (pairs : List X) (o : Option X) → i < length ls → a ≡ get_or ls i a → pairs ≡ g a → left < length pairs → slice_get (flattened (map g (drop i ls))) left ≡ o → slice_get pairs left ≡ o
nth-there g ls i left a pairs o l e s k h =
    ap (λ zs. slice_get zs left) s
    ∙ sym (get-left (g a) (flattened (map g (drop (i + 1) ls))) left (subst (λ zs. left < length zs) s k))
    ∙ ap (λ zs. slice_get zs left) (sym (leaf-next g ls i a l e))
    ∙ h
