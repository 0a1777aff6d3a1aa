-- The map of stubs beside the list that a contract sees.
use Rattle.std.proofs.Common.{◌≡◌, ◌∙◌, ℕ, Bool, true, false, cond, List, [], ◌∷◌, ◌++◌, map, Option, Some, None, IfSome, IsTrue, option_copied, Vec, Global, Bor, refl, ap, Ordering, Less, Greater, nat_cmp}
use Rattle.std.specs.BTreeMap.{insert_entry}
use Rattle.std.specs.Cmp.Lexicographic.{slice_cmp}
use Rattle.std.specs.List.{AllByRecursion}
use Rattle.std.specs.List.Sorted.{IsStrictlySortedBy}
use Rattle.std.specs.Map.{lookup}
use Rattle.std.specs.Ordering.{is_eq, ordering_reverse}
use Rattle.std.proofs.lemmas.Bool.{and_parts}
use Rattle.std.proofs.lemmas.Cmp.{nat_list_cmp_total}
use Rattle.toml.specs.Data.{same_key}
use Rattle.stub_file.specs.Entries.{Entry, are_own, named_of}
use Rattle.stub_file.specs.Stated.{has_own_arguments}
use Rattle.stub_file.specs.declared.stub.Stub.{Stub}

pub lookup_named : (name : List ℕ) (es : List Entry) → lookup (λ k. is_eq (slice_cmp nat_cmp name k.items)) es ≡ lookup (same_key name) (named_of es)
lookup_named name [] = refl
lookup_named name (e ∷ es) = ap (cond (same_key name e.0.items) (Some e.1)) (lookup_named name es)

own_or : (b : Bool) (s : Stub) (o : Option Stub) → has_own_arguments s ≡ true → IfSome o (λ s. IsTrue (has_own_arguments s)) → IfSome (cond b (Some s) o) (λ s. IsTrue (has_own_arguments s))
own_or true s o here rest = here
own_or false s o here rest = rest

pub own_found : (test : Vec ℕ Global → Bool) (es : List Entry) → are_own es ≡ true → IfSome (lookup test es) (λ s. IsTrue (has_own_arguments s))
own_found test [] h = tt
own_found test (e ∷ es) h =
    let parts = and_parts (has_own_arguments e.1) (are_own es) h in
    own_or (test e.0) e.1 (lookup test es) parts.0 (own_found test es parts.1)

pub copied : {X : Type 0} (P : X → Type 0) (r : Option (Bor X)) → IfSome (option_copied r) P → IfSome r (λ x. P x.now)
copied P None h = tt
copied P (Some x) h = h

-- a name after all others goes to the end
abbrev pub names_of : List Entry → List (List ℕ)
names_of es = map (λ e. e.0.items) es

later : (xs : List (List ℕ)) (x y : List ℕ) (ys : List (List ℕ)) → AllByRecursion (λ z. slice_cmp nat_cmp x z ≡ Less) (xs ++ y ∷ ys) → slice_cmp nat_cmp y x ≡ Greater
later [] x y ys h = nat_list_cmp_total.antisymm y x ∙ ap ordering_reverse h.0
later (z ∷ xs) x y ys h = later xs x y ys h.1

abbrev pub vec_cmp : Vec ℕ Global → Vec ℕ Global → Ordering
vec_cmp x y = slice_cmp nat_cmp x.items y.items

pub insert_last : (es : List Entry) (key : Vec ℕ Global) (stub : Stub) (ys : List (List ℕ)) → IsStrictlySortedBy (slice_cmp nat_cmp) (names_of es ++ key.items ∷ ys)
    → insert_entry vec_cmp es key stub ≡ es ++ (key, stub) ∷ []
unfolding IsStrictlySortedBy
insert_last [] key stub ys h = refl
insert_last (e ∷ es) key stub ys h =
    rw (later (names_of es) e.0.items key.items ys h.0) (ap (λ r. e ∷ r) (insert_last es key stub ys h.1))
