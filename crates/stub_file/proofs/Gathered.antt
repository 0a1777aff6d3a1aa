-- The stubs that were read so far, beside the table.
use Rattle.std.proofs.Common.{◌≡◌, ◌∙◌, ℕ, true, List, [], ◌∷◌, ◌++◌, map, Some, String, Global, string_bytes, append-nil, refl, ap, sym, subst, nat_cmp, inl, inr, Less}
use Rattle.std.specs.Cmp.Lexicographic.{slice_cmp}
use Rattle.std.specs.List.{AllByRecursion}
use Rattle.std.specs.List.Sorted.{IsStrictlySortedBy}
use Rattle.std.specs.Map.{keys_of}
use Rattle.std.specs.Option.{option_or}
use Rattle.std.specs.String.{string_cmp}
use Rattle.std.proofs.lemmas.Bool.{and_from, and_parts}
use Rattle.toml.specs.View.{members_view, view}
use Rattle.toml.specs.declared.value.Value.{Value}
use Rattle.stub_file.specs.Entries.{AreRead, Entry, OrMemory, Puts, are_own, named_of}
use Rattle.stub_file.specs.Faults.{IsFirstFault, stub_fault}
use Rattle.stub_file.specs.Stated.{has_own_arguments}
use Rattle.stub_file.specs.Stubs.{AreStubs}
use Rattle.stub_file.specs.declared.fault.StubFault.{StubFault}
use Rattle.stub_file.specs.declared.stub.Stub.{Stub}
use Rattle.stub_file.proofs.Entries.{insert_last, names_of}
use Rattle.stub_file.proofs.Lists.{keys_in-view}
use Rattle.stub_file.proofs.Order.{first_has, none_has, stubs_fault}

abbrev pub Row : Type 0
Row = String Global × Value

abbrev pub texts_of : List Row → List (List ℕ)
texts_of rows = map string_bytes (keys_of rows)

all_less : (k : String Global) (ks : List (String Global)) → AllByRecursion (λ y. string_cmp k y ≡ Less) ks → AllByRecursion (λ y. slice_cmp nat_cmp (string_bytes k) y ≡ Less) (map string_bytes ks)
all_less k [] h = tt
all_less k (x ∷ ks) h = (h.0, all_less k ks h.1)

sorted_texts : (ks : List (String Global)) → IsStrictlySortedBy string_cmp ks → IsStrictlySortedBy (slice_cmp nat_cmp) (map string_bytes ks)
unfolding IsStrictlySortedBy
sorted_texts [] h = tt
sorted_texts (k ∷ ks) h = (all_less k ks h.0, sorted_texts ks h.1)

named_last : (es : List Entry) (x : Entry) (more : List (List ℕ × Stub)) → named_of (es ++ x ∷ []) ++ more ≡ named_of es ++ (x.0.items, x.1) ∷ more
named_last [] x more = refl
named_last (e ∷ es) x more = ap (λ r. (e.0.items, e.1) ∷ r) (named_last es x more)

names_last : (es : List Entry) (x : Entry) (ys : List (List ℕ)) → names_of (es ++ x ∷ []) ++ ys ≡ names_of es ++ x.0.items ∷ ys
names_last [] x ys = refl
names_last (e ∷ es) x ys = ap (λ r. e.0.items ∷ r) (names_last es x ys)

own_last : (es : List Entry) (x : Entry) → are_own es ≡ true → has_own_arguments x.1 ≡ true → are_own (es ++ x ∷ []) ≡ true
own_last [] x h last = and_from (has_own_arguments x.1) true last refl
own_last (e ∷ es) x h last =
    let parts = and_parts (has_own_arguments e.1) (are_own es) h in
    and_from (has_own_arguments e.1) (are_own (es ++ x ∷ [])) parts.0 (own_last es x parts.1 last)

pub record Gathered (all : List Row) (done : List Entry) (rest : List Row) : Type 0 where
  pub sorted : IsStrictlySortedBy (slice_cmp nat_cmp) (texts_of all)
  pub fault : stubs_fault (members_view all) ≡ stubs_fault (members_view rest)
  pub stated : (more : List (List ℕ × Stub)) → AreStubs (members_view rest) more → AreStubs (members_view all) (named_of done ++ more)
  pub order : IsStrictlySortedBy (slice_cmp nat_cmp) (names_of done ++ texts_of rest)
  pub own : are_own done ≡ true

pub start : (all : List Row) → IsStrictlySortedBy string_cmp (keys_of all) → Gathered all [] all
start all h =
    let sorted = sorted_texts (keys_of all) h in
    record { sorted = sorted; fault = refl; stated = λ more s. s; order = sorted; own = refl }

pub step : (all : List Row) (done new : List Entry) (row : Row) (rest : List Row) → Gathered all done (row ∷ rest) → Puts (string_bytes row.0) (view row.1) done new → Gathered all new rest
step all done new row rest g p =
    let P : List ℕ → Type 0 = λ name. IsStrictlySortedBy (slice_cmp nat_cmp) (names_of done ++ name ∷ texts_of rest) in
    let order : P p.key.items = subst P (sym p.key_is) g.order in
    let last : new ≡ done ++ (p.key, p.stub) ∷ [] = p.after ∙ insert_last done p.key p.stub (texts_of rest) order in
    let Q : List Entry → Type 0 = λ es. Gathered all es rest in
    subst Q (sym last) (record {
      sorted = g.sorted;
      fault = g.fault ∙ ap (λ o. option_or o (stubs_fault (members_view rest))) p.faultless;
      stated = λ more s. (let R : List (List ℕ × Stub) → Type 0 = λ xs. AreStubs (members_view all) xs in
          subst R (sym (named_last done (p.key, p.stub) more)) (g.stated ((p.key.items, p.stub) ∷ more) (p.key_is, p.stated, s)));
      order = (let R : List (List ℕ) → Type 0 = λ xs. IsStrictlySortedBy (slice_cmp nat_cmp) xs in
          subst R (sym (names_last done (p.key, p.stub) (texts_of rest))) order);
      own = own_last done (p.key, p.stub) g.own p.own;
    })

pub finish : (all : List Row) (done : List Entry) → Gathered all done [] → AreRead (members_view all) done
finish all done g =
    let R : List (List ℕ × Stub) → Type 0 = λ xs. AreStubs (members_view all) xs in
    record { faultless = none_has (members_view all) g.fault; stated = subst R (append-nil (named_of done)) (g.stated [] tt); own = g.own }

first_fault : (all : List Row) (done : List Entry) (row : Row) (rest : List Row) (fault : StubFault) → Gathered all done (row ∷ rest) → stub_fault (string_bytes row.0) (view row.1) ≡ Some fault
    → IsFirstFault (members_view all) fault
first_fault all done row rest fault g h =
    let S : List (List ℕ) → Type 0 = λ names. IsStrictlySortedBy (slice_cmp nat_cmp) names in
    first_has (members_view all) (subst S (sym (keys_in-view all)) g.sorted) fault
    (g.fault ∙ ap (λ o. option_or o (stubs_fault (members_view rest))) h)

pub stop : (all : List Row) (done : List Entry) (row : Row) (rest : List Row) (fault : StubFault) → Gathered all done (row ∷ rest)
    → OrMemory (λ fault. stub_fault (string_bytes row.0) (view row.1) ≡ Some fault) fault → OrMemory (IsFirstFault (members_view all)) fault
stop all done row rest fault g (inl memory) = inl memory
stop all done row rest fault g (inr h) = inr (first_fault all done row rest fault g h)
