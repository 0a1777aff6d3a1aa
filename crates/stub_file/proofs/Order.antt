-- The first fault in the byte order of the names is the first in a table's own order.
use Rattle.std.proofs.Common.{◌≡◌, ◌∙◌, ◌⊎◌, ℕ, List, Option, Some, None, Ordering, Less, Equal, Greater, nat_cmp, refl, ap, sym, inl, inr}
use Rattle.std.specs.Cmp.Lexicographic.{slice_cmp}
use Rattle.std.specs.List.{AllByRecursion}
use Rattle.std.specs.List.Sorted.{IsStrictlySortedBy}
use Rattle.std.specs.Option.{option_or}
use Rattle.std.specs.Ordering.{is_eq, match_ordering, ordering_reverse}
use Rattle.std.proofs.lemmas.Cmp.{nat_list_cmp_total, tied_itself}
use Rattle.std.proofs.lemmas.Map.Text.{is_eq-slice_cmp}
use Rattle.std.proofs.lemmas.Slice.Eq.{bytes_eq-Decides}
use Rattle.toml.specs.Data.{Data, Members, no_members, member, get_member}
use Rattle.stub_file.specs.Document.{keys_in}
use Rattle.stub_file.specs.Faults.{AreFaultless, IsFirstFault, stub_fault}
use Rattle.stub_file.specs.declared.fault.StubFault.{StubFault}

-- the first fault in a table's own order
abbrev pub stubs_fault : Members → Option StubFault
stubs_fault no_members = None
stubs_fault (member name d t) = option_or (stub_fault name d) (stubs_fault t)

same_names : (a b : List ℕ) → slice_cmp nat_cmp a b ≡ Equal → a ≡ b
same_names a b h = (bytes_eq-Decides a b).0 (sym (is_eq-slice_cmp a b) ∙ ap is_eq h)

found_cases : (name key : List ℕ) (d e : Data) (t : Members) → get_member name (member key d t) ≡ Some e → ((name ≡ key) × (d ≡ e)) ⊎ (get_member name t ≡ Some e)
found_cases name key d e t found =
    let P : Ordering → Type 0 = λ o. slice_cmp nat_cmp name key ≡ o → match_ordering o (get_member name t) (Some d) (get_member name t) ≡ Some e
    → ((name ≡ key) × (d ≡ e)) ⊎ (get_member name t ≡ Some e) in
    (elim (slice_cmp nat_cmp name key) as P [
      | Less ↦ λ q h. inr h
      | Equal ↦ λ q h. inl (same_names name key q, cc)
      | Greater ↦ λ q h. inr h
    ]) refl found

found_itself : (key : List ℕ) (d : Data) (t : Members) → get_member key (member key d t) ≡ Some d
found_itself key d t = rw (tied_itself nat_list_cmp_total key)

passed : (name key : List ℕ) (d : Data) (t : Members) → slice_cmp nat_cmp key name ≡ Less → get_member name (member key d t) ≡ get_member name t
passed name key d t less =
    let greater : slice_cmp nat_cmp name key ≡ Greater = nat_list_cmp_total.antisymm name key ∙ ap ordering_reverse less in
    rw greater

not_less : (key : List ℕ) → slice_cmp nat_cmp key key ≡ Less → ⊥
not_less key h = (let e : Less ≡ Equal = sym h ∙ tied_itself nat_list_cmp_total key in cc)

-- what a table has comes after a name that comes before its keys
after : (key name : List ℕ) (e : Data) (t : Members) → AllByRecursion (λ y. slice_cmp nat_cmp key y ≡ Less) (keys_in t) → get_member name t ≡ Some e → slice_cmp nat_cmp key name ≡ Less
after key name e no_members h found = cc
after key name e (member other d t) h found =
    elim (found_cases name other d e t found) [
      | inl here ↦ rw (here.0) h.0
      | inr there ↦ after key name e t h.1 there
    ]

pub none_has : (t : Members) → stubs_fault t ≡ None → AreFaultless t
none_has no_members h name e found = cc
none_has (member key d t) h name e found =
    let parts = none_parts (stub_fault key d) (stubs_fault t) h in
    elim (found_cases name key d e t found) [
      | inl here ↦ rw (here.0, ← here.1) parts.0
      | inr there ↦ none_has t parts.1 name e there
    ]
  where
    none_parts : (o p : Option StubFault) → option_or o p ≡ None → (o ≡ None) × (p ≡ None)
    none_parts None p e = (refl, e)
    none_parts (Some f) p e = cc

here_first : (key : List ℕ) (d : Data) (t : Members) → AllByRecursion (λ y. slice_cmp nat_cmp key y ≡ Less) (keys_in t) → (fault : StubFault) → stub_fault key d ≡ Some fault
    → IsFirstFault (member key d t) fault
here_first key d t less fault h = record {
  name = key;
  value = d;
  there = found_itself key d t;
  has = h;
  before = λ other e found below. (elim (found_cases other key d e t found) [
    | inl here ↦ absurd (not_less key (rw (here.0) at below))
    | inr there ↦ absurd (not_less key (nat_list_cmp_total.trans key other key (after key other e t less there) below))
  ]);
}

later_first : (key : List ℕ) (d : Data) (t : Members) → AllByRecursion (λ y. slice_cmp nat_cmp key y ≡ Less) (keys_in t) → (fault : StubFault) → stub_fault key d ≡ None
    → IsFirstFault t fault → IsFirstFault (member key d t) fault
later_first key d t less fault none f = record {
  name = f.name;
  value = f.value;
  there = passed f.name key d t (after key f.name f.value t less f.there) ∙ f.there;
  has = f.has;
  before = λ other e found below. (elim (found_cases other key d e t found) [
    | inl here ↦ rw (here.0, ← here.1) none
    | inr there ↦ f.before other e there below
  ]);
}

pub first_has : (t : Members) → IsStrictlySortedBy (slice_cmp nat_cmp) (keys_in t) → (fault : StubFault) → stubs_fault t ≡ Some fault → IsFirstFault t fault
unfolding IsStrictlySortedBy
first_has no_members sorted fault h = cc
first_has (member key d t) sorted fault h =
    let P : Option StubFault → Type 0 = λ o. stub_fault key d ≡ o → option_or o (stubs_fault t) ≡ Some fault → IsFirstFault (member key d t) fault in
    (elim (stub_fault key d) as P [
      | None ↦ λ q e. later_first key d t sorted.0 fault q (first_has t sorted.1 fault e)
      | Some f ↦ λ q e. here_first key d t sorted.0 fault (q ∙ e)
    ]) refl h
