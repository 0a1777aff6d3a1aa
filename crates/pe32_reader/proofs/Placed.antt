-- Addresses at which names were read, and a descriptor of a library whose name is among these.
use Rattle.std.proofs.Common.{ℕ, ◌≡◌, inl, inr, Bool, true, false, cond, List, Option, Some, None, Result, Ok, Err, refl, sym, ap, ◌∙◌, subst}
use Rattle.std.specs.Prelude.{◌≢◌, ◌||◌, ◌==◌, is_some, OnOk}
use Rattle.std.specs.BTreeSet.{contains}
use Rattle.std.specs.Ordering.{nat_cmp}
use Rattle.std.proofs.lemmas.Bool.{eqb-true, false≢true, ne_eqb, or_cases}
use Rattle.memory_map.specs.Range.{Range}
use Rattle.file_pieces.specs.Found.{name_from}
use Rattle.pe_headers.specs.Headers.{address_from}
use Rattle.pe_headers.specs.declared.fault.PeFault.{PeFault}
use Rattle.pe_headers.specs.declared.fault.PeFault.TheVariants.{Imports}
use Rattle.pe32_reader.specs.declared.descriptor.Descriptor.{Descriptor}
use Rattle.pe32_reader.specs.declared.named_places.NamedPlaces.{NamedPlaces}
use Rattle.pe32_reader.specs.Imports.{ended, each_entry, Imported, thunk_step, descriptor_step, library_thunks, with_some_name, NAME_ROOM}
use Rattle.pe32_reader.specs.NamedPlaces.{AreNamed}
use Rattle.pe32_reader.proofs.Walks.{each-ended}

pub none_named : (ranges : List Range) (places : NamedPlaces) → ((a : ℕ) → contains nat_cmp places.held a ≡ false) → AreNamed ranges places
none_named ranges places none = record { each = λ a h. absurd (false≢true (sym (none a) ∙ h)) }

pub named_more : (ranges : List Range) (old places : NamedPlaces) (a : ℕ) → AreNamed ranges old → is_some (name_from ranges a NAME_ROOM) ≡ true
    → ((other : ℕ) → contains nat_cmp places.held other ≡ (a == other || contains nat_cmp old.held other)) → AreNamed ranges places
named_more ranges old places a h named more = record {
  each = λ other has. elim (or_cases (a == other) (contains nat_cmp old.held other) (sym (more other) ∙ has)) [
    | inl same ↦ (let Named : ℕ → Type 0 = λ n. is_some (name_from ranges n NAME_ROOM) ≡ true in subst Named (eqb-true a other same) named)
    | inr before ↦ h.each other before
  ];
}

-- a descriptor that has no thunk word, of a library that has a name
pub step_named : (ranges : List Range) (base : ℕ) (d : Descriptor) (seen : Imported) → is_some (name_from ranges (address_from base d.name) NAME_ROOM) ≡ true
    → library_thunks ranges base d ≡ ended → d.first_thunk ≢ 0 → descriptor_step ranges base d seen ≡ Ok seen
step_named ranges base d seen named none some = by (name_from ranges (address_from base d.name) NAME_ROOM) named
  where
    after : List ℕ → Result Imported PeFault
    after library = cond (d.first_thunk == 0) (Err Imports) (each_entry (thunk_step ranges base library) (library_thunks ranges base d) seen)

    by : (name : Option (List ℕ)) → is_some name ≡ true → with_some_name name after ≡ Ok seen
    by None h = absurd (false≢true h)
    by (Some library) h =
        ap (λ b. cond b (Err Imports) (each_entry (thunk_step ranges base library) (library_thunks ranges base d) seen)) (ne_eqb d.first_thunk 0 some)
        ∙ each-ended (thunk_step ranges base library) (library_thunks ranges base d) seen none

pub whatever : {T : Type 0} (r : Result T PeFault) (P : Type 0) → P → OnOk r P
whatever (Ok x) P h = h
whatever (Err e) P h = tt
