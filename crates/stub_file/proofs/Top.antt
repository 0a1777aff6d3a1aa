-- The top level, and the refusal that a fault is.
use Rattle.std.proofs.Common.{◌≡◌, ◌≤◌, ℕ, Bool, true, false, not, List, [], ◌∷◌, Option, Some, None, nat_eq, nat_le, unwrap_or, find, option_and_then, refl, sym, inl, inr, cond, arith}
use Rattle.std.specs.List.{list_all, list_any}
use Rattle.std.specs.Option.{option_map_or}
use Rattle.std.proofs.lemmas.Bool.{and_parts, eqb-true, false≢true, leb-true, not-false, or_cases}
use Rattle.memory_map.specs.Alignment.{is_alignment}
use Rattle.memory_map.specs.Name.{is_name}
use Rattle.memory_map.proofs.Alignments.{alignment_at_most}
use Rattle.toml.specs.Data.{Data, Members, as_table}
use Rattle.stub_file.specs.Document.{natural_at, natural_of, value_at}
use Rattle.stub_file.specs.Entries.{OrMemory}
use Rattle.stub_file.specs.Faults.{HasFault, is_out, is_out_of_range, stub_fault, stub_has, table_fault, table_has, top_fault}
use Rattle.stub_file.specs.Stubs.{IsDocument, Refuses, align_is_kept}
use Rattle.stub_file.specs.declared.fault.StubFault.{StubFault}
use Rattle.stub_file.specs.declared.fault.StubFault.TheVariants.{NotToml, UnknownKey, WrongKind, OutOfRange, Both, Memory}
use Rattle.stub_file.specs.declared.fault.TheConstants.{FAULTS}
use Rattle.stub_file.specs.declared.keys.Key.TheVariants as key
use Rattle.stub_file.specs.declared.keys.TheConstants.{TOP_KEYS}
use Rattle.stub_file.proofs.Tables.{at_most, find_all, none_at, not_found}

in_range : (t : Members) → top_fault t ≡ None → option_map_or (λ d. not (option_map_or is_alignment (natural_of d) false)) (value_at key.StackAlign t) false ≡ false
unfolding top_fault table_has is_out_of_range
in_range t h = none_at (is_out 0 t) TOP_KEYS 0 (not_found (λ fault. table_has TOP_KEYS [] 0 fault t) FAULTS 2 h)

pub align_fits : (t : Members) → top_fault t ≡ None → unwrap_or (natural_at key.StackAlign t) 0 ≤ 4096
align_fits t h = at_most is_alignment 4096 (value_at key.StackAlign t) alignment_at_most (in_range t h)

kept_number : (o : Option ℕ) → not (option_map_or is_alignment o false) ≡ false → align_is_kept o ≡ true
kept_number None h = absurd (false≢true (not-false false h))
kept_number (Some n) h = not-false (is_alignment n) h

kept : (o : Option Data) → option_map_or (λ d. not (option_map_or is_alignment (natural_of d) false)) o false ≡ false → align_is_kept (option_and_then natural_of o) ≡ true
kept None h = refl
kept (Some d) h = kept_number (natural_of d) h

pub align_kept : (t : Members) → top_fault t ≡ None → align_is_kept (natural_at key.StackAlign t) ≡ true
align_kept t h = kept (value_at key.StackAlign t) (in_range t h)

-- the faults of a document
abbrev is_told : StubFault → Bool
is_told NotToml = false
is_told Memory = false
is_told _ = true

pub record Tells (o : Option StubFault) : Type 0 where
  pub told : (fault : StubFault) → o ≡ Some fault → is_told fault ≡ true

first_tells : (has : StubFault → Bool) → Tells (find has FAULTS)
first_tells has = record { told = λ fault found. find_all is_told has FAULTS fault refl found }

table_tells : (o : Option Members) → Tells (option_map_or table_fault o (Some WrongKind))
unfolding table_fault
table_tells None = record { told = λ fault is. (let same : WrongKind ≡ fault = cc in rw (sym same)) }
table_tells (Some t) = first_tells (λ fault. stub_has fault t)

named_tells : (b : Bool) (o : Option StubFault) → Tells o → Tells (cond b o (Some UnknownKey))
named_tells true o h = h
named_tells false o h = record { told = λ fault is. (let same : UnknownKey ≡ fault = cc in rw (sym same)) }

stub_tells : (name : List ℕ) (d : Data) → Tells (stub_fault name d)
unfolding stub_fault
stub_tells name d = named_tells (is_name name) (option_map_or table_fault (as_table d) (Some WrongKind)) (table_tells (as_table d))

top_tells : (t : Members) → Tells (top_fault t)
unfolding top_fault
top_tells t = first_tells (λ fault. table_has TOP_KEYS [] 0 fault t)

document_tells : (t : Members) (fault : StubFault) → HasFault t fault → is_told fault ≡ true
document_tells t fault (inl h) = (top_tells t).told fault h
document_tells t fault (inr h) = (stub_tells h.1.name h.1.value).told fault h.1.has

pub refuses : (bytes : List ℕ) (t : Members) → IsDocument bytes t → (fault : StubFault) → OrMemory (HasFault t) fault → Refuses bytes fault
refuses bytes t read NotToml (inl e) = cc
refuses bytes t read NotToml (inr h) = absurd (false≢true (document_tells t NotToml h))
refuses bytes t read UnknownKey (inl e) = cc
refuses bytes t read UnknownKey (inr h) = (t, read, h)
refuses bytes t read WrongKind (inl e) = cc
refuses bytes t read WrongKind (inr h) = (t, read, h)
refuses bytes t read OutOfRange (inl e) = cc
refuses bytes t read OutOfRange (inr h) = (t, read, h)
refuses bytes t read Both (inl e) = cc
refuses bytes t read Both (inr h) = (t, read, h)
refuses bytes t read Memory h = tt
