-- The imports of an image (PE/COFF specification, "The .idata Section"): for each library a descriptor, with a list of thunk words that say what is imported, and as many slots.
-- Addresses grow from entry to entry without passing 2^32: an entry is read only where it is in one segment, and segments end below.
use Rattle.std.specs.Prelude.{ℕ, zero, suc, ◌+◌, ◌*◌, ◌%◌, List, [], ◌∷◌, ◌++◌, ◌==◌, nat_le, length, Option, Some, None, Result, Ok, Err, codes, decimal, if◌then◌else◌}
use Rattle.std.specs.List.{list_all}
use Rattle.std.specs.Option.{option_map}
use Rattle.memory_map.specs.FileBytes.{word_at}
use Rattle.memory_map.specs.Range.{Range}
use Rattle.memory_map.specs.Image.{EXIT_PLACE}
use Rattle.memory_map.specs.Name.{is_name}
use Rattle.file_pieces.specs.Found.{bytes_at, is_in_one, name_from}
use Rattle.file_pieces.specs.Names.{index_of, with_name}
use Rattle.pe_headers.specs.Headers.{address_from}
use Rattle.pe_headers.specs.declared.fault.PeFault.{PeFault}
use Rattle.pe_headers.specs.declared.fault.PeFault.TheVariants.{Imports, Name, ManyImports}
use Rattle.pe32_reader.specs.declared.descriptor.Descriptor.{Descriptor}
use Rattle.pe32_reader.specs.declared.slots.Slot.{Slot}

-- entries of a table one after another, up to the one that ends it, or broken off where one cannot be read
pub data Entries (X : Type 0) : Type 0 where
  ended : Entries X
  broken : Entries X
  entry : X → Entries X → Entries X

-- what stands at the front of a table: nothing that can be read, its end, or an entry before others
abbrev pub entry_before : {X : Type 0} → Option (Option X) → Entries X → Entries X
entry_before None rest = broken
entry_before (Some None) rest = ended
entry_before (Some (Some x)) rest = entry x rest

-- the first fault, or what the second makes of the first's value
abbrev pub and_then : {A B : Type 0} → Result A PeFault → (A → Result B PeFault) → Result B PeFault
and_then (Ok x) f = f x
and_then (Err fault) f = Err fault

-- a step for each entry of a table in turn, as far as the first fault; that a table is broken off is one
abbrev pub each_entry : {X S : Type 0} → (X → S → Result S PeFault) → Entries X → S → Result S PeFault
each_entry step ended state = Ok state
each_entry step broken state = Err Imports
each_entry step (entry x rest) state = and_then (step x state) (λ next. each_entry step rest next)

-- "Import Directory Table": the descriptor of 20 bytes; where all are 0 it ends the table
abbrev pub descriptor_of : List ℕ → Option Descriptor
descriptor_of bytes =
    if list_all (λ b. b == 0) bytes then None
    else Some (record { original_first_thunk = word_at bytes 0; name = word_at bytes 12; first_thunk = word_at bytes 16 })

-- the descriptors from an address on, `count` of them at most
unfoldable pub descriptors : List Range → ℕ → ℕ → Entries Descriptor
descriptors ranges zero at = broken
descriptors ranges (suc count) at = entry_before (option_map descriptor_of (bytes_at ranges at 20)) (descriptors ranges count (at + 20))

-- no more descriptors than these have room below 2^32
abbrev pub MOST_DESCRIPTORS : ℕ
MOST_DESCRIPTORS = 214748365

-- a thunk word that says what is imported, and the address of its slot
pub record Thunk : Type 0 where
  pub word : ℕ
  pub slot : ℕ

-- "Import Lookup Table": a word of 0 ends it
abbrev pub thunk_of : ℕ → List ℕ → Option Thunk
thunk_of slot bytes = if word_at bytes 0 == 0 then None else Some (record { word = word_at bytes 0; slot = slot })

-- the thunks whose words stand from one address on, and their slots from another on, `count` of them at most
unfoldable pub thunks : List Range → ℕ → ℕ → ℕ → Entries Thunk
thunks ranges zero at slot = broken
thunks ranges (suc count) at slot = entry_before (option_map (thunk_of slot) (bytes_at ranges at 4)) (thunks ranges count (at + 4) (slot + 4))

-- so many thunk words before words of 0 are one too many
abbrev pub TOO_MANY_THUNKS : ℕ
TOO_MANY_THUNKS = 65536

-- no longer name is one, and the 0 that ends it
abbrev pub NAME_ROOM : ℕ
NAME_ROOM = 4097

-- the name of an import by its number: the library's, '#' and the number
abbrev pub ordinal_name : List ℕ → ℕ → Option (List ℕ)
ordinal_name library number =
    let name = library ++ codes "#" ++ decimal number in if is_name name then Some name else None

-- a thunk word with its top bit set has a number in its low 16 bits; any other is the place of two bytes ("Hint/Name Table") and a name
abbrev pub import_name : List Range → ℕ → List ℕ → ℕ → Option (List ℕ)
import_name ranges base library word =
    if nat_le 0x80000000 word then ordinal_name library (word % 65536)
    else name_from ranges (address_from base (word + 2)) NAME_ROOM

-- what is imported so far: the names in first-seen order, and the slots with what they are to receive
pub record Imported : Type 0 where
  pub names : List (List ℕ)
  pub slots : List Slot

abbrev pub nothing : Imported
nothing = record { names = []; slots = [] }

-- the import place of the name with an index
abbrev pub import_place : ℕ → ℕ
import_place index = EXIT_PLACE + 16 + 16 * index

abbrev pub with_import : List ℕ → ℕ → Imported → Imported
with_import name slot seen = record {
  names = with_name seen.names name;
  slots = seen.slots ++ record { at = slot; place = import_place (index_of seen.names name) } ∷ [];
}

-- what a name gives, or the fault where there is none
abbrev pub with_some_name : {A : Type 0} → Option (List ℕ) → (List ℕ → Result A PeFault) → Result A PeFault
with_some_name None f = Err Name
with_some_name (Some name) f = f name

-- a thunk word of a library: its count, its name and its slot
abbrev pub thunk_step : List Range → ℕ → List ℕ → Thunk → Imported → Result Imported PeFault
thunk_step ranges base library thunk seen =
    if nat_le TOO_MANY_THUNKS (length seen.slots + 1) then Err ManyImports
    else with_some_name (import_name ranges base library thunk.word) (λ name.
    if is_in_one ranges thunk.slot 4 then Ok (with_import name thunk.slot seen) else Err Imports)

-- the place of a descriptor's thunk words: OriginalFirstThunk, or FirstThunk where that is 0
abbrev pub name_list : Descriptor → ℕ
name_list d = if d.original_first_thunk == 0 then d.first_thunk else d.original_first_thunk

abbrev pub library_thunks : List Range → ℕ → Descriptor → Entries Thunk
library_thunks ranges base d = thunks ranges TOO_MANY_THUNKS (address_from base (name_list d)) (address_from base d.first_thunk)

-- a descriptor: its library's name, its FirstThunk and its thunk words
abbrev pub descriptor_step : List Range → ℕ → Descriptor → Imported → Result Imported PeFault
descriptor_step ranges base d seen =
    with_some_name (name_from ranges (address_from base d.name) NAME_ROOM) (λ library.
    if d.first_thunk == 0 then Err Imports
    else each_entry (thunk_step ranges base library) (library_thunks ranges base d) seen)

-- what an image imports whose directory has a place, or that has none
unfoldable pub imports_of : List Range → ℕ → Option ℕ → Result Imported PeFault
imports_of ranges base None = Ok nothing
imports_of ranges base (Some directory) =
    each_entry (descriptor_step ranges base) (descriptors ranges MOST_DESCRIPTORS (address_from base directory)) nothing
