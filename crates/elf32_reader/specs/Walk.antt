-- The walk of the relocations, each tried for the faults that it can have.
use Rattle.std.specs.Prelude.{ℕ, ◌+◌, ◌/◌, List, [], ◌∷◌, ◌++◌, length, map, fold, not, ◌&&◌, ◌==◌, nat_le, unwrap_or, if◌then◌else◌, Option, Some, None, Result, Ok, Err}
use Rattle.std.specs.List.{range_with_len}
use Rattle.file_pieces.specs.Found.{is_in_one}
use Rattle.memory_map.specs.Name.{MOST_NAMES}
use Rattle.file_pieces.specs.Names.{index_of, is_named, with_name}
use Rattle.elf32_reader.specs.declared.fault.ElfFault.{ElfFault}
use Rattle.elf32_reader.specs.declared.fault.ElfFault.TheVariants.{Dynamic, RelocOutside, Name, ManyImports}
use Rattle.elf32_reader.specs.declared.entry.Entry.{Entry}
use Rattle.elf32_reader.specs.declared.symbol.Symbol.{Symbol}
use Rattle.elf32_reader.specs.declared.reloc.ElfReloc.{ElfReloc}
use Rattle.elf32_reader.specs.declared.reloc.RelocSymbol.{RelocSymbol}
use Rattle.elf32_reader.specs.Fields.{entry_at}
use Rattle.elf32_reader.specs.Dynamic.{table_at, rel_bytes, jmprel_bytes}
use Rattle.elf32_reader.specs.Symbols.{Space, symbol_at, import_name, imported}
use Rattle.elf32_reader.specs.Relocations.{NONE, kind_of, index_of_symbol, needs_symbol, place_of, size_of, is_import, own_symbol, reloc_of}

-- what is read so far: relocations, and the imported names in first-seen order
pub record Walked : Type 0 where
  pub relocs : List ElfReloc
  pub names : List (List ℕ)

-- one relocation more, of an entry whose symbol stands for something, with the names together with its own
abbrev pub walked_on : Space → Walked → Entry → Symbol → RelocSymbol → List (List ℕ) → Walked
walked_on s w e symbol meaning names = record { relocs = w.relocs ++ reloc_of s.bias e symbol meaning ∷ []; names = names }

-- an import, by its name if it has one
abbrev pub step_import : Space → Walked → Entry → Symbol → Option (List ℕ) → Result Walked ElfFault
step_import s w e symbol None = Err Name
step_import s w e symbol (Some name) =
    if not (is_named w.names name) && nat_le MOST_NAMES (length w.names) then Err ManyImports
    else Ok (walked_on s w e symbol (imported symbol (index_of w.names name)) (with_name w.names name))

-- an entry, by its symbol if that is found; one that needs none has one of zeros
abbrev pub step_symbol : Space → Walked → Entry → Option Symbol → Result Walked ElfFault
step_symbol s w e None = Err Dynamic
step_symbol s w e (Some symbol) =
    if not (is_in_one s.ranges (place_of s.bias e) (size_of (kind_of e) symbol)) then Err RelocOutside
    else if is_import (kind_of e) symbol then step_import s w e symbol (import_name s symbol)
    else Ok (walked_on s w e symbol (own_symbol s.bias (kind_of e) symbol) w.names)

abbrev pub no_symbol : Symbol
no_symbol = record { name = 0; value = 0; size = 0; info = 0; section = 0 }

abbrev pub symbol_for : Space → Entry → Option Symbol
symbol_for s e = if needs_symbol (kind_of e) then symbol_at s (index_of_symbol e) else Some no_symbol

-- one entry: R_386_NONE changes nothing, and each other is tried for its symbol, for the range that it changes, for its name and for the count of names
unfoldable pub step : Space → Walked → Entry → Result Walked ElfFault
step s w e = if kind_of e == NONE then Ok w else step_symbol s w e (symbol_for s e)

-- after a fault no entry is looked at
abbrev pub step_after : Space → Result Walked ElfFault → Entry → Result Walked ElfFault
step_after s (Ok w) e = step s w e
step_after s (Err fault) e = Err fault

unfoldable pub steps : Space → Result Walked ElfFault → List Entry → Result Walked ElfFault
steps s r entries = fold (step_after s) r entries

-- the entries of a table's bytes, of 8 bytes each
abbrev pub entries : List ℕ → List Entry
entries table = map (entry_at table) (range_with_len 0 (length table / 8))

abbrev pub table_entries : Space → Option ℕ → ℕ → List Entry
table_entries s address size = entries (unwrap_or (table_at s.ranges s.bias address size) [])

abbrev pub nothing : Walked
nothing = record { relocs = []; names = [] }

-- those of the table of DT_REL first, then those of DT_JMPREL
abbrev pub all_entries : Space → List Entry
all_entries s = table_entries s s.tables.rel (rel_bytes s.tables) ++ table_entries s s.tables.jmprel (jmprel_bytes s.tables)

unfoldable pub walk : Space → Result Walked ElfFault
walk s = steps s (Ok nothing) (all_entries s)
