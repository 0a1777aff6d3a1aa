-- Symbols and their names, as relocations use them.
use Rattle.std.specs.Prelude.{ℕ, ◌+◌, ◌-◌, ◌*◌, ◌/◌, ◌%◌, ◌^◌, Bool, List, ◌&&◌, ◌||◌, ◌==◌, nat_le, is_some, unwrap_or, if◌then◌else◌, Option, None, option_and_then}
use Rattle.std.specs.Option.{option_map}
use Rattle.memory_map.specs.Range.{Range}
use Rattle.file_pieces.specs.Found.{bytes_at, name_from}
use Rattle.elf32_reader.specs.declared.tables.Tables.{Tables}
use Rattle.elf32_reader.specs.declared.symbol.Symbol.{Symbol}
use Rattle.elf32_reader.specs.declared.reloc.RelocSymbol.{RelocSymbol}
use Rattle.elf32_reader.specs.declared.reloc.RelocSymbol.TheVariants.{Value, Import, Weak, Unset}
use Rattle.elf32_reader.specs.Fields.{SYMENT, symbol_of}

-- where relocations find symbols: the segments before any relocation, the bias, and the tables
pub record Space : Type 0 where
  pub ranges : List Range
  pub bias : ℕ
  pub tables : Tables

-- a sum that gives an address is modulo 2^32
abbrev pub address_sum : ℕ → ℕ → ℕ
address_sum a b = (a + b) % 2 ^ 32

-- the symbol with an index, where DT_SYMTAB, DT_STRTAB and DT_STRSZ are given and its bytes are in one segment
unfoldable pub symbol_at : Space → ℕ → Option Symbol
symbol_at s index =
    if is_some s.tables.strtab && is_some s.tables.strtab_size then
    option_and_then (λ a. option_map symbol_of (bytes_at s.ranges (s.bias + address_sum a (SYMENT * index)) SYMENT)) s.tables.symtab
    else None

-- the name of a symbol, where it is that of an import, and a 0 ends it within the string table and within one segment
unfoldable pub import_name : Space → Symbol → Option (List ℕ)
import_name s symbol = name_from s.ranges (s.bias + address_sum (unwrap_or s.tables.strtab 0) symbol.name) (unwrap_or s.tables.strtab_size 0 - symbol.name)

-- STT_NOTYPE or STT_FUNC
abbrev pub has_import_type : Symbol → Bool
has_import_type symbol = symbol.info % 16 == 0 || symbol.info % 16 == 2

-- SHN_UNDEF
abbrev pub is_undefined : Symbol → Bool
is_undefined symbol = symbol.section == 0

-- STB_WEAK
abbrev pub is_weak : Symbol → Bool
is_weak symbol = symbol.info / 16 == 2

-- what a symbol that is no import stands for: SHN_LORESERVE and above are no sections
abbrev pub own_value : ℕ → Symbol → RelocSymbol
own_value bias symbol = if is_undefined symbol || nat_le 0xFF00 symbol.section then Unset else Value (address_sum bias symbol.value)

-- what an import stands for, by the index of its name
abbrev pub imported : Symbol → ℕ → RelocSymbol
imported symbol index = if is_weak symbol then Weak index else Import index
