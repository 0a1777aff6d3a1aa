-- The indexes of imported names, kept by where symbols have the names in the string table.
use Rattle.std.specs.Prelude.{ℕ, ◌≡◌, true, List, Some}
use Rattle.std.specs.BTreeMap.{get}
use Rattle.std.specs.Ordering.{nat_cmp}
use Rattle.file_pieces.specs.Names.{index_of, is_named}
use Rattle.elf32_reader.specs.declared.known_names.KnownNames.{KnownNames}
use Rattle.elf32_reader.specs.declared.symbol.Symbol.{Symbol}
use Rattle.elf32_reader.specs.Symbols.{Space, import_name}

-- the symbols with this st_name import the name that has an index among names
pub record HasIndex (s : Space) (names : List (List ℕ)) (offset index : ℕ) : Type 0 where
  pub name : List ℕ
  pub found : (symbol : Symbol) → symbol.name ≡ offset → import_name s symbol ≡ Some name
  pub named : is_named names name ≡ true
  pub is : index_of names name ≡ index

-- what is kept is so
pub record AreKnown (s : Space) (names : List (List ℕ)) (known : KnownNames) : Type 0 where
  pub each : (offset index : ℕ) → get nat_cmp known.indexes offset ≡ Some index → HasIndex s names offset index
