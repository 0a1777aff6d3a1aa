-- The relocations of the Intel386 (System V ABI, Intel386 supplement, chapter 4, "Relocation").
use Rattle.std.specs.Prelude.{ℕ, ◌-◌, ◌/◌, ◌%◌, ◌^◌, Bool, true, List, ◌&&◌, ◌||◌, ◌==◌, nat_lt, if◌then◌else◌}
use Rattle.memory_map.specs.Range.{Range}
use Rattle.file_pieces.specs.Found.{is_in_one}
use Rattle.elf32_reader.specs.declared.entry.Entry.{Entry}
use Rattle.elf32_reader.specs.declared.symbol.Symbol.{Symbol}
use Rattle.elf32_reader.specs.declared.reloc.ElfReloc.{ElfReloc}
use Rattle.elf32_reader.specs.declared.reloc.RelocSymbol.{RelocSymbol}
use Rattle.elf32_reader.specs.declared.reloc.RelocSymbol.TheVariants.{Value, Import, Weak, Unset}
use Rattle.elf32_reader.specs.Symbols.{address_sum, own_value, has_import_type, is_undefined}

-- R_386_NONE, R_386_32, R_386_PC32, R_386_COPY, R_386_GLOB_DAT, R_386_JMP_SLOT, R_386_RELATIVE
abbrev pub NONE : ℕ
NONE = 0

abbrev pub WORD : ℕ
WORD = 1

abbrev pub PC_WORD : ℕ
PC_WORD = 2

abbrev pub COPY : ℕ
COPY = 5

abbrev pub GLOB_DAT : ℕ
GLOB_DAT = 6

abbrev pub JMP_SLOT : ℕ
JMP_SLOT = 7

abbrev pub RELATIVE : ℕ
RELATIVE = 8

-- ELF32_R_TYPE and ELF32_R_SYM
abbrev pub kind_of : Entry → ℕ
kind_of e = e.info % 256

abbrev pub index_of_symbol : Entry → ℕ
index_of_symbol e = e.info / 256

-- whether a relocation puts a symbol's value into its word
abbrev pub uses_value : ℕ → Bool
uses_value kind = kind == WORD || kind == PC_WORD || kind == GLOB_DAT || kind == JMP_SLOT

-- whether it has a symbol at all
abbrev pub needs_symbol : ℕ → Bool
needs_symbol kind = uses_value kind || kind == COPY

-- the address of what it changes
abbrev pub place_of : ℕ → Entry → ℕ
place_of bias e = address_sum bias e.offset

-- how many bytes it changes
abbrev pub size_of : ℕ → Symbol → ℕ
size_of kind symbol = if kind == COPY then symbol.size else 4

-- whether its symbol is imported
abbrev pub is_import : ℕ → Symbol → Bool
is_import kind symbol = uses_value kind && is_undefined symbol && has_import_type symbol

-- what its symbol stands for, where that is no import
abbrev pub own_symbol : ℕ → ℕ → Symbol → RelocSymbol
own_symbol bias kind symbol = if uses_value kind then own_value bias symbol else if kind == RELATIVE then Value 0 else Unset

-- what is added to the symbol's value: in PC32 the address is taken away, modulo 2^32
abbrev pub addend : ℕ → ℕ → ℕ → ℕ
addend bias kind at = if kind == PC_WORD then (2 ^ 32 - at) % 2 ^ 32 else if kind == RELATIVE then bias else 0

-- whether the word's old value is added as well
abbrev pub adds_old : ℕ → Bool
adds_old kind = kind == WORD || kind == PC_WORD || kind == RELATIVE

abbrev pub reloc_of : ℕ → Entry → Symbol → RelocSymbol → ElfReloc
reloc_of bias e symbol meaning = record {
  at = place_of bias e;
  size = size_of (kind_of e) symbol;
  adds = adds_old (kind_of e);
  plus = addend bias (kind_of e) (place_of bias e);
  symbol = meaning;
}

-- whether the range that a relocation changes is in one segment
abbrev pub is_inside : List Range → ElfReloc → Bool
is_inside ranges r = is_in_one ranges r.at r.size

-- whether the name that its symbol imports, if any, is among so many
abbrev pub is_name_below : ℕ → RelocSymbol → Bool
is_name_below count (Value v) = true
is_name_below count (Import i) = nat_lt i count
is_name_below count (Weak i) = nat_lt i count
is_name_below count Unset = true

abbrev pub has_name_below : ℕ → ElfReloc → Bool
has_name_below count r = is_name_below count r.symbol
