-- The fields of a 32-bit ELF file, by their names in the System V ABI, and where they stand.
use Rattle.std.specs.Prelude.{ℕ, ◌+◌, ◌*◌, Bool, List, [], ◌∷◌, nat_eq, slice_index}
use Rattle.std.specs.List.{starts_with}
use Rattle.memory_map.specs.FileBytes.{half_at, word_at}
use Rattle.elf32_reader.specs.declared.program_header.ProgramHeader.{ProgramHeader}
use Rattle.elf32_reader.specs.declared.symbol.Symbol.{Symbol}
use Rattle.elf32_reader.specs.declared.entry.Entry.{Entry}

-- the file header (chapter 4, "ELF Header"): its size, and its fields
abbrev pub EHSIZE : ℕ
EHSIZE = 52

-- e_ident[EI_MAG0] to e_ident[EI_MAG3]
abbrev pub has_elf_magic : List ℕ → Bool
has_elf_magic file = starts_with nat_eq file (0x7F ∷ 0x45 ∷ 0x4C ∷ 0x46 ∷ [])

abbrev pub ei_class : List ℕ → ℕ
ei_class file = slice_index file 4

abbrev pub ei_data : List ℕ → ℕ
ei_data file = slice_index file 5

abbrev pub e_type : List ℕ → ℕ
e_type file = half_at file 16

abbrev pub e_machine : List ℕ → ℕ
e_machine file = half_at file 18

abbrev pub e_entry : List ℕ → ℕ
e_entry file = word_at file 24

abbrev pub e_phoff : List ℕ → ℕ
e_phoff file = word_at file 28

abbrev pub e_phentsize : List ℕ → ℕ
e_phentsize file = half_at file 42

abbrev pub e_phnum : List ℕ → ℕ
e_phnum file = half_at file 44

-- a program header (chapter 5, "Program Header"): its size, and the one at a place
abbrev pub PHENTSIZE : ℕ
PHENTSIZE = 32

-- p_type, p_offset, p_vaddr, p_filesz, p_memsz, p_flags
abbrev pub program_header_at : List ℕ → ℕ → ProgramHeader
program_header_at file at = record {
  kind = word_at file at;
  offset = word_at file (at + 4);
  address = word_at file (at + 8);
  file_size = word_at file (at + 16);
  size = word_at file (at + 20);
  flags = word_at file (at + 24);
}

-- PT_LOAD, PT_DYNAMIC; PF_X, PF_W
abbrev pub PT_LOAD : ℕ
PT_LOAD = 1

abbrev pub PT_DYNAMIC : ℕ
PT_DYNAMIC = 2

abbrev pub PF_X : ℕ
PF_X = 1

abbrev pub PF_W : ℕ
PF_W = 2

-- an entry of the dynamic section (chapter 5, "Dynamic Section"): d_tag and d_val of the i-th entry after a place
abbrev pub d_tag : List ℕ → ℕ → ℕ → ℕ
d_tag file at i = word_at file (at + 8 * i)

abbrev pub d_val : List ℕ → ℕ → ℕ → ℕ
d_val file at i = word_at file (at + 8 * i + 4)

-- an entry of a relocation table without addends (chapter 4, "Relocation"): r_offset and r_info of the i-th entry
abbrev pub entry_at : List ℕ → ℕ → Entry
entry_at table i = record { offset = word_at table (8 * i); info = word_at table (8 * i + 4) }

-- a symbol (chapter 4, "Symbol Table"): its size, and st_name, st_value, st_size, st_info and st_shndx of its bytes
abbrev pub SYMENT : ℕ
SYMENT = 16

abbrev pub symbol_of : List ℕ → Symbol
symbol_of bytes = record { name = word_at bytes 0; value = word_at bytes 4; size = word_at bytes 8; info = slice_index bytes 12; section = half_at bytes 14 }
