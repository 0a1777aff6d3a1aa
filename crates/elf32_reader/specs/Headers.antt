-- The first eight faults, which are conditions on the file header.
use Rattle.std.specs.Prelude.{ℕ, ◌+◌, ◌*◌, ◌≤◌, Bool, List, length, map, filter, not, ◌&&◌, ◌||◌, ◌==◌, nat_lt, if◌then◌else◌, Option, Some, None}
use Rattle.std.specs.List.{range_with_len}
use Rattle.file_pieces.specs.Found.{passes_end}
use Rattle.elf32_reader.specs.declared.fault.ElfFault.{ElfFault}
use Rattle.elf32_reader.specs.declared.fault.ElfFault.TheVariants.{Short, Magic, Class, DataOrder, Kind, Machine, Headers, HeadersOutside}
use Rattle.elf32_reader.specs.declared.program_header.ProgramHeader.{ProgramHeader}
use Rattle.elf32_reader.specs.Fields.{EHSIZE, PHENTSIZE, PT_LOAD, has_elf_magic, ei_class, ei_data, e_type, e_machine, e_phoff, e_phentsize, e_phnum, program_header_at}

-- ELFCLASS32, ELFDATA2LSB, ET_EXEC or ET_DYN, EM_386; 1 to 64 program headers of 32 bytes, which are all in the file
unfoldable pub header_fault : List ℕ → Option ElfFault
header_fault file =
    if nat_lt (length file) EHSIZE then Some Short
    else if not (has_elf_magic file) then Some Magic
    else if not (ei_class file == 1) then Some Class
    else if not (ei_data file == 1) then Some DataOrder
    else if not (e_type file == 2) && not (e_type file == 3) then Some Kind
    else if not (e_machine file == 3) then Some Machine
    else if not (e_phentsize file == PHENTSIZE) || e_phnum file == 0 || nat_lt 64 (e_phnum file) then Some Headers
    else if passes_end (length file) (e_phoff file) (PHENTSIZE * e_phnum file) then Some HeadersOutside
    else None

-- whether it is a shared object
abbrev pub is_dynamic : List ℕ → Bool
is_dynamic file = e_type file == 3

-- what is added to the addresses of a file: a shared object is loaded from here on, an executable at its own addresses
abbrev pub bias_of : List ℕ → ℕ
bias_of file = if is_dynamic file then 0x00400000 else 0

-- the i-th program header
abbrev pub header_at : List ℕ → ℕ → ProgramHeader
header_at file i = program_header_at file (e_phoff file + PHENTSIZE * i)

abbrev pub headers : List ℕ → List ProgramHeader
headers file = map (header_at file) (range_with_len 0 (e_phnum file))

abbrev pub is_load : ProgramHeader → Bool
is_load h = h.kind == PT_LOAD

abbrev pub loads : List ℕ → List ProgramHeader
loads file = filter is_load (headers file)

-- the program headers are in the file
pub record HasHeaders (file : List ℕ) : Type 0 where
  pub front : EHSIZE ≤ length file
  pub inside : e_phoff file + PHENTSIZE * e_phnum file ≤ length file
