-- The file header and the program headers of a demo image whose code has so many bytes.
use Rattle.std.proofs.Common.{ℕ, ◌≡◌, ◌+◌, ◌-◌, ◌<◌, ◌^◌, true, List, [], ◌∷◌, ◌++◌, length, refl, arith, w32}
use Rattle.std.specs.Int.{to_le_bytes}
use Rattle.memory_map.specs.FileBytes.{word_at}
use Rattle.demo_images.specs.LittleEndian.{halves, words}
use Rattle.demo_images.specs.Elf.{CODE, file_header, program_header}
use Rattle.demo_images.specs.Tables.{TABLES, tables, relocations, symbols, symbols_from, names, dynamic}
use Rattle.demo_images.specs.Forms.{form_d}
use Rattle.elf32_reader.specs.declared.program_header.ProgramHeader.{ProgramHeader}
use Rattle.elf32_reader.specs.Fields.{has_elf_magic, ei_class, ei_data, e_type, e_machine, e_entry, e_phoff, e_phentsize, e_phnum}
use Rattle.elf32_reader.specs.Headers.{headers}
use Rattle.demo_loading.specs.Laws.{demo_imports}
use Rattle.demo_loading.proofs.Words.{word_back}

-- what stands before the code
pub front : ℕ → List ℕ
front size =
    file_header 3
    ++ program_header (record { kind = 1; offset = 148; address = CODE; size = size; flags = 5 })
    ++ program_header (record { kind = 1; offset = 148 + size; address = TABLES; size = 114; flags = 6 })
    ++ program_header (record { kind = 2; offset = 148 + size + 114 - 64; address = TABLES + 114 - 64; size = 64; flags = 6 })

abbrev pub demo_tables : List ℕ
demo_tables = tables demo_imports

pub length_tables : length demo_tables ≡ 114
unfolding tables relocations symbols symbols_from names dynamic words
length_tables = refl

pub length_front : (size : ℕ) → length (front size) ≡ 148
unfolding front file_header program_header halves words
length_front size = refl

pub form_d_is : (code : List ℕ) → form_d code demo_imports ≡ front (length code) ++ (code ++ demo_tables)
unfolding form_d front file_header program_header halves words tables relocations symbols symbols_from names dynamic
form_d_is code = refl

-- the fields of the file header
pub record HasFields (file : List ℕ) : Type 0 where
  pub magic : has_elf_magic file ≡ true
  pub class : ei_class file ≡ 1
  pub order : ei_data file ≡ 1
  pub kind : e_type file ≡ 2
  pub machine : e_machine file ≡ 3
  pub entry : e_entry file ≡ CODE
  pub phoff : e_phoff file ≡ 52
  pub phentsize : e_phentsize file ≡ 32
  pub phnum : e_phnum file ≡ 3

pub has_fields : (size : ℕ) (rest : List ℕ) → HasFields (front size ++ rest)
unfolding front file_header program_header halves words
has_fields size rest = record { magic = refl; class = refl; order = refl; kind = refl; machine = refl; entry = refl; phoff = refl; phentsize = refl; phnum = refl }

-- the code, the tables, and the dynamic section
abbrev pub code_header : ℕ → ProgramHeader
code_header size = record { kind = 1; offset = 148; address = CODE; file_size = size; size = size; flags = 5 }

abbrev pub tables_header : ℕ → ProgramHeader
tables_header at = record { kind = 1; offset = at; address = TABLES; file_size = 114; size = 114; flags = 6 }

abbrev pub dynamic_section : ℕ → ProgramHeader
dynamic_section at = record { kind = 2; offset = at; address = TABLES + 50; file_size = 64; size = 64; flags = 6 }

abbrev three : ℕ → ℕ → ℕ → List ProgramHeader
three size tables_at dynamic_at = code_header size ∷ tables_header tables_at ∷ dynamic_section dynamic_at ∷ []

abbrev word : ℕ → ℕ
word n = word_at (to_le_bytes w32 n) 0

headers_as : (size : ℕ) (rest : List ℕ) → headers (front size ++ rest) ≡ three (word size) (word (148 + size)) (word (148 + size + 114 - 64))
unfolding front file_header program_header halves words
headers_as size rest = refl

pub headers_are : (size : ℕ) (rest : List ℕ) → 262 + size < 2 ^ 32 → headers (front size ++ rest) ≡ code_header size ∷ tables_header (148 + size) ∷ dynamic_section (198 + size) ∷ []
headers_are size rest small =
    let a : word size ≡ size = word_back size (omega arith) in
    let b : word (148 + size) ≡ 148 + size = word_back (148 + size) (omega arith) in
    let c : word (148 + size + 114 - 64) ≡ 148 + size + 114 - 64 = word_back (148 + size + 114 - 64) (omega arith) in
    let d : 148 + size + 114 - 64 ≡ 198 + size = omega arith in
    rw (headers_as size rest, a, b, c, d) refl
