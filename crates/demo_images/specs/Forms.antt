-- Whole files.
use Rattle.std.specs.Prelude.{ℕ, ◌+◌, ◌-◌, List, ◌++◌, length}
use Rattle.demo_images.specs.Elf.{CODE, file_header, program_header}
use Rattle.demo_images.specs.Tables.{TABLES, tables}
use Rattle.demo_images.specs.Imported.{Imported}

-- PT_LOAD, PT_DYNAMIC
abbrev pub PT_LOAD : ℕ
PT_LOAD = 1

abbrev pub PT_DYNAMIC : ℕ
PT_DYNAMIC = 2

-- code alone, in one segment
unfoldable pub form_e : List ℕ → ℕ → List ℕ
form_e code flags =
    file_header 1
    ++ program_header (record { kind = PT_LOAD; offset = 84; address = CODE; size = length code; flags = flags })
    ++ code

-- code that may be read and executed, then tables that may be read and written, whose last 64 bytes are the dynamic section
abbrev pub form_d_of : List ℕ → List ℕ → List ℕ
form_d_of code tables =
    file_header 3
    ++ program_header (record { kind = PT_LOAD; offset = 148; address = CODE; size = length code; flags = 5 })
    ++ program_header (record { kind = PT_LOAD; offset = 148 + length code; address = TABLES; size = length tables; flags = 6 })
    ++ program_header (record { kind = PT_DYNAMIC; offset = 148 + length code + length tables - 64; address = TABLES + length tables - 64; size = 64; flags = 6 })
    ++ code
    ++ tables

unfoldable pub form_d : List ℕ → List Imported → List ℕ
form_d code imports = form_d_of code (tables imports)
