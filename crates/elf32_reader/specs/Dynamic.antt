-- The dynamic section, and the tables that it names.
use Rattle.std.specs.Prelude.{ℕ, zero, suc, ◌+◌, ◌/◌, ◌%◌, Bool, false, List, not, ◌&&◌, ◌||◌, ◌==◌, nat_lt, find, is_none, unwrap_or, if◌then◌else◌, Option, Some, None, option_and_then}
use Rattle.std.specs.Option.{option_map_or}
use Rattle.memory_map.specs.FileBytes.{word_at}
use Rattle.memory_map.specs.Range.{Range}
use Rattle.file_pieces.specs.Found.{bytes_at}
use Rattle.elf32_reader.specs.declared.fault.ElfFault.{ElfFault}
use Rattle.elf32_reader.specs.declared.program_header.ProgramHeader.{ProgramHeader}
use Rattle.elf32_reader.specs.declared.tables.Tables.{Tables}
use Rattle.elf32_reader.specs.Fields.{PT_DYNAMIC, d_tag, d_val}
use Rattle.elf32_reader.specs.Headers.{bias_of, headers}
use Rattle.elf32_reader.specs.Segments.{segments, is_outside}

abbrev pub is_dynamic_section : ProgramHeader → Bool
is_dynamic_section h = h.kind == PT_DYNAMIC

-- the first PT_DYNAMIC
abbrev pub dynamic_header : List ℕ → Option ProgramHeader
dynamic_header file = find is_dynamic_section (headers file)

-- how many entries, so many at most, come from a place on before the first with the tag DT_NULL
unfoldable pub entry_count : List ℕ → ℕ → ℕ → ℕ
entry_count file at zero = 0
entry_count file at (suc most) = if word_at file at == 0 then 0 else 1 + entry_count file (at + 8) most

-- the value of the last of the first n entries that has a tag
unfoldable pub value_of : List ℕ → ℕ → ℕ → ℕ → Option ℕ
value_of file at tag zero = None
value_of file at tag (suc n) = if d_tag file at n == tag then Some (d_val file at n) else value_of file at tag n

-- DT_PLTRELSZ, DT_STRTAB, DT_SYMTAB, DT_STRSZ, DT_SYMENT, DT_REL, DT_RELSZ, DT_RELENT, DT_PLTREL, DT_JMPREL of the first n entries
abbrev pub tables_at : List ℕ → ℕ → ℕ → Tables
tables_at file at n = record {
  jmprel_size = value_of file at 2 n;
  strtab = value_of file at 5 n;
  symtab = value_of file at 6 n;
  strtab_size = value_of file at 10 n;
  symbol_size = value_of file at 11 n;
  rel = value_of file at 17 n;
  rel_size = value_of file at 18 n;
  rel_entry_size = value_of file at 19 n;
  jmprel_kind = value_of file at 20 n;
  jmprel = value_of file at 23 n;
}

abbrev pub no_tables : Tables
no_tables = record {
  jmprel_size = None;
  strtab = None;
  symtab = None;
  strtab_size = None;
  symbol_size = None;
  rel = None;
  rel_size = None;
  rel_entry_size = None;
  jmprel_kind = None;
  jmprel = None;
}

-- the tables of a dynamic section: of its file bytes up to the first DT_NULL, or up to its last whole entry
abbrev pub tables_in : List ℕ → Option ProgramHeader → Tables
tables_in file None = no_tables
tables_in file (Some h) = tables_at file h.offset (entry_count file h.offset (h.file_size / 8))

abbrev pub tables : List ℕ → Tables
tables file = tables_in file (dynamic_header file)

-- the most bytes of a relocation table
abbrev pub MOST_TABLE_BYTES : ℕ
MOST_TABLE_BYTES = 4194304

-- the bytes of a table, where its address is given and it is in one segment; addresses in the file are without the bias
unfoldable pub table_at : List Range → ℕ → Option ℕ → ℕ → Option (List ℕ)
table_at ranges bias address size = option_and_then (λ a. bytes_at ranges (bias + a) size) address

-- whether a value is given and is another than this
abbrev pub is_other : Option ℕ → ℕ → Bool
is_other given n = option_map_or (λ v. not (v == n)) given false

-- whether a relocation table has no whole number of entries, is too large, or is not there
unfoldable pub is_table_wrong : List Range → ℕ → Option ℕ → ℕ → Bool
is_table_wrong ranges bias address size = not (size % 8 == 0) || nat_lt MOST_TABLE_BYTES size || (nat_lt 0 size && is_none (table_at ranges bias address size))

-- DT_REL, the size of an entry of it and of a symbol
abbrev pub DT_REL : ℕ
DT_REL = 17

abbrev pub rel_bytes : Tables → ℕ
rel_bytes t = unwrap_or t.rel_size 0

abbrev pub jmprel_bytes : Tables → ℕ
jmprel_bytes t = unwrap_or t.jmprel_size 0

unfoldable pub are_tables_wrong : List Range → ℕ → Tables → Bool
are_tables_wrong ranges bias t =
    is_other t.symbol_size 16 || is_other t.rel_entry_size 8 || is_other t.jmprel_kind DT_REL
    || is_table_wrong ranges bias t.rel (rel_bytes t)
    || is_table_wrong ranges bias t.jmprel (jmprel_bytes t)

-- whether the dynamic section passes the file's end
abbrev pub is_section_outside : List ℕ → Bool
is_section_outside file = option_map_or (is_outside file) (dynamic_header file) false

-- the fault that the tables of a file have, tried over the whole file
unfoldable pub tables_fault : List Range → ℕ → Tables → Option ElfFault
tables_fault ranges bias t = if are_tables_wrong ranges bias t then Some ElfFault.Dynamic else None

-- the part of the fault Dynamic that is tried over the whole file
unfoldable pub dynamic_fault : List ℕ → Option ElfFault
dynamic_fault file = if is_section_outside file then Some ElfFault.Dynamic else tables_fault (segments file) (bias_of file) (tables file)
