-- A demo image, read: no fault, and its layout.
use Rattle.std.proofs.Common.{ℕ, zero, suc, ◌≡◌, ◌+◌, ◌*◌, ◌≤◌, ◌<◌, true, false, List, [], ◌∷◌, ◌++◌, length, length-append, take, drop, append_assoc, filter, find, Some, None, Ok, codes, refl, sym, ap, ◌∙◌, arith, le-ltb}
use Rattle.std.specs.Prelude.{nat_lt}
use Rattle.std.specs.List.{list_any}
use Rattle.std.specs.Option.{option_map_or}
use Rattle.std.proofs.Math.Bool.{and-false}
use Rattle.memory_map.specs.Range.{Range}
use Rattle.memory_map.specs.Map.{map_fault}
use Rattle.demo_images.specs.LittleEndian.{words}
use Rattle.demo_images.specs.Elf.{CODE}
use Rattle.demo_images.specs.Tables.{TABLES, tables, relocations, symbols, symbols_from, names, dynamic}
use Rattle.demo_images.specs.Demo.{block, blocks, last_call, demo_image}
use Rattle.file_pieces.specs.Found.{text_of, name_of}
use Rattle.file_pieces.specs.Names.{is_named, index_of, with_name}
use Rattle.elf32_reader.specs.declared.entry.Entry.{Entry}
use Rattle.elf32_reader.specs.declared.symbol.Symbol.{Symbol}
use Rattle.elf32_reader.specs.declared.reloc.RelocSymbol.TheVariants.{Import}
use Rattle.elf32_reader.specs.declared.tables.Tables.{Tables}
use Rattle.elf32_reader.specs.Fields.{has_elf_magic, symbol_of}
use Rattle.elf32_reader.specs.Headers.{header_fault, headers, loads, is_load, bias_of}
use Rattle.elf32_reader.specs.Segments.{segments_fault, segments, is_outside, is_file_longer}
use Rattle.elf32_reader.specs.Dynamic.{dynamic_header, dynamic_fault, entry_count, value_of, tables_at, tables_in, tables as tables_of, table_at, is_dynamic_section, is_section_outside, is_table_wrong, are_tables_wrong, tables_fault}
use Rattle.elf32_reader.specs.Symbols.{Space, symbol_at, import_name}
use Rattle.elf32_reader.specs.Walk.{Walked, entries, all_entries, nothing, step, steps, walk}
use Rattle.elf32_reader.specs.ElfFile.{Layout, read, space_of, layout_of}
use Rattle.elf32_reader.proofs.Files.{dynamic_fault-tables}
use Rattle.image_loader.specs.Loading.{elf, load_of}
use Rattle.demo_loading.specs.Laws.{DemoImagesLoad, demo_layout}
use Rattle.demo_loading.proofs.Words.{entry_count_behind, tables_at_behind}
use Rattle.demo_loading.proofs.Fields as fields
use Rattle.demo_loading.proofs.Fields.{front, length_front, demo_tables, length_tables, form_d_is, HasFields, has_fields, headers_are}
use Rattle.demo_loading.proofs.Ranges.{MOST_CODE, demo_ranges, demo_file, length_file, segments_are, map_fault_is, in_one, bytes_there, rest_there}

-- ---- any file with such fields

headers_faultless : (file : List ℕ) → HasFields file → 148 ≤ length file → header_fault file ≡ None
unfolding header_fault
headers_faultless file h long =
    let a : nat_lt (length file) 52 ≡ false = le-ltb (length file) 52 (omega arith) in
    let b : nat_lt (length file) 148 ≡ false = le-ltb (length file) 148 long in
    rw (a, h.magic, h.class, h.order, h.kind, h.machine, h.phentsize, h.phnum, h.phoff, b) refl

segments_faultless : (file : List ℕ) → list_any (is_outside file) (loads file) ≡ false → list_any is_file_longer (loads file) ≡ false → map_fault (segments file) ≡ None → segments_fault file ≡ None
unfolding segments_fault
segments_faultless file a b c = rw (a, b, c) refl

-- ---- the tables

-- what the dynamic section says
abbrev known : Tables
known = record {
  jmprel_size = Some 8;
  strtab = Some (TABLES + 44);
  symtab = Some (TABLES + 12);
  strtab_size = Some 6;
  symbol_size = Some 16;
  rel = None;
  rel_size = None;
  rel_entry_size = None;
  jmprel_kind = Some 17;
  jmprel = Some (TABLES + 4);
}

count_known : entry_count demo_tables 50 8 ≡ 7
unfolding entry_count tables relocations symbols symbols_from names dynamic words
count_known = refl

tables_known : tables_at demo_tables 50 7 ≡ known
unfolding value_of tables relocations symbols symbols_from names dynamic words
tables_known = refl

abbrev slot_entry : Entry
slot_entry = record { offset = TABLES; info = 263 }

abbrev exit_symbol : Symbol
exit_symbol = record { name = 1; value = 0; size = 0; info = 18; section = 0 }

entries_known : entries (take 8 (drop 4 demo_tables)) ≡ slot_entry ∷ []
unfolding tables relocations symbols symbols_from names dynamic words
entries_known = refl

symbol_known : symbol_of (take 16 (drop 28 demo_tables)) ≡ exit_symbol
unfolding tables relocations symbols symbols_from names dynamic words
symbol_known = refl

name_known : name_of (text_of (take 5 (drop 45 demo_tables))) ≡ Some (codes "exit")
unfolding text_of tables relocations symbols symbols_from names dynamic words
name_known = refl

-- what the relocation comes to
abbrev taken : Walked
taken = record { relocs = record { at = TABLES; size = 4; adds = false; plus = 0; symbol = Import 0 } ∷ []; names = codes "exit" ∷ [] }

abbrev space_with : List Range → ℕ → Tables → Space
space_with ranges bias tables = record { ranges = ranges; bias = bias; tables = tables }

-- what such a file lays out
abbrev layout_with : List ℕ → Layout
layout_with code = record { dynamic = false; bias = 0; entry = CODE; segments = demo_ranges code; relocs = taken.relocs; names = taken.names }

module _ (code : List ℕ) (some : 0 < length code) (short : length code ≤ MOST_CODE) where
  abbrev space : Space
  space = record { ranges = demo_ranges code; bias = 0; tables = known }

  tables_right : tables_fault (demo_ranges code) 0 known ≡ None
  unfolding tables_fault are_tables_wrong is_table_wrong table_at
  tables_right = rw (bytes_there code some short (TABLES + 4) 8 (omega arith) (omega arith) (omega arith)) refl

  entries_are : all_entries space ≡ slot_entry ∷ []
  unfolding table_at
  entries_are = rw (bytes_there code some short (TABLES + 4) 8 (omega arith) (omega arith) (omega arith)) entries_known

  symbol_is : symbol_at space 1 ≡ Some exit_symbol
  unfolding symbol_at
  symbol_is = rw (bytes_there code some short (TABLES + 28) 16 (omega arith) (omega arith) (omega arith)) (ap Some symbol_known)

  name_is : import_name space exit_symbol ≡ Some (codes "exit")
  unfolding import_name
  name_is = rw (rest_there code some short (TABLES + 45) (omega arith) (omega arith)) name_known

  step_is : step space nothing slot_entry ≡ Ok taken
  unfolding step is_named index_of with_name
  step_is = rw (symbol_is, in_one code some short TABLES 4 (omega arith) (omega arith) (omega arith), name_is) refl

  walk_is : walk space ≡ Ok taken
  unfolding walk steps
  walk_is = rw entries_are step_is

  -- ---- the whole file

  abbrev file : List ℕ
  file = demo_file code

  abbrev fields_there : HasFields file
  fields_there = has_fields (length code) (code ++ demo_tables)

  list : headers file ≡ fields.code_header (length code) ∷ fields.tables_header (148 + length code) ∷ fields.dynamic_section (198 + length code) ∷ []
  list = headers_are (length code) (code ++ demo_tables) (omega arith)

  no_header_fault : header_fault file ≡ None
  no_header_fault = let size = length_file code in headers_faultless file fields_there (omega arith)

  no_segments_fault : segments_fault file ≡ None
  no_segments_fault =
      let size = length_file code in
      let a : nat_lt (length file) (148 + length code) ≡ false = le-ltb (length file) (148 + length code) (omega arith) in
      let b : nat_lt (length file) (148 + length code + 114) ≡ false = le-ltb (length file) (148 + length code + 114) (omega arith) in
      let c : nat_lt (length code) (length code) ≡ false = le-ltb (length code) (length code) (omega arith) in
      segments_faultless file
      (ap (λ hs. list_any (is_outside file) (filter is_load hs)) list ∙ rw (a, b, and-false) refl)
      (ap (λ hs. list_any is_file_longer (filter is_load hs)) list ∙ rw c refl)
      (ap map_fault (segments_are code some short) ∙ map_fault_is code some short)

  bias_is : bias_of file ≡ 0
  bias_is = let kind = fields_there.kind in rw kind refl

  header_is : dynamic_header file ≡ Some (fields.dynamic_section (198 + length code))
  header_is = ap (find is_dynamic_section) list

  tables_are : tables_of file ≡ known
  tables_are =
      let before = front (length code) ++ code in
      let a = length-append (front (length code)) code in
      let b = length_front (length code) in
      let at : 198 + length code ≡ length before + 50 = omega (arith, a, b) in
      let split : file ≡ before ++ demo_tables = sym (append_assoc (front (length code)) code demo_tables) in
      ap (tables_in file) header_is
      ∙ ap (λ f. tables_at f (198 + length code) (entry_count f (198 + length code) 8)) split
      ∙ ap (tables_at (before ++ demo_tables) (198 + length code)) (entry_count_behind before demo_tables 8 (198 + length code) 50 at ∙ count_known)
      ∙ tables_at_behind before demo_tables (198 + length code) 50 7 at
      ∙ tables_known

  no_dynamic_fault : dynamic_fault file ≡ None
  no_dynamic_fault =
      let size = length_file code in
      let a : nat_lt (length file) (198 + length code + 64) ≡ false = le-ltb (length file) (198 + length code + 64) (omega arith) in
      let inside : is_section_outside file ≡ false = ap (λ h. option_map_or (is_outside file) h false) header_is ∙ a in
      dynamic_fault-tables file inside
      ∙ ap (λ ranges. tables_fault ranges (bias_of file) (tables_of file)) (segments_are code some short)
      ∙ ap (λ bias. tables_fault (demo_ranges code) bias (tables_of file)) bias_is
      ∙ ap (tables_fault (demo_ranges code) 0) tables_are
      ∙ tables_right

  space_is : space_of file ≡ space
  space_is =
      ap (λ ranges. space_with ranges (bias_of file) (tables_of file)) (segments_are code some short)
      ∙ ap (λ bias. space_with (demo_ranges code) bias (tables_of file)) bias_is
      ∙ ap (space_with (demo_ranges code) 0) tables_are

  layout_is : layout_of file taken ≡ layout_with code
  layout_is = let kind = fields_there.kind in let entry = fields_there.entry in let ranges = segments_are code some short in rw (ranges, kind, entry) refl

  pub read_is : read file ≡ Ok (layout_with code)
  unfolding read
  read_is = rw (no_header_fault, no_segments_fault, no_dynamic_fault, space_is, walk_is) (ap Ok layout_is)

-- ---- a demo image

length_block : (at : ℕ) → length (block at) ≡ 64
unfolding block words
length_block at = refl

length_blocks : (n : ℕ) → length (blocks n) ≡ 64 * n
unfolding blocks
length_blocks zero = refl
length_blocks (suc n) =
    let a = length-append (blocks n) (block (CODE + 64 * n)) in
    let b = length_block (CODE + 64 * n) in
    let c = length_blocks n in
    omega (arith, a, b, c)

length_last : length last_call ≡ 7
unfolding last_call words
length_last = refl

demo_image_is : (n : ℕ) → demo_image n ≡ demo_file (blocks n ++ last_call)
unfolding demo_image
demo_image_is n = form_d_is (blocks n ++ last_call)

loaded : (file : List ℕ) (layout : Layout) → has_elf_magic file ≡ true → read file ≡ Ok layout → load_of file ≡ Ok (elf layout)
unfolding load_of
loaded file layout magic is = rw (magic, is) refl

pub images_load : DemoImagesLoad
images_load n few =
    let code = blocks n ++ last_call in
    let a = length-append (blocks n) last_call in
    let b = length_blocks n in
    let c = length_last in
    let some : 0 < length code = omega (arith, a, b, c) in
    let short : length code ≤ MOST_CODE = omega (arith, a, b, c) in
    ap load_of (demo_image_is n) ∙ loaded (demo_file code) (demo_layout n) (has_fields (length code) (code ++ demo_tables)).magic (read_is code some short)
