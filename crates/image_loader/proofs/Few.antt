-- A file that is loaded has at most 97 segments.
use Rattle.std.proofs.Common.{ℕ, ◌≡◌, ◌+◌, ◌<◌, ◌≤◌, Bool, true, false, cond, List, [], ◌∷◌, length, map, refl, sym, ap, subst, ◌∙◌, arith, Option, Some, None, Result, Ok, Err}
use Rattle.std.specs.Prelude.{◌*◌, ◌&&◌, ◌||◌, ◌==◌, filter, nat_lt, not}
use Rattle.std.specs.List.{range_with_len}
use Rattle.std.proofs.lemmas.Bool.{ltb-false, or_parts}
use Rattle.std.proofs.lemmas.List.{length-map}
use Rattle.std.proofs.lemmas.List.FromFn.{length-range_with_len}
use Rattle.memory_map.specs.Image.{Image}
use Rattle.memory_map.specs.Patch.{patched, put_word}
use Rattle.memory_map.specs.Range.{Range}
use Rattle.file_pieces.specs.Found.{passes_end}
use Rattle.file_pieces.specs.Layout.{is_mapped, layout, range_of_piece}
use Rattle.file_pieces.specs.declared.piece.Piece.{Piece}
use Rattle.elf32_reader.specs.ElfFile.{Layout, laid_out, layout_of, read, space_of, unless}
use Rattle.elf32_reader.specs.Fields.{has_elf_magic, ei_class, ei_data, e_type, e_machine, e_phnum, e_phentsize, EHSIZE, PHENTSIZE}
use Rattle.elf32_reader.specs.Headers.{bias_of, header_at, header_fault as elf_header_fault, headers, is_load, loads}
use Rattle.elf32_reader.specs.Dynamic.{dynamic_fault}
use Rattle.elf32_reader.specs.Segments.{piece_of, pieces as elf_pieces, segments, segments_fault}
use Rattle.elf32_reader.specs.Walk.{Walked, walk}
use Rattle.elf32_reader.specs.declared.fault.ElfFault.{ElfFault}
use Rattle.elf32_reader.specs.declared.fault.ElfFault.TheVariants.{Short, Magic, Class, DataOrder, Kind, Machine, Headers}
use Rattle.elf32_reader.specs.declared.reloc.ElfReloc.{ElfReloc}
use Rattle.pe_headers.specs.Faults.{header_fault as pe_header_fault, is_for_another_machine, is_short, lacks_magic, lacks_optional_header, lacks_sections, lacks_signature}
use Rattle.pe_headers.specs.Headers.{SECTION_HEADER_SIZE, number_of_sections, section_header, section_table}
use Rattle.pe_headers.specs.Layout.{file_fault, first_of, layout_fault, pieces as pe_pieces, ranges_of, section_piece, section_pieces}
use Rattle.pe_headers.specs.declared.fault.PeFault.{PeFault}
use Rattle.pe_headers.specs.declared.fault.PeFault.TheVariants as pe_faults
use Rattle.pe32_reader.specs.Image.{PeImage, image_of as pe_image_of, image_unless, image_with, with_slots}
use Rattle.pe32_reader.specs.Imports.{Imported, and_then, imports_of}
use Rattle.pe32_reader.specs.declared.slots.Slot.{Slot}
use Rattle.stub_file.specs.Stubs.{StatedStubs}
use Rattle.image_loader.specs.Binding.{Loads, image_of, relocated, value_of, with_reloc, with_value}
use Rattle.image_loader.specs.Loading.{LaidOut, elf, pe, load_of, of_elf, of_pe}
use Rattle.image_loader.specs.declared.fault.LoadFault.{LoadFault}
use Rattle.image_loader.specs.declared.fault.LoadFault.TheVariants as faults
use Rattle.image_loader.specs.Laws.{LoadedAreFew}

passed : {X : Type 0} (b : Bool) (x : X) (rest : Option X) → cond b (Some x) rest ≡ None → (b ≡ false) × (rest ≡ None)
passed true x rest h = cc
passed false x rest h = (refl, h)

length-filter : {X : Type 0} (p : X → Bool) (xs : List X) → length (filter p xs) ≤ length xs
length-filter p [] = omega arith
length-filter {X} p (x ∷ xs) = by (p x) (length-filter p xs)
  where
    by : (t : Bool) → length (filter p xs) ≤ length xs → length (cond t (x ∷ filter p xs) (filter p xs)) ≤ length (x ∷ xs)
    by true h = omega (arith, h)
    by false h = omega (arith, h)

length-layout : (file : List ℕ) (pieces : List Piece) → length (layout file pieces) ≤ length pieces
length-layout file pieces = omega (arith, length-map (filter is_mapped pieces) (range_of_piece file), length-filter is_mapped pieces)

unless_ok : {T : Type 0} (o : Option ElfFault) (r : Result T ElfFault) (x : T) → unless o r ≡ Ok x → (o ≡ None) × (r ≡ Ok x)
unless_ok (Some fault) r x h = cc
unless_ok None r x h = (refl, h)

laid_segments : (file : List ℕ) (w : Result Walked ElfFault) (l : Layout) → laid_out file w ≡ Ok l → l.segments ≡ segments file
laid_segments file (Ok w) l h = let same : layout_of file w ≡ l = cc in ap (λ (x : Layout). x.segments) (sym same)
laid_segments file (Err fault) l h = cc

few_headers : (file : List ℕ) → elf_header_fault file ≡ None → e_phnum file ≤ 64
unfolding elf_header_fault
few_headers file h =
    let a = passed (nat_lt (length file) EHSIZE) Short _ h in
    let b = passed (not (has_elf_magic file)) Magic _ a.1 in
    let c = passed (not (ei_class file == 1)) Class _ b.1 in
    let d = passed (not (ei_data file == 1)) DataOrder _ c.1 in
    let e = passed (not (e_type file == 2) && not (e_type file == 3)) Kind _ d.1 in
    let f = passed (not (e_machine file == 3)) Machine _ e.1 in
    let g = passed (not (e_phentsize file == PHENTSIZE) || e_phnum file == 0 || nat_lt 64 (e_phnum file)) Headers _ f.1 in
    let last = or_parts (not (e_phentsize file == PHENTSIZE) || e_phnum file == 0) (nat_lt 64 (e_phnum file)) g.0 in
    ltb-false 64 (e_phnum file) last.1

length-segments : (file : List ℕ) → length (segments file) ≤ e_phnum file
length-segments file =
    omega (arith, length-layout file (elf_pieces file), length-map (loads file) (piece_of (bias_of file)), length-filter is_load (headers file), length-map (range_with_len 0 (e_phnum file)) (header_at file), length-range_with_len 0 (e_phnum file))

elf_few : (file : List ℕ) (l : Layout) → read file ≡ Ok l → length l.segments ≤ 64
unfolding read
elf_few file l h =
    let header = unless_ok (elf_header_fault file) _ l h in
    let mapped = unless_ok (segments_fault file) _ l header.1 in
    let rest = unless_ok (dynamic_fault file) _ l mapped.1 in
    omega (arith, ap length (laid_segments file (walk (space_of file)) l rest.1), length-segments file, few_headers file header.0)

length-relocated : (stubs : StatedStubs) (names : List (List ℕ)) (relocs : List ElfReloc) (rs : List Range) → length (relocated stubs names rs relocs) ≡ length rs
unfolding relocated
length-relocated stubs names [] rs = refl
length-relocated stubs names (r ∷ relocs) rs = length-relocated stubs names relocs (with_reloc stubs names rs r) ∙ by (value_of stubs names r.symbol)
  where
    by : (o : Option ℕ) → length (with_value o r rs) ≡ length rs
    by None = refl
    by (Some s) = length-map rs (patched r.at _)

none_first : (a b : Option PeFault) → first_of a b ≡ None → a ≡ None
none_first None b h = refl
none_first (Some fault) b h = cc

few_sections : (file : List ℕ) → pe_header_fault file ≡ None → number_of_sections file ≤ 96
unfolding pe_header_fault
few_sections file h =
    let a = passed (is_short file) pe_faults.Short _ h in
    let b = passed (lacks_magic file) pe_faults.Magic _ a.1 in
    let c = passed (lacks_signature file) pe_faults.Signature _ b.1 in
    let d = passed (is_for_another_machine file) pe_faults.Machine _ c.1 in
    let e = passed (lacks_optional_header file) pe_faults.Optional _ d.1 in
    let f = passed (lacks_sections file) pe_faults.Sections None e.1 in
    let first = or_parts (number_of_sections file == 0 || nat_lt 96 (number_of_sections file)) (passes_end (length file) (section_table file) (SECTION_HEADER_SIZE * number_of_sections file)) f.0 in
    let last = or_parts (number_of_sections file == 0) (nat_lt 96 (number_of_sections file)) first.0 in
    ltb-false 96 (number_of_sections file) last.1

length-pieces : (file : List ℕ) → length (pe_pieces file) ≡ number_of_sections file + 1
unfolding pe_pieces
length-pieces file =
    omega (arith, length-map (range_with_len 0 (number_of_sections file)) (λ i. section_piece file (section_header file i)), length-range_with_len 0 (number_of_sections file))

length-with_slots : (slots : List Slot) (rs : List Range) → length (with_slots rs slots) ≡ length rs
unfolding with_slots
length-with_slots [] rs = refl
length-with_slots (s ∷ slots) rs = length-with_slots slots (put_word s.at s.place rs) ∙ length-map rs (patched s.at s.place)

with_imports : (file : List ℕ) (r : Result Imported PeFault) (i : PeImage) → and_then r (λ imported. Ok (image_with file imported)) ≡ Ok i → length i.ranges ≡ length (ranges_of file)
with_imports file (Ok imported) i h = let same : image_with file imported ≡ i = cc in ap (λ (x : PeImage). length x.ranges) (sym same) ∙ length-with_slots imported.slots (ranges_of file)
with_imports file (Err fault) i h = cc

unless_image : (file : List ℕ) (o : Option PeFault) (i : PeImage) → image_unless file o ≡ Ok i → (o ≡ None) × (length i.ranges ≡ length (ranges_of file))
unless_image file (Some fault) i h = cc
unless_image file None i h = (refl, with_imports file _ i h)

pe_few : (file : List ℕ) (i : PeImage) → pe_image_of file ≡ Ok i → length i.ranges ≤ 97
unfolding pe_image_of file_fault
pe_few file i h =
    let parts = unless_image file (file_fault file) i h in
    omega (arith, parts.1, length-layout file (pe_pieces file), length-pieces file, few_sections file (none_first (pe_header_fault file) (layout_fault file) parts.0))

few_of_elf : (stubs : StatedStubs) (file : List ℕ) (r : Result Layout ElfFault) (l : LaidOut) → read file ≡ r → of_elf r ≡ Ok l → length (image_of stubs l).segments ≤ 97
few_of_elf stubs file (Ok x) l is h =
    let same : elf x ≡ l = cc in
    let P : LaidOut → Type 0 = λ y. length (image_of stubs y).segments ≤ 97 in
    subst P same (omega (arith, length-relocated stubs x.names x.relocs x.segments, elf_few file x is))
few_of_elf stubs file (Err fault) l is h = cc

few_of_pe : (stubs : StatedStubs) (file : List ℕ) (r : Result PeImage PeFault) (l : LaidOut) → pe_image_of file ≡ r → of_pe r ≡ Ok l → length (image_of stubs l).segments ≤ 97
few_of_pe stubs file (Ok x) l is h =
    let same : pe x ≡ l = cc in
    let P : LaidOut → Type 0 = λ y. length (image_of stubs y).segments ≤ 97 in
    subst P same (pe_few file x is)
few_of_pe stubs file (Err fault) l is h = cc

few_by : (stubs : StatedStubs) (file : List ℕ) (l : LaidOut) (is_elf is_other : Bool) → cond is_elf (of_elf (read file)) (cond is_other (Err faults.Unknown) (of_pe (pe_image_of file))) ≡ Ok l → length (image_of stubs l).segments ≤ 97
few_by stubs file l true is_other h = few_of_elf stubs file (read file) l refl h
few_by stubs file l false true h = cc
few_by stubs file l false false h = few_of_pe stubs file (pe_image_of file) l refl h

few_laid : (stubs : StatedStubs) (file : List ℕ) (l : LaidOut) → load_of file ≡ Ok l → length (image_of stubs l).segments ≤ 97
unfolding load_of
few_laid stubs file l h = few_by stubs file l (has_elf_magic file) (lacks_magic file) h

pub loaded_are_few : LoadedAreFew
loaded_are_few bytes stubs image h =
    let P : Image → Type 0 = λ i. length i.segments ≤ 97 in
    subst P (sym h.is) (few_laid stubs bytes h.laid_out h.loads)
