-- What a file lays out, bound to stubs: the image that is loaded.
use Rattle.std.specs.Prelude.{ℕ, ◌≡◌, ◌+◌, ◌%◌, ◌^◌, Bool, true, false, List, [], not, ◌&&◌, ◌==◌, fold, map, filter_map, is_none, is_some, unwrap_or, slice_get, Option, Some, None, Ok, if◌then◌else◌}
use Rattle.std.specs.List.{enumerate_from, list_any}
use Rattle.std.specs.Option.{option_map_or}
use Rattle.memory_map.specs.FileBytes.{word_at}
use Rattle.memory_map.specs.Image.{Image, place_of}
use Rattle.memory_map.specs.Patch.{put_word}
use Rattle.memory_map.specs.Range.{Range}
use Rattle.memory_map.specs.declared.format.Format.TheVariants as format
use Rattle.memory_map.specs.declared.import_name.ImportName.{ImportName}
use Rattle.memory_map.specs.declared.span.Span.{Span}
use Rattle.file_pieces.specs.Found.{bytes_at}
use Rattle.elf32_reader.specs.ElfFile.{Layout}
use Rattle.elf32_reader.specs.declared.reloc.ElfReloc.{ElfReloc}
use Rattle.elf32_reader.specs.declared.reloc.RelocSymbol.{RelocSymbol}
use Rattle.elf32_reader.specs.declared.reloc.RelocSymbol.TheVariants.{Value, Import, Weak, Unset}
use Rattle.pe32_reader.specs.Image.{PeImage}
use Rattle.stub_file.specs.Stubs.{StatedStubs, stub_named}
use Rattle.image_loader.specs.Loading.{LaidOut, elf, pe, load_of}

-- whether the name with an index has a stub
abbrev pub has_stub : StatedStubs → List (List ℕ) → ℕ → Bool
has_stub stubs names i = option_map_or (λ name. is_some (stub_named name stubs)) (slice_get names i) false

-- what a relocation's symbol stands for, where that is known: a value, or the place of an import, which for a weak one without a stub is 0
abbrev pub value_of : StatedStubs → List (List ℕ) → RelocSymbol → Option ℕ
value_of stubs names (Value v) = Some v
value_of stubs names (Import i) = Some (place_of (i + 1))
value_of stubs names (Weak i) = Some (if has_stub stubs names i then place_of (i + 1) else 0)
value_of stubs names Unset = None

-- the word at an address
abbrev pub word_in : List Range → ℕ → ℕ
word_in ranges a = option_map_or (λ bytes. word_at bytes 0) (bytes_at ranges a 4) 0

-- the word of a relocation becomes what its symbol stands for plus what it adds, and plus the old word where it adds that
abbrev pub with_value : Option ℕ → ElfReloc → List Range → List Range
with_value None r ranges = ranges
with_value (Some s) r ranges = put_word r.at ((s + r.plus + (if r.adds then word_in ranges r.at else 0)) % 2 ^ 32) ranges

abbrev pub with_reloc : StatedStubs → List (List ℕ) → List Range → ElfReloc → List Range
with_reloc stubs names ranges r = with_value (value_of stubs names r.symbol) r ranges

-- ranges after the relocations, applied in their order
unfoldable pub relocated : StatedStubs → List (List ℕ) → List Range → List ElfReloc → List Range
relocated stubs names ranges relocs = fold (with_reloc stubs names) ranges relocs

-- whether nothing is known of a symbol
abbrev pub is_unknown : RelocSymbol → Bool
is_unknown Unset = true
is_unknown symbol = false

-- the bytes that a relocation makes unset, where there are any
abbrev pub unset_by : ElfReloc → Option Span
unset_by r = if is_unknown r.symbol && not (r.size == 0) then Some (record { low = r.at; size = r.size }) else None

-- whether a symbol that is not weak imports the name with an index
abbrev pub imports : ℕ → RelocSymbol → Bool
imports i (Import j) = j == i
imports i symbol = false

-- whether the place of a name is not used: the name has no stub, and each symbol that imports it is weak
abbrev pub is_zero : StatedStubs → List ElfReloc → ℕ → List ℕ → Bool
is_zero stubs relocs i name = is_none (stub_named name stubs) && not (list_any (λ r. imports i r.symbol) relocs)

abbrev pub numbered_name : StatedStubs → List ElfReloc → ℕ × List ℕ → ImportName
numbered_name stubs relocs p = record { name = p.1; zero = is_zero stubs relocs p.0 p.1 }

-- the names from an index on
abbrev pub names_from : StatedStubs → List ElfReloc → ℕ → List (List ℕ) → List ImportName
names_from stubs relocs i names = map (numbered_name stubs relocs) (enumerate_from i names)

-- the image of an ELF file
abbrev pub elf_image : StatedStubs → Layout → Image
elf_image stubs l = record {
  segments = relocated stubs l.names l.segments l.relocs;
  unset = filter_map unset_by l.relocs;
  entry = l.entry;
  format = format.Elf;
  names = names_from stubs l.relocs 0 l.names;
  align = unwrap_or stubs.align 16;
}

-- a name that is used whether it has a stub or not
abbrev pub used_name : List ℕ → ImportName
used_name name = record { name = name; zero = false }

-- the image of a PE file
abbrev pub pe_image : StatedStubs → PeImage → Image
pe_image stubs i = record {
  segments = i.ranges;
  unset = [];
  entry = i.entry;
  format = format.Pe;
  names = map used_name i.names;
  align = unwrap_or stubs.align 4;
}

abbrev pub image_of : StatedStubs → LaidOut → Image
image_of stubs (elf l) = elf_image stubs l
image_of stubs (pe i) = pe_image stubs i

-- the file has no fault, and the image is what it lays out, bound to the stubs
pub record Loads (bytes : List ℕ) (stubs : StatedStubs) (image : Image) : Type 0 where
  pub laid_out : LaidOut
  pub loads : load_of bytes ≡ Ok laid_out
  pub is : image ≡ image_of stubs laid_out
