-- The listing of an image, version 1: lines of ASCII, each ended by one byte 0A.
use Rattle.std.specs.Prelude.{ℕ, ◌+◌, ◌^◌, List, ◌++◌, codes, flat_map, is_some, if◌then◌else◌}
use Rattle.std.specs.List.{enumerate_from}
use Rattle.memory_map.specs.Image.{Image, place_of}
use Rattle.memory_map.specs.Spans.{is_in_ranges, runs_of}
use Rattle.memory_map.specs.declared.format.Format.{Format}
use Rattle.memory_map.specs.declared.format.Format.TheVariants.{Elf, Pe}
use Rattle.memory_map.specs.declared.import_name.ImportName.{ImportName}
use Rattle.memory_map.specs.declared.span.Span.{Span}
use Rattle.stub_file.specs.Stubs.{StatedStubs, stub_named}
use Rattle.text_fields.specs.Hex.{hex8}
use Rattle.text_fields.specs.Line.{newline, space}
use Rattle.image_listing.specs.Order.{ascending}
use Rattle.image_listing.specs.declared.mapped.Mapped.{Mapped}

abbrev pub format_name : Format → List ℕ
format_name Elf = codes "elf32"
format_name Pe = codes "pe32"

abbrev pub header_lines : Image → List ℕ
header_lines image = codes "jakstab-list 1" ++ newline ++ codes "format " ++ format_name image.format ++ newline ++ codes "entry " ++ hex8 image.entry ++ newline

-- whether it may be read, written and executed; every mapped byte may be read
abbrev pub rights_text : Mapped → List ℕ
rights_text r = codes "r" ++ (if r.write then codes "w" else codes "-") ++ (if r.execute then codes "x" else codes "-")

abbrev pub segment_line : Mapped → List ℕ
segment_line r = codes "segment " ++ hex8 r.low ++ space ++ hex8 r.size ++ space ++ rights_text r ++ newline

abbrev pub unset_line : Span → List ℕ
unset_line s = codes "unset " ++ hex8 s.low ++ space ++ hex8 s.size ++ newline

-- the unset bytes, in ranges as long as they can be
unfoldable pub unset_runs : List Span → List Span
unset_runs unset = runs_of (λ a. is_in_ranges a unset) 0 (2 ^ 32)

-- what becomes of a name
abbrev pub word_of : StatedStubs → ImportName → List ℕ
word_of stubs n = if n.zero then codes "zero" else if is_some (stub_named n.name stubs) then codes "stub" else codes "nostub"

-- the name of the place with a number
abbrev pub import_line : StatedStubs → ℕ × ImportName → List ℕ
import_line stubs p = codes "import " ++ hex8 (place_of p.0) ++ space ++ p.1.name ++ space ++ word_of stubs p.1 ++ newline

-- the segments and the unset ranges ascending, and the names in the order of their places
unfoldable pub list_text : StatedStubs → Image → List ℕ
list_text stubs image =
    header_lines image
    ++ flat_map segment_line (ascending image.segments)
    ++ flat_map unset_line (unset_runs image.unset)
    ++ flat_map (import_line stubs) (enumerate_from 1 image.names)
    ++ codes "end"
    ++ newline
