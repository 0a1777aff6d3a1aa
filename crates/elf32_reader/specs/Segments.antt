-- The faults of segments, and what they map.
use Rattle.std.specs.Prelude.{ℕ, ◌+◌, Bool, List, length, map, ◌==◌, nat_lt, bit_and, if◌then◌else◌, Option, Some}
use Rattle.std.specs.Option.{option_map}
use Rattle.std.specs.List.{list_any}
use Rattle.memory_map.specs.Range.{Range}
use Rattle.memory_map.specs.Map.{map_fault}
use Rattle.memory_map.specs.declared.perm.Perm.{Perm}
use Rattle.memory_map.specs.declared.fault.MapFault.{MapFault}
use Rattle.memory_map.specs.declared.fault.MapFault.TheVariants.{OutOfRange, TooLarge}
use Rattle.file_pieces.specs.Found.{passes_end}
use Rattle.file_pieces.specs.Layout.{layout}
use Rattle.file_pieces.specs.declared.piece.Piece.{Piece}
use Rattle.elf32_reader.specs.declared.fault.ElfFault.{ElfFault}
use Rattle.elf32_reader.specs.declared.fault.ElfFault.TheVariants.{SegmentOutside, FileLonger, Address}
use Rattle.elf32_reader.specs.declared.program_header.ProgramHeader.{ProgramHeader}
use Rattle.elf32_reader.specs.Fields.{PF_W, PF_X}
use Rattle.elf32_reader.specs.Headers.{bias_of, loads}

abbrev pub has_flag : ℕ → ℕ → Bool
has_flag flags flag = bit_and flags flag == flag

-- every mapped byte may be read
abbrev pub perm_of : ℕ → Perm
perm_of flags = record { 0 = 1 + (if has_flag flags PF_W then 2 else 0) + (if has_flag flags PF_X then 4 else 0) }

-- what a PT_LOAD maps: its file bytes, and zeros after them
abbrev pub piece_of : ℕ → ProgramHeader → Piece
piece_of bias h = record { address = bias + h.address; offset = h.offset; file_size = h.file_size; size = h.size; perm = perm_of h.flags }

abbrev pub pieces : List ℕ → List Piece
pieces file = map (piece_of (bias_of file)) (loads file)

-- the segments before any relocation
abbrev pub segments : List ℕ → List Range
segments file = layout file (pieces file)

abbrev pub elf_fault_of : MapFault → ElfFault
elf_fault_of OutOfRange = Address
elf_fault_of MapFault.Overlap = ElfFault.Overlap
elf_fault_of TooLarge = ElfFault.TooLarge
elf_fault_of MapFault.Memory = ElfFault.Memory

-- whether a segment's file bytes pass the file's end
abbrev pub is_outside : List ℕ → ProgramHeader → Bool
is_outside file h = passes_end (length file) h.offset h.file_size

-- whether it has more bytes in the file than in memory
abbrev pub is_file_longer : ProgramHeader → Bool
is_file_longer h = nat_lt h.size h.file_size

unfoldable pub segments_fault : List ℕ → Option ElfFault
segments_fault file =
    if list_any (is_outside file) (loads file) then Some SegmentOutside
    else if list_any is_file_longer (loads file) then Some FileLonger
    else option_map elf_fault_of (map_fault (segments file))
