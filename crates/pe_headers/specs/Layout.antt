-- What the headers map of a file, and the faults of that.
use Rattle.std.specs.Prelude.{ℕ, ◌≤◌, ◌<◌, ◌+◌, ◌^◌, List, ◌∷◌, Bool, false, not, ◌&&◌, ◌==◌, nat_le, length, map, min, bit_and, Option, Some, None, if◌then◌else◌}
use Rattle.std.specs.List.{list_any, range_with_len}
use Rattle.std.specs.Option.{option_map}
use Rattle.memory_map.specs.Range.{Range}
use Rattle.memory_map.specs.Map.{map_fault}
use Rattle.memory_map.specs.declared.perm.Perm.{Perm}
use Rattle.memory_map.specs.declared.fault.MapFault.{MapFault}
use Rattle.memory_map.specs.declared.fault.MapFault.TheVariants as map_faults
use Rattle.file_pieces.specs.Found.{passes_end}
use Rattle.file_pieces.specs.Layout.{layout}
use Rattle.file_pieces.specs.declared.piece.Piece.{Piece}
use Rattle.pe_headers.specs.Headers.{address_from, size_of_optional_header, address_of_entry_point, image_base, size_of_headers, number_of_rva_and_sizes, import_table, number_of_sections, section_header, virtual_size, virtual_address, size_of_raw_data, pointer_to_raw_data, characteristics}
use Rattle.pe_headers.specs.Faults.{header_fault}
use Rattle.pe_headers.specs.declared.fault.PeFault.{PeFault}
use Rattle.pe_headers.specs.declared.fault.PeFault.TheVariants.{RawOutside, Address, Overlap, TooLarge, Memory}

-- the rights of bytes that may be read, and perhaps written and executed
abbrev pub perm_of : Bool → Bool → Perm
perm_of write execute = record { 0 = 1 + (if write then 2 else 0) + (if execute then 4 else 0) }

-- the front of the file, as far as the headers reach
abbrev pub headers_piece : List ℕ → Piece
headers_piece bytes =
    let size = min (size_of_headers bytes) (length bytes) in
    record { address = image_base bytes; offset = 0; file_size = size; size = size; perm = perm_of false false }

-- IMAGE_SCN_MEM_WRITE, IMAGE_SCN_MEM_EXECUTE ("Section Flags")
abbrev pub is_writable : List ℕ → ℕ → Bool
is_writable bytes at = not (bit_and (characteristics bytes at) 0x80000000 == 0)

abbrev pub is_executable : List ℕ → ℕ → Bool
is_executable bytes at = not (bit_and (characteristics bytes at) 0x20000000 == 0)

-- how many bytes the section whose header is at a place maps
abbrev pub section_size : List ℕ → ℕ → ℕ
section_size bytes at = if virtual_size bytes at == 0 then size_of_raw_data bytes at else virtual_size bytes at

-- the section whose header is at a place; where it ends is not reduced
abbrev pub section_piece : List ℕ → ℕ → Piece
section_piece bytes at = record {
  address = image_base bytes + virtual_address bytes at;
  offset = pointer_to_raw_data bytes at;
  file_size = min (size_of_raw_data bytes at) (section_size bytes at);
  size = section_size bytes at;
  perm = perm_of (is_writable bytes at) (is_executable bytes at);
}

abbrev pub section_pieces : List ℕ → ℕ → List Piece
section_pieces bytes count = map (λ i. section_piece bytes (section_header bytes i)) (range_with_len 0 count)

-- the pieces of the image: the headers, and the sections in the order of their table
unfoldable pub pieces : List ℕ → List Piece
pieces bytes = headers_piece bytes ∷ section_pieces bytes (number_of_sections bytes)

-- what is mapped of the file
abbrev pub ranges_of : List ℕ → List Range
ranges_of bytes = layout bytes (pieces bytes)

-- whether a range has any bytes; those that are mapped have
abbrev pub maps_bytes : Range → Bool
maps_bytes r = not (length r.bytes == 0)

-- the file bytes that a section uses pass the file's end; those of the headers never do
abbrev pub uses_bytes_outside : List ℕ → Bool
uses_bytes_outside bytes = list_any (λ p. passes_end (length bytes) p.offset p.file_size) (pieces bytes)

-- a fault of the mapped ranges, as one of the file
abbrev pub fault_of_map : MapFault → PeFault
fault_of_map map_faults.OutOfRange = Address
fault_of_map map_faults.Overlap = Overlap
fault_of_map map_faults.TooLarge = TooLarge
fault_of_map map_faults.Memory = Memory

-- the first fault of what is mapped
abbrev pub layout_fault : List ℕ → Option PeFault
layout_fault bytes = if uses_bytes_outside bytes then Some RawOutside else option_map fault_of_map (map_fault (ranges_of bytes))

-- the first fault of the headers, and else of what is mapped
abbrev pub first_of : Option PeFault → Option PeFault → Option PeFault
first_of None second = second
first_of (Some fault) second = Some fault

unfoldable pub file_fault : List ℕ → Option PeFault
file_fault bytes = first_of (header_fault bytes) (layout_fault bytes)

abbrev pub entry_of : List ℕ → ℕ
entry_of bytes = address_from (image_base bytes) (address_of_entry_point bytes)

-- the place of the import directory, where there is one
abbrev pub import_directory : List ℕ → Option ℕ
import_directory bytes =
    if nat_le 2 (number_of_rva_and_sizes bytes) && nat_le 112 (size_of_optional_header bytes) && not (import_table bytes == 0) then Some (import_table bytes) else None

-- the parts of a piece that follow from their widths: where it ends is a number of 64 bits, and it maps its file bytes
pub record IsSized (p : Piece) : Type 0 where
  pub address : p.address < 2 ^ 63
  pub within : p.file_size ≤ p.size
