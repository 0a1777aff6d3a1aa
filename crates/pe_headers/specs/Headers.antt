-- The fields of a 32-bit executable for Windows, by their names in the PE/COFF specification. A place is counted from the file's first byte.
use Rattle.std.specs.Prelude.{ℕ, ◌+◌, ◌*◌, ◌%◌, ◌^◌, List}
use Rattle.memory_map.specs.FileBytes.{half_at, word_at}

-- "MS-DOS Stub (Image Only)" and "Signature (Image Only)": the place of the signature
abbrev pub e_lfanew : List ℕ → ℕ
e_lfanew bytes = word_at bytes 0x3C

abbrev pub signature : List ℕ → ℕ
signature bytes = word_at bytes (e_lfanew bytes)

-- the signature and the COFF header behind it
abbrev pub SIGNATURE_AND_COFF_SIZE : ℕ
SIGNATURE_AND_COFF_SIZE = 24

-- "COFF File Header (Object and Image)", which begins 4 bytes behind the signature
abbrev pub machine : List ℕ → ℕ
machine bytes = half_at bytes (e_lfanew bytes + 4)

abbrev pub number_of_sections : List ℕ → ℕ
number_of_sections bytes = half_at bytes (e_lfanew bytes + 6)

abbrev pub size_of_optional_header : List ℕ → ℕ
size_of_optional_header bytes = half_at bytes (e_lfanew bytes + 20)

-- "Optional Header (Image Only)", which begins behind the COFF header: "Standard Fields", "Windows-Specific Fields"
abbrev pub optional_header : List ℕ → ℕ
optional_header bytes = e_lfanew bytes + 24

abbrev pub magic : List ℕ → ℕ
magic bytes = half_at bytes (optional_header bytes)

abbrev pub address_of_entry_point : List ℕ → ℕ
address_of_entry_point bytes = word_at bytes (optional_header bytes + 16)

abbrev pub image_base : List ℕ → ℕ
image_base bytes = word_at bytes (optional_header bytes + 28)

abbrev pub size_of_headers : List ℕ → ℕ
size_of_headers bytes = word_at bytes (optional_header bytes + 60)

abbrev pub number_of_rva_and_sizes : List ℕ → ℕ
number_of_rva_and_sizes bytes = word_at bytes (optional_header bytes + 92)

-- "Optional Header Data Directories", of eight bytes each from 96 on: the address of number 1, the import table
abbrev pub import_table : List ℕ → ℕ
import_table bytes = word_at bytes (optional_header bytes + 104)

-- "Section Table (Section Headers)": headers of 40 bytes, behind the optional header
abbrev pub SECTION_HEADER_SIZE : ℕ
SECTION_HEADER_SIZE = 40

abbrev pub section_table : List ℕ → ℕ
section_table bytes = optional_header bytes + size_of_optional_header bytes

-- the place of the i-th section header
abbrev pub section_header : List ℕ → ℕ → ℕ
section_header bytes i = section_table bytes + SECTION_HEADER_SIZE * i

-- the fields of the section header at a place
abbrev pub virtual_size : List ℕ → ℕ → ℕ
virtual_size bytes at = word_at bytes (at + 8)

abbrev pub virtual_address : List ℕ → ℕ → ℕ
virtual_address bytes at = word_at bytes (at + 12)

abbrev pub size_of_raw_data : List ℕ → ℕ → ℕ
size_of_raw_data bytes at = word_at bytes (at + 16)

abbrev pub pointer_to_raw_data : List ℕ → ℕ → ℕ
pointer_to_raw_data bytes at = word_at bytes (at + 20)

abbrev pub characteristics : List ℕ → ℕ → ℕ
characteristics bytes at = word_at bytes (at + 36)

-- the address of a place that is counted from the image's base, a relative virtual address
abbrev pub address_from : ℕ → ℕ → ℕ
address_from base rva = (base + rva) % 2 ^ 32
