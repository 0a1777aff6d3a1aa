-- What is wrong with the headers of a file, each fault as a condition on the bytes, and the first that holds.
-- "passes the end" speaks of a range of file bytes that is not empty.
use Rattle.std.specs.Prelude.{ℕ, ◌+◌, ◌≤◌, ◌*◌, List, [], ◌∷◌, Bool, not, ◌||◌, ◌==◌, nat_lt, nat_eq, length, Option, Some, None, if◌then◌else◌}
use Rattle.std.specs.List.{starts_with}
use Rattle.file_pieces.specs.Found.{passes_end}
use Rattle.pe_headers.specs.Headers.{e_lfanew, signature, SIGNATURE_AND_COFF_SIZE, machine, number_of_sections, size_of_optional_header, optional_header, magic, section_table, SECTION_HEADER_SIZE}
use Rattle.pe_headers.specs.declared.fault.PeFault.{PeFault}
use Rattle.pe_headers.specs.declared.fault.PeFault.TheVariants.{Short, Magic, Signature, Machine, Optional, Sections}

-- fewer bytes than a DOS header
abbrev pub is_short : List ℕ → Bool
is_short bytes = nat_lt (length bytes) 64

-- not 'MZ'
abbrev pub lacks_magic : List ℕ → Bool
lacks_magic bytes = not (starts_with nat_eq bytes (0x4D ∷ 0x5A ∷ []))

-- the signature and the COFF header pass the file's end, or the signature is not "PE\0\0"
abbrev pub lacks_signature : List ℕ → Bool
lacks_signature bytes = passes_end (length bytes) (e_lfanew bytes) SIGNATURE_AND_COFF_SIZE || not (signature bytes == 0x4550)

-- not IMAGE_FILE_MACHINE_I386
abbrev pub is_for_another_machine : List ℕ → Bool
is_for_another_machine bytes = not (machine bytes == 0x14C)

-- the optional header has no room for the fields in front of the directories, passes the file's end, or is not of PE32
abbrev pub lacks_optional_header : List ℕ → Bool
lacks_optional_header bytes =
    nat_lt (size_of_optional_header bytes) 96
    || passes_end (length bytes) (optional_header bytes) (size_of_optional_header bytes)
    || not (magic bytes == 0x10B)

-- no section, more than 96, or the section table passes the file's end
abbrev pub lacks_sections : List ℕ → Bool
lacks_sections bytes =
    number_of_sections bytes == 0
    || nat_lt 96 (number_of_sections bytes)
    || passes_end (length bytes) (section_table bytes) (SECTION_HEADER_SIZE * number_of_sections bytes)

-- the first fault of the headers
unfoldable pub header_fault : List ℕ → Option PeFault
header_fault bytes =
    if is_short bytes then Some Short
    else if lacks_magic bytes then Some Magic
    else if lacks_signature bytes then Some Signature
    else if is_for_another_machine bytes then Some Machine
    else if lacks_optional_header bytes then Some Optional
    else if lacks_sections bytes then Some Sections
    else None

-- where the headers have no fault, they lie in the file
pub record HasHeaders (bytes : List ℕ) : Type 0 where
  pub dos : 64 ≤ length bytes
  pub coff : e_lfanew bytes + 24 ≤ length bytes
  pub fields : 96 ≤ size_of_optional_header bytes
  pub optional : optional_header bytes + size_of_optional_header bytes ≤ length bytes
  pub few : number_of_sections bytes ≤ 96
  pub sections : section_table bytes + SECTION_HEADER_SIZE * number_of_sections bytes ≤ length bytes
