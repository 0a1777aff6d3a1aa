-- A 32-bit executable for Windows with some code and two imports (PE/COFF specification, "MS-DOS Stub", "COFF File Header", "Optional Header", "Section Table", "The .idata Section").
use Rattle.std.specs.Prelude.{ℕ, ◌+◌, List, [], ◌∷◌, ◌++◌, length, replicate, codes}
use Rattle.demo_images.specs.LittleEndian.{halves, words}
use Rattle.demo_images.specs.declared.pe.SectionHeader.{SectionHeader}

-- 'MZ', and at 60 where the signature is
unfoldable pub dos_header : List ℕ
dos_header = (0x4D ∷ 0x5A ∷ []) ++ replicate 58 0 ++ words (64 ∷ [])

-- "PE\0\0"; IMAGE_FILE_MACHINE_I386, two sections, no symbols, SizeOfOptionalHeader
unfoldable pub file_header : List ℕ
file_header = (0x50 ∷ 0x45 ∷ 0 ∷ 0 ∷ []) ++ halves (0x14C ∷ 2 ∷ []) ++ words (0 ∷ 0 ∷ 0 ∷ []) ++ halves (112 ∷ 0 ∷ [])

-- PE32; AddressOfEntryPoint at 16, ImageBase at 28, SizeOfHeaders at 60, NumberOfRvaAndSizes at 92, the import directory at 104
unfoldable pub optional_header : List ℕ
optional_header =
    words (0x10B ∷ 0 ∷ 0 ∷ 0 ∷ 0x1000 ∷ 0 ∷ 0 ∷ 0x400000 ∷ [])
    ++ words (0 ∷ 0 ∷ 0 ∷ 0 ∷ 0 ∷ 0 ∷ 0 ∷ 280 ∷ [])
    ++ words (0 ∷ 0 ∷ 0 ∷ 0 ∷ 0 ∷ 0 ∷ 0 ∷ 2 ∷ [])
    ++ words (0 ∷ 0 ∷ 0x2000 ∷ 40 ∷ [])

-- Name, VirtualSize, VirtualAddress, SizeOfRawData, PointerToRawData, no relocations and line numbers, Characteristics
unfoldable pub section_header : SectionHeader → List ℕ
section_header s = s.name ++ words (s.size ∷ s.address ∷ s.size ∷ s.offset ∷ 0 ∷ 0 ∷ 0 ∷ s.flags ∷ [])

-- the import directory, which is mapped at 0x2000: one descriptor and the end; twice a list of the hint and name at 0x2046 and the ordinal 7; the library's name; the hint and name
unfoldable pub imports : List ℕ
imports =
    words (0x2028 ∷ 0 ∷ 0 ∷ 0x2040 ∷ 0x2034 ∷ 0 ∷ 0 ∷ 0 ∷ 0 ∷ 0 ∷ 0x2046 ∷ 0x80000007 ∷ 0 ∷ 0x2046 ∷ 0x80000007 ∷ 0 ∷ [])
    ++ codes "k.dll" ++ (0 ∷ 0 ∷ 0 ∷ []) ++ codes "ExitProcess" ++ 0 ∷ []

-- IMAGE_SCN_MEM_EXECUTE and IMAGE_SCN_MEM_READ; IMAGE_SCN_MEM_READ and IMAGE_SCN_MEM_WRITE
abbrev pub text_flags : ℕ
text_flags = 0x60000000

abbrev pub idata_flags : ℕ
idata_flags = 0xC0000000

unfoldable pub form_p : List ℕ → List ℕ
form_p code =
    dos_header
    ++ file_header
    ++ optional_header
    ++ section_header (record { name = codes ".text" ++ 0 ∷ 0 ∷ 0 ∷ []; address = 0x1000; size = length code; offset = 280; flags = text_flags })
    ++ section_header (record { name = codes ".idata" ++ 0 ∷ 0 ∷ []; address = 0x2000; size = 84; offset = 280 + length code; flags = idata_flags })
    ++ code
    ++ imports
