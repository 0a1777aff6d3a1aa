-- The headers of a 32-bit executable for the Intel386 (System V ABI, chapter 4, "ELF Header", and chapter 5, "Program Header").
use Rattle.std.specs.Prelude.{ℕ, List, [], ◌∷◌, ◌++◌}
use Rattle.demo_images.specs.LittleEndian.{halves, words}
use Rattle.demo_images.specs.declared.elf.ProgramHeader.{ProgramHeader}

-- where the code lies, which begins with the entry
abbrev pub CODE : ℕ
CODE = 0x08048000

-- the sizes of the file header and of a program header
abbrev pub EHSIZE : ℕ
EHSIZE = 52

abbrev pub PHENTSIZE : ℕ
PHENTSIZE = 32

-- e_ident: the magic, ELFCLASS32, ELFDATA2LSB, EV_CURRENT, and zeros
abbrev pub e_ident : List ℕ
e_ident = 0x7F ∷ 0x45 ∷ 0x4C ∷ 0x46 ∷ 1 ∷ 1 ∷ 1 ∷ 0 ∷ 0 ∷ 0 ∷ 0 ∷ 0 ∷ 0 ∷ 0 ∷ 0 ∷ 0 ∷ []

-- before count program headers; ET_EXEC, EM_386, EV_CURRENT, no section headers
unfoldable pub file_header : ℕ → List ℕ
file_header count = e_ident ++ halves (2 ∷ 3 ∷ []) ++ words (1 ∷ CODE ∷ EHSIZE ∷ 0 ∷ 0 ∷ []) ++ halves (EHSIZE ∷ PHENTSIZE ∷ count ∷ 0 ∷ 0 ∷ 0 ∷ [])

-- p_type, p_offset, p_vaddr, p_paddr, p_filesz, p_memsz, p_flags, p_align
unfoldable pub program_header : ProgramHeader → List ℕ
program_header h = words (h.kind ∷ h.offset ∷ h.address ∷ h.address ∷ h.size ∷ h.size ∷ h.flags ∷ 1 ∷ [])
