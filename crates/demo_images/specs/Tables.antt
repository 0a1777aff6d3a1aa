-- The tables of imported names: slots, relocations, symbols, the symbols' names, and the dynamic section (System V ABI, chapter 4, "Relocation", "Symbol Table", "String Table"; chapter 5, "Dynamic Section"; Intel386 supplement).
use Rattle.std.specs.Prelude.{ℕ, zero, suc, ◌+◌, ◌*◌, List, [], ◌∷◌, ◌++◌, length, replicate, flat_map, if◌then◌else◌}
use Rattle.demo_images.specs.LittleEndian.{words}
use Rattle.demo_images.specs.Imported.{Imported}

-- where the tables lie; the slots are first
abbrev pub TABLES : ℕ
TABLES = 0x09000000

-- where each other table lies, with n names
abbrev pub relocations_at : ℕ → ℕ
relocations_at n = TABLES + 4 * n

abbrev pub symbols_at : ℕ → ℕ
symbols_at n = TABLES + 12 * n

abbrev pub names_at : ℕ → ℕ
names_at n = TABLES + 28 * n + 16

-- R_386_JMP_SLOT of slot i, for the symbol after the i-th
abbrev pub relocation : ℕ → List ℕ
relocation i = words ((TABLES + 4 * i) ∷ ((i + 1) * 256 + 7) ∷ [])

-- those of the first n slots
unfoldable pub relocations : ℕ → List ℕ
relocations zero = []
relocations (suc n) = relocations n ++ relocation n

-- an undefined function, STB_GLOBAL or STB_WEAK, STT_FUNC, whose name begins at a place of the string table
abbrev pub symbol : ℕ → Imported → List ℕ
symbol at import = words (at ∷ 0 ∷ 0 ∷ []) ++ (if import.weak then 0x20 else 0x12) ∷ 0 ∷ 0 ∷ 0 ∷ []

-- the symbols of names that stand one after another in the string table, the first of them at a place
unfoldable pub symbols_from : ℕ → List Imported → List ℕ
symbols_from at [] = []
symbols_from at (import ∷ rest) = symbol at import ++ symbols_from (at + length import.name + 1) rest

unfoldable pub symbols : List Imported → List ℕ
symbols imports = replicate 16 0 ++ symbols_from 1 imports

unfoldable pub names : List Imported → List ℕ
names imports = 0 ∷ flat_map (λ import. import.name ++ 0 ∷ []) imports

-- DT_JMPREL, DT_PLTRELSZ, DT_PLTREL (DT_REL), DT_SYMTAB, DT_SYMENT, DT_STRTAB, DT_STRSZ, DT_NULL, each with its value; n names, whose string table has so many bytes
unfoldable pub dynamic : ℕ → ℕ → List ℕ
dynamic n size = words (23 ∷ relocations_at n ∷ 2 ∷ (8 * n) ∷ 20 ∷ 17 ∷ 6 ∷ symbols_at n ∷ 11 ∷ 16 ∷ 5 ∷ names_at n ∷ 10 ∷ size ∷ 0 ∷ 0 ∷ [])

unfoldable pub tables : List Imported → List ℕ
tables imports = replicate (4 * length imports) 0 ++ relocations (length imports) ++ symbols imports ++ names imports ++ dynamic (length imports) (length (names imports))
