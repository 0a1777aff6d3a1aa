-- Which machine states a state describes.
use Rattle.std.specs.Prelude.{ℕ, ◌≡◌, true, false, List, map, Option, Some, None, ⊤, unwrap_or, All, AllPairs, Contains, pos, ◌+ℤ◌, ◌-ℤ◌}
use Rattle.bit_words.specs.declared.width.Width.TheVariants.{B32}
use Rattle.bit_words.specs.Flags.{difference_flags}
use Rattle.memory_map.specs.Range.{Range, Mapping, mapping_of, byte_at, AreApart, HasBytes, IsInUserSpace}
use Rattle.memory_map.specs.Image.{Image}
use Rattle.memory_map.specs.State.{MachineState, Flags, HasWords, memory}
use Rattle.memory_map.specs.Registers.{register}
use Rattle.address_regions.specs.declared.region.Region.{Region}
use Rattle.address_regions.specs.declared.region.Region.TheVariants.{Stack}
use Rattle.address_regions.specs.Extents.{low_of, high_of}
use Rattle.address_regions.specs.Places.{Places, HasBase, IsValid}
use Rattle.domain_laws.specs.Laws.{Values}
use Rattle.partitioned_memory.specs.Describes.{IsSpread, number_in, IsDescribed as ArePartsDescribed}
use Rattle.abstract_state.specs.declared.note.Note.{Note}
use Rattle.abstract_state.specs.declared.note.Note.TheVariants.{Register, Word}
use Rattle.abstract_state.specs.Flags.{FlagsStand}
use Rattle.abstract_state.specs.Registers.{RegistersStand}
use Rattle.abstract_state.specs.State.{Known}

-- ---- where the windows and the blocks lie

-- the mapped range of a window or a block at a base: all its bytes may be read and written, and none executed
pub record IsRegionAt (r : Region) (b : ℕ) (x : Mapping) : Type 0 where
  pub low : pos x.low ≡ (pos b +ℤ low_of r)
  pub size : pos x.size ≡ (high_of r -ℤ low_of r)
  pub write : x.write ≡ true
  pub execute : x.execute ≡ false

-- such a range is there
pub record IsMappedAt (mappings : List Mapping) (r : Region) (b : ℕ) : Type 0 where
  pub mapping : Mapping
  pub there : Contains mappings mapping
  pub is : IsRegionAt r b mapping

-- what is mapped, without its bytes
abbrev pub mappings : MachineState → List Mapping
mappings m = map mapping_of (memory m)

-- the places of a run are those of a machine state: its windows and blocks lie there, and apart from the segments, which are mapped with their permissions
pub record Fits (image : Image) (p : Places) (m : MachineState) : Type 0 where
  pub valid : IsValid p
  pub align : p.align ≡ image.align
  pub fs : m.fs ≡ p.fs
  pub gs : m.gs ≡ p.gs
  pub stack : IsRegionAt Stack p.stack (mapping_of m.stack)
  pub regions : (r : Region) (b : ℕ) → HasBase p r b → IsMappedAt (mappings m) r b
  pub segments : All (λ s. Contains (mappings m) (mapping_of s)) image.segments
  -- only segments may be executed
  pub code : All (λ x. x.execute ≡ true → Contains (map mapping_of image.segments) x) (mappings m)
  pub spread : IsSpread image.segments p
  pub inside : All IsInUserSpace (memory m)
  pub apart : AllPairs AreApart (memory m)
  pub bytes : All HasBytes (memory m)

-- the byte that is mapped at an address; where none is, 0
abbrev pub byte_in : MachineState → ℕ → ℕ
byte_in m a = unwrap_or (byte_at (memory m) a) 0

-- ---- the note

-- the flags are those of a comparison of two words, but for AF (manual, volume 2, CMP)
pub record AreOfComparison (x c : ℕ) (f : Flags) : Type 0 where
  pub carry : f.carry ≡ (difference_flags B32 x c false).carry
  pub parity : f.parity ≡ (difference_flags B32 x c false).parity
  pub zero : f.zero ≡ (difference_flags B32 x c false).zero
  pub sign : f.sign ≡ (difference_flags B32 x c false).sign
  pub overflow : f.overflow ≡ (difference_flags B32 x c false).overflow

-- the noted register or stack word, compared with the noted number, gives the flags
abbrev pub NoteStands : Option Note → Places → MachineState → Type 0
NoteStands None p m = ⊤
NoteStands (Some (Register r c)) p m = AreOfComparison (register m.registers r) c m.flags
NoteStands (Some (Word o c)) p m = AreOfComparison (number_in (byte_in m) p.stack o B32) c m.flags

-- ---- the whole

module _ {D : Type 0} (d : Values D) (image : Image) where
  -- by the places p, all that is known is true of the machine state
  pub record Describes (s : Known D) (p : Places) (m : MachineState) : Type 0 where
    pub fits : Fits image p m
    pub words : HasWords m
    pub registers : RegistersStand d s.regs p m.registers
    pub flags : FlagsStand s.flags m.flags
    pub note : NoteStands s.note p m
    pub parts : ArePartsDescribed d image.segments image.unset p s.parts (byte_in m)

  -- by some places
  abbrev pub IsDescribed : Known D → MachineState → Type 0
  IsDescribed s m = (p : Places) × Describes s p m
