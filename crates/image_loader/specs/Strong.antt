-- Which names a symbol that is not weak imports, as a list of truth values.
use Rattle.std.specs.Prelude.{ℕ, ◌≡◌, ◌<◌, Bool, true, List, length, slice_set}
use Rattle.std.specs.List.{list_any, slice_index_or}
use Rattle.elf32_reader.specs.declared.reloc.ElfReloc.{ElfReloc}
use Rattle.elf32_reader.specs.declared.reloc.RelocSymbol.{RelocSymbol}
use Rattle.elf32_reader.specs.declared.reloc.RelocSymbol.TheVariants.{Value, Import, Weak, Unset}
use Rattle.image_loader.specs.Binding.{imports}

pub record AreStrong (relocs : List ElfReloc) (count : ℕ) (strong : List Bool) : Type 0 where
  pub size : length strong ≡ count
  pub each : (k : ℕ) (d : Bool) → k < count → slice_index_or strong k d ≡ list_any (λ r. imports k r.symbol) relocs

-- with the name that a symbol that is not weak imports
abbrev pub marked : List Bool → RelocSymbol → List Bool
marked strong (Import i) = slice_set strong i true
marked strong symbol = strong
