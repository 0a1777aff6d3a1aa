-- From the bytes of a file to what it lays out, or to its first fault.
use Rattle.std.specs.Prelude.{ℕ, ◌≡◌, List, Option, None, Result, Ok, Err, if◌then◌else◌}
use Rattle.elf32_reader.specs.Fields.{has_elf_magic}
use Rattle.elf32_reader.specs.ElfFile.{Layout, read}
use Rattle.elf32_reader.specs.Shown.{shown}
use Rattle.elf32_reader.specs.declared.fault.ElfFault.{ElfFault}
use Rattle.pe_headers.specs.Faults.{lacks_magic}
use Rattle.pe_headers.specs.declared.fault.PeFault.{PeFault}
use Rattle.pe32_reader.specs.Image.{PeImage, image_of, shown as pe_shown}
use Rattle.image_loader.specs.FaultNumber.{load_fault_number}
use Rattle.image_loader.specs.declared.fault.LoadFault.{LoadFault}
use Rattle.image_loader.specs.declared.fault.LoadFault.TheVariants as faults
use Rattle.image_loader.specs.declared.loaded.Loaded.{Loaded}
use Rattle.image_loader.specs.declared.loaded.Loaded.TheVariants as loaded

-- what a file of either format lays out
pub data LaidOut : Type 0 where
  elf : Layout → LaidOut
  pe : PeImage → LaidOut

-- what a `Loaded` says
abbrev pub laid_out_by : Loaded → LaidOut
laid_out_by (loaded.Elf f) = elf (shown f)
laid_out_by (loaded.Pe f) = pe (pe_shown f)

abbrev pub of_elf : Result Layout ElfFault → Result LaidOut LoadFault
of_elf (Ok l) = Ok (elf l)
of_elf (Err fault) = Err (faults.Elf fault)

abbrev pub of_pe : Result PeImage PeFault → Result LaidOut LoadFault
of_pe (Ok i) = Ok (pe i)
of_pe (Err fault) = Err (faults.Pe fault)

-- a file that begins with 7F, `ELF` is read as ELF, and else one that begins with `MZ` as PE
unfoldable pub load_of : List ℕ → Result LaidOut LoadFault
load_of bytes =
    if has_elf_magic bytes then of_elf (read bytes)
    else if lacks_magic bytes then Err faults.Unknown
    else of_pe (image_of bytes)

abbrev pub fault_in : Result LaidOut LoadFault → Option ℕ
fault_in (Ok l) = None
fault_in (Err fault) = load_fault_number fault

-- the number of the first fault of a file, where it has one
abbrev pub first_fault : List ℕ → Option ℕ
first_fault bytes = fault_in (load_of bytes)
