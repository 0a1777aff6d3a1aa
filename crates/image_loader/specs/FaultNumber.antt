-- The numbers of refusals.
use Rattle.std.specs.Prelude.{ℕ, ◌+◌, Option, Some, None}
use Rattle.std.specs.Option.{option_map}
use Rattle.elf32_reader.specs.declared.fault.ElfFault.{ElfFault}
use Rattle.elf32_reader.specs.declared.fault.ElfFault.TheVariants as elf
use Rattle.pe_headers.specs.declared.fault.PeFault.{PeFault}
use Rattle.pe_headers.specs.declared.fault.PeFault.TheVariants as pe
use Rattle.image_loader.specs.declared.fault.LoadFault.{LoadFault}
use Rattle.image_loader.specs.declared.fault.LoadFault.TheVariants.{Elf, Pe, Unknown, Memory}

-- the place of a fault in its format's order
abbrev pub elf_fault_number : ElfFault → Option ℕ
elf_fault_number elf.Short = Some 1
elf_fault_number elf.Magic = Some 2
elf_fault_number elf.Class = Some 3
elf_fault_number elf.DataOrder = Some 4
elf_fault_number elf.Kind = Some 5
elf_fault_number elf.Machine = Some 6
elf_fault_number elf.Headers = Some 7
elf_fault_number elf.HeadersOutside = Some 8
elf_fault_number elf.SegmentOutside = Some 9
elf_fault_number elf.FileLonger = Some 10
elf_fault_number elf.Address = Some 11
elf_fault_number elf.Overlap = Some 12
elf_fault_number elf.TooLarge = Some 13
elf_fault_number elf.Dynamic = Some 14
elf_fault_number elf.RelocOutside = Some 15
elf_fault_number elf.Name = Some 16
elf_fault_number elf.ManyImports = Some 17
elf_fault_number elf.Memory = None

abbrev pub pe_fault_number : PeFault → Option ℕ
pe_fault_number pe.Short = Some 101
pe_fault_number pe.Magic = Some 102
pe_fault_number pe.Signature = Some 103
pe_fault_number pe.Machine = Some 104
pe_fault_number pe.Optional = Some 105
pe_fault_number pe.Sections = Some 106
pe_fault_number pe.RawOutside = Some 107
pe_fault_number pe.Address = Some 108
pe_fault_number pe.Overlap = Some 109
pe_fault_number pe.TooLarge = Some 110
pe_fault_number pe.Imports = Some 111
pe_fault_number pe.Name = Some 112
pe_fault_number pe.ManyImports = Some 113
pe_fault_number pe.Memory = None

-- ELF 1 to 17, PE 101 to 113, and 200 for a file of neither format; want of memory has no number
abbrev pub load_fault_number : LoadFault → Option ℕ
load_fault_number (Elf fault) = elf_fault_number fault
load_fault_number (Pe fault) = pe_fault_number fault
load_fault_number Unknown = Some 200
load_fault_number Memory = None
