-- The faults of the dynamic section.
use Rattle.std.proofs.Common.{◌≡◌, ℕ, true, false, cond, List, Some, ap}
use Rattle.elf32_reader.specs.declared.fault.ElfFault.{ElfFault}
use Rattle.elf32_reader.specs.Headers.{bias_of}
use Rattle.elf32_reader.specs.Segments.{segments}
use Rattle.elf32_reader.specs.Dynamic.{dynamic_fault, is_section_outside, tables, tables_fault}

pub dynamic_fault-outside : (file : List ℕ) → is_section_outside file ≡ true → dynamic_fault file ≡ Some ElfFault.Dynamic
unfolding dynamic_fault
dynamic_fault-outside file h = ap (λ t. cond t (Some ElfFault.Dynamic) (tables_fault (segments file) (bias_of file) (tables file))) h

pub dynamic_fault-tables : (file : List ℕ) → is_section_outside file ≡ false → dynamic_fault file ≡ tables_fault (segments file) (bias_of file) (tables file)
unfolding dynamic_fault
dynamic_fault-tables file h = ap (λ t. cond t (Some ElfFault.Dynamic) (tables_fault (segments file) (bias_of file) (tables file))) h
