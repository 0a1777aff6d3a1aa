-- A whole file: the first fault that is met, or else what the file lays out.
use Rattle.std.specs.Prelude.{ℕ, Bool, List, Option, Some, None, Result, Ok, Err}
use Rattle.memory_map.specs.Range.{Range}
use Rattle.elf32_reader.specs.declared.fault.ElfFault.{ElfFault}
use Rattle.elf32_reader.specs.declared.reloc.ElfReloc.{ElfReloc}
use Rattle.elf32_reader.specs.Fields.{e_entry}
use Rattle.elf32_reader.specs.Headers.{header_fault, is_dynamic, bias_of}
use Rattle.elf32_reader.specs.Segments.{segments_fault, segments}
use Rattle.elf32_reader.specs.Dynamic.{dynamic_fault, tables}
use Rattle.elf32_reader.specs.Symbols.{Space, address_sum}
use Rattle.elf32_reader.specs.Walk.{Walked, walk}

pub record Layout : Type 0 where
  -- whether the file is a shared object
  pub dynamic : Bool
  pub bias : ℕ
  pub entry : ℕ
  -- the segments before any relocation
  pub segments : List Range
  -- the relocations in the order in which they are applied
  pub relocs : List ElfReloc
  -- the names that these import, in the order in which they are first seen
  pub names : List (List ℕ)

abbrev pub layout_of : List ℕ → Walked → Layout
layout_of file w = record {
  dynamic = is_dynamic file;
  bias = bias_of file;
  entry = address_sum (bias_of file) (e_entry file);
  segments = segments file;
  relocs = w.relocs;
  names = w.names;
}

abbrev pub space_of : List ℕ → Space
space_of file = record { ranges = segments file; bias = bias_of file; tables = tables file }

abbrev pub laid_out : List ℕ → Result Walked ElfFault → Result Layout ElfFault
laid_out file (Ok w) = Ok (layout_of file w)
laid_out file (Err fault) = Err fault

-- a fault if there is one, or else what comes after
abbrev pub unless : {T : Type 0} → Option ElfFault → Result T ElfFault → Result T ElfFault
unless (Some fault) r = Err fault
unless None r = r

-- the faults of the header, of the segments and of the dynamic section are tried one after another over the whole file, and then the relocations are walked
unfoldable pub read : List ℕ → Result Layout ElfFault
read file = unless (header_fault file) (unless (segments_fault file) (unless (dynamic_fault file) (laid_out file (walk (space_of file)))))
