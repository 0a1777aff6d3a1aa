-- What a file that is read shows of its fields.
use Rattle.std.specs.Prelude.{map}
use Rattle.memory_map.specs.Map.{range_of}
use Rattle.elf32_reader.specs.ElfFile.{Layout}
use Rattle.elf32_reader.specs.declared.elf_file.ElfFile.{ElfFile}

abbrev pub shown : ElfFile → Layout
shown f = record { dynamic = f.dynamic; bias = f.bias; entry = f.entry; segments = map range_of f.segments; relocs = f.relocs; names = f.names }
