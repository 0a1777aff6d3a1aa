-- What a look-up shows of its fields.
use Rattle.std.specs.Prelude.{map}
use Rattle.memory_map.specs.Map.{range_of}
use Rattle.elf32_reader.specs.Symbols.{Space}
use Rattle.elf32_reader.specs.declared.lookup.Lookup.TheInside.{Inside}

abbrev pub looked : Inside → Space
looked l = record { ranges = map range_of l.segments.now; bias = l.bias; tables = l.tables }
