-- What a walk shows of its fields.
use Rattle.elf32_reader.specs.Walk.{Walked}
use Rattle.elf32_reader.specs.declared.walk.Walk.TheInside.{Inside}

abbrev pub walked : Inside → Walked
walked w = record { relocs = w.relocs.items; names = w.names }
