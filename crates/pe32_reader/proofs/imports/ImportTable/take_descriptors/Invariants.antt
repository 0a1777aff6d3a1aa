use Rattle.std.proofs.Common.{◌≡◌, ◌+◌, ◌-◌, ◌*◌, map}
use Rattle.memory_map.specs.Map.{range_of}
use Rattle.pe32_reader.specs.Imports.{each_entry, descriptor_step, descriptors, MOST_DESCRIPTORS}
use Rattle.pe32_reader.specs.NamedPlaces.{AreNamed}
use Rattle.pe32_reader.specs.Walk.{seen_by, HasSlots}
use Rattle.pe32_reader.proofs.imports.ImportTable.take_descriptors.Given as goal

abbrev pub invariant-loop-i : goal.invariant-loop-i
invariant-loop-i l = record {
  walk : each_entry (descriptor_step (map range_of l.segments) l.base) (descriptors (map range_of l.segments) MOST_DESCRIPTORS l.directory) (seen_by l.fn.self)
      ≡ each_entry (descriptor_step (map range_of l.segments) l.base) (descriptors (map range_of l.segments) (MOST_DESCRIPTORS - l.i) (l.directory + 20 * l.i)) (seen_by l.self);
  slots : HasSlots l.self;
  named : AreNamed (map range_of l.segments) l.named;
}
