use Rattle.std.proofs.Common.{◌≡◌, map, take}
use Rattle.memory_map.specs.Map.{range_of}
use Rattle.image_loader.specs.Binding.{relocated}
use Rattle.image_loader.proofs.binding.relocate.Given as goal

abbrev pub invariant-loop-reloc : goal.invariant-loop-reloc
invariant-loop-reloc l = map range_of l.segments ≡ relocated l.stubs l.names (map range_of l.fn.segments) (take l.reloc-index l.relocs)
