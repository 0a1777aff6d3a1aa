use Rattle.std.proofs.Common.{◌≡◌, map, take}
use Rattle.memory_map.specs.Map.{range_of}
use Rattle.pe32_reader.specs.Image.{with_slots}
use Rattle.pe32_reader.proofs.slots.fill_slots.Given as goal

abbrev pub invariant-loop-slot : goal.invariant-loop-slot
invariant-loop-slot l = map range_of l.segments ≡ with_slots (map range_of l.fn.segments) (take l.slot-index l.slots)
