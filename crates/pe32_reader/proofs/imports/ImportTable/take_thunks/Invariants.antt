use Rattle.std.proofs.Common.{◌≡◌, ◌+◌, ◌-◌, ◌*◌, map}
use Rattle.memory_map.specs.Map.{range_of}
use Rattle.pe32_reader.specs.Imports.{each_entry, thunk_step, thunks, TOO_MANY_THUNKS}
use Rattle.pe32_reader.specs.Walk.{seen_by, HasSlots}
use Rattle.pe32_reader.proofs.imports.ImportTable.take_thunks.Given as goal

abbrev pub invariant-loop-i : goal.invariant-loop-i
invariant-loop-i l = record {
  walk : each_entry (thunk_step (map range_of l.segments) l.base l.library) (thunks (map range_of l.segments) TOO_MANY_THUNKS l.list l.slots) (seen_by l.fn.self)
      ≡ each_entry (thunk_step (map range_of l.segments) l.base l.library) (thunks (map range_of l.segments) (TOO_MANY_THUNKS - l.i) (l.list + 4 * l.i) (l.slots + 4 * l.i)) (seen_by l.self);
  slots : HasSlots l.self;
}
