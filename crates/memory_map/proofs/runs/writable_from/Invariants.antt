use Rattle.std.proofs.Common.{◌≡◌, false, map, take}
use Rattle.memory_map.specs.Map.{is_allowed, range_of}
use Rattle.memory_map.proofs.Reaching.{writable}
use Rattle.memory_map.proofs.runs.writable_from.Given as goal

abbrev pub invariant-loop-s : goal.invariant-loop-s
invariant-loop-s l = is_allowed (map range_of (take l.s-index l.list)) writable l.a ≡ false
