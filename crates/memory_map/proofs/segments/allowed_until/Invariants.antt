use Rattle.std.proofs.Common.{◌≡◌, false, map, take}
use Rattle.memory_map.specs.Map.{is_allowed, range_of}
use Rattle.memory_map.proofs.segments.allowed_until.Given as goal

abbrev pub invariant-loop-s : goal.invariant-loop-s
invariant-loop-s l = is_allowed (map range_of (take l.s-index l.list)) l.perm l.a ≡ false
