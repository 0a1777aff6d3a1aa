use Rattle.std.proofs.Common.{◌≡◌, map, take, drop}
use Rattle.memory_map.specs.Map.{range_of}
use Rattle.memory_map.specs.Patch.{put_word}
use Rattle.memory_map.proofs.patch.put_in_each.Given as goal

abbrev pub invariant-loop-i : goal.invariant-loop-i
invariant-loop-i l = record {
  done : map range_of (take l.i l.list) ≡ put_word l.a l.word (map range_of (take l.i l.fn.list));
  rest : drop l.i l.list ≡ drop l.i l.fn.list;
}
