use Rattle.std.proofs.Common.{◌≡◌, ◌∙◌, sym, true, map, arith}
use Rattle.std.specs.List.{list_any}
use Rattle.memory_map.specs.Map.{range_of}
use Rattle.memory_map.specs.Range.{holds}
use Rattle.pe32_reader.proofs.Found.{in_one-below}
use Rattle.pe32_reader.proofs.slots.slot_address.Goals as goal

pub overflow_cast-result : goal.overflow_cast-result
overflow_cast-result c =
    let ranges = map range_of c.args.segments.now in
    let held : list_any (holds c.args.at 4) ranges ≡ true = sym c.is_in_one.ensures ∙ c.if-is_in_one.true in
    let below = in_one-below ranges c.args.at c.as_slice-list.ensures.map.inside held in
    omega (arith, below)
