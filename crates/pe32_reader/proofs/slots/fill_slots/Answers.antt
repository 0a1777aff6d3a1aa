use Rattle.std.proofs.Common.{◌∙◌, ap, map, get_or, arith}
use Rattle.memory_map.specs.Map.{range_of}
use Rattle.memory_map.specs.Patch.{put_word}
use Rattle.pe32_reader.specs.declared.slots.Slot.{Slot}
use Rattle.pe32_reader.proofs.Filled.{with_slots-none, with_slots-more}
use Rattle.pe32_reader.proofs.slots.fill_slots.Goals as goal

pub loop-slot-init : goal.loop-slot-init
loop-slot-init c = with_slots-none (map range_of c.args.segments.now)

pub loop-slot-preserved : goal.loop-slot-preserved
loop-slot-preserved c =
    let slots = c.args.slots.now in
    let i = c.loop-slot.slot-index in
    let d : Slot = record { at = 0; place = 0 } in
    let slot = get_or slots i d in
    with_slots-more (map range_of c.args.segments.now) (map range_of c.put_word.new.self) slots i d (omega arith) (c.put_word.ensures ∙ ap (put_word slot.at slot.place) c.loop-slot.invariant)
