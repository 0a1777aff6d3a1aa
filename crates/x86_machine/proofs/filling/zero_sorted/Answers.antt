use Rattle.std.proofs.Common.{◌≡◌, ◌+◌, ℕ, get_or, refl, arith}
use Rattle.memory_map.specs.declared.span.Span.{Span}
use Rattle.x86_machine.proofs.Zeroing.{done_step, none_done, zeroed_step}
use Rattle.x86_machine.proofs.filling.zero_sorted.Goals as goal

pub loop-span-init : goal.loop-span-init
loop-span-init c = (refl, none_done c.args.sorted.now)

pub loop-span-preserved : goal.loop-span-preserved
loop-span-preserved c =
    let sorted = c.args.sorted.now in
    let i = c.loop-span.span-index in
    let d : Span = record { low = 0; size = 0 } in
    let done = c.loop-span.done in
    let inv = c.loop-span.invariant in
    let low = c.from-low.result in
    let end = low + c.from.result in
    let first = c.from-low.ensures in
    let size = c.from.ensures in
    let last : end ≡ (get_or sorted i d).low + (get_or sorted i d).size = omega (arith, first, size) in (
      zeroed_step sorted i done d c.loop-span-test.true inv.1 c.requires c.args.cells.now c.loop-span.cells c.zero_between.new.cells low end c.max.result first last c.max.ensures inv.0 c.zero_between.ensures,
      done_step sorted i done d c.loop-span-test.true inv.1 end c.max-done.result last c.max-done.ensures,
    )
