use Rattle.std.proofs.Common.{arith, ap}
use Rattle.std.proofs.lemmas.Int.{ints}
use Rattle.partitioned_memory.proofs.area.Area.contains.Goals as goal

pub returns : goal.returns
returns c =
    let least = ap (λ p. p.0) c.bounds-least.ensures.value in
    let limit = ap (λ p. p.1) c.bounds-least.ensures.value in
    let first = c.bounds-least.ensures.least in
    let last = c.bounds-least.ensures.greatest in (
      λ t.
          let k = c.are_in_order.ensures.0 t in
          record {
            low = omega (arith, ints);
            end = omega (arith, ints);
            bounded = record { least = omega (arith, ints); greatest = omega (arith, ints); ordered = omega (arith, ints) };
          },
      λ w. c.are_in_order.ensures.1 (omega (arith, ints, w.low), omega (arith, ints, w.bounded.ordered), omega (arith, ints, w.end)),
    )
