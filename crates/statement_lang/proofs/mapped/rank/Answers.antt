use Rattle.std.proofs.Common.{◌+◌, ◌-◌, ◌/◌, ◌<◌, ◌≤◌, ◌≡◌, ℕ, length, arith}
use Rattle.std.specs.Prelude.{slice_index}
use Rattle.statement_lang.specs.Indexed.{range_at}
use Rattle.statement_lang.proofs.Indexing.{lows_ascend}
use Rattle.statement_lang.proofs.mapped.rank.Goals as goal

pub loop-low-preserved-then-low_at-a : goal.loop-low-preserved-then-low_at-a
loop-low-preserved-then-low_at-a c =
    let middle : ℕ = c.loop-low.low + (c.loop-low.high - c.loop-low.low) / 2 in
    let on : c.loop-low.low < c.loop-low.high = c.loop-low-test.true in
    let within : middle < length c.args.order.now = (let w = c.loop-low.invariant.within in omega arith) in
    let low = c.low_at.ensures in
    let test = c.if-low_at-a.true in
    record {
      ordered = omega arith;
      within = c.loop-low.invariant.within;
      below = λ j less.
          let ascend = lows_ascend c.args.list.now c.args.order.now c.requires.index j middle (omega (arith, less)) within in
          omega (arith, ascend, low, test);
      above = c.loop-low.invariant.above;
    }

pub loop-low-preserved : goal.loop-low-preserved
loop-low-preserved c =
    let middle : ℕ = c.loop-low.low + (c.loop-low.high - c.loop-low.low) / 2 in
    let on : c.loop-low.low < c.loop-low.high = c.loop-low-test.true in
    let within = c.loop-low.invariant.within in
    let low = c.low_at.ensures in
    let test = c.if-low_at-a.false in
    record {
      ordered = omega arith;
      within = omega arith;
      below = c.loop-low.invariant.below;
      above = λ j from listed.
          let ascend = lows_ascend c.args.list.now c.args.order.now c.requires.index middle j from listed in
          omega (arith, ascend, low, test);
    }
