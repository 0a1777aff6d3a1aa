use Rattle.std.proofs.Common.{◌+◌, ◌-◌, ◌≤◌, ◌<◌, ◌^◌, ◌∙◌, List, All, max, sym, subst, true, false, map, arith}
use Rattle.std.proofs.Math.Nat.{le-max_left, le-max_right, max-le}
use Rattle.memory_map.specs.Map.{range_of}
use Rattle.memory_map.specs.Range.{may_write}
use Rattle.memory_map.specs.Spans.{AreAll, IsBelow}
use Rattle.memory_map.specs.declared.segment.Segment.{Segment}
use Rattle.memory_map.specs.declared.span.Span.{Span}
use Rattle.memory_map.proofs.Writing.{joined, narrowed, runs_of-below, runs_of-none, skipped}
use Rattle.memory_map.proofs.segments.Segments.writable_runs.Goals as goal

pub loop-at-init : goal.loop-at-init
loop-at-init c =
    let test = may_write (map range_of c.args.self.now) in
    (c.requires.ordered, omega arith, c.new-runs.ensures.items ∙ sym (runs_of-none test (c.args.end - c.args.end) c.args.end (omega arith)))

pub put_before-requires-clause-runs : goal.put_before-requires-clause-runs
put_before-requires-clause-runs c =
    let test = may_write (map range_of c.args.self.now) in
    let OfRuns : List Span → Type 0 = λ runs. All (IsBelow (2 ^ 32)) runs in
    let at = c.loop-at.invariant.1 in
    let end = c.requires.end in
    subst OfRuns (sym c.loop-at.invariant.2) (runs_of-below test (c.args.end - c.loop-at.at) c.loop-at.at (2 ^ 32) (omega arith))

pub loop-at-preserved-in-Some : goal.loop-at-preserved-in-Some
loop-at-preserved-in-Some c =
    let test = may_write (map range_of c.args.self.now) in
    let OfList : List Segment → Type 0 = λ l. AreAll (may_write (map range_of l)) true c.in-Some.low (c.loop-at.at - 1 + 1) in
    let all = subst OfList (c.deref.ensures.value ∙ c.self.view_is) c.in-Some.ensures.each in
    let at = c.loop-at.at in
    let start = c.max-start.result in
    let is = c.max-start.ensures in
    let low = le-max_left c.in-Some.low c.args.from in
    let from = le-max_right c.in-Some.low c.args.from in
    let within = c.in-Some.ensures.some in
    let more : c.args.from < at = c.loop-at-test.true in
    let below : start < at = (let most : max c.in-Some.low c.args.from ≤ at - 1 = max-le within (omega arith) in omega arith) in (
      omega arith,
      omega (arith, c.loop-at.invariant.1),
      joined test c.args.end at start c.loop-at.runs.items c.put_before.new.runs.items below c.loop-at.invariant.1
          (narrowed test true c.in-Some.low start (at - 1 + 1) at (omega arith) (omega arith) all) c.loop-at.invariant.2 c.in_ok-put_before-in-Some.ensures,
    )

pub loop-at-preserved : goal.loop-at-preserved
loop-at-preserved c =
    let test = may_write (map range_of c.args.self.now) in
    let OfList : List Segment → Type 0 = λ l. AreAll (may_write (map range_of l)) false c.unwritable_from-at.result (c.loop-at.at - 1 + 1) in
    let none = subst OfList (c.deref-in-None.ensures.value ∙ c.self.view_is) c.unwritable_from-at.ensures.each in
    let at = c.loop-at.at in
    let start = c.unwritable_from-at.result in
    let below = c.unwritable_from-at.ensures.below in
    let more : c.args.from < at = c.loop-at-test.true in (
      c.unwritable_from-at.ensures.from,
      omega (arith, c.loop-at.invariant.1),
      c.loop-at.invariant.2 ∙ skipped test c.args.end at start (omega arith) c.loop-at.invariant.1 (narrowed test false start start (at - 1 + 1) at (omega arith) (omega arith) none),
    )
