use Rattle.std.proofs.Common.{ℕ, ◌+◌, ◌≤◌, ◌∙◌, sym, subst, true, map}
use Rattle.memory_map.specs.Map.{range_of}
use Rattle.memory_map.specs.Range.{USER_LOW, may_write}
use Rattle.memory_map.specs.Spans.{AreAll}
use Rattle.memory_map.proofs.Writing.{low_of, writes_from}
use Rattle.memory_map.proofs.runs.writable_from.Goals as goal

pub returns-then-permits-clause-low : goal.returns-then-permits-clause-low
returns-then-permits-clause-low c =
    let P : ℕ → Type 0 = λ x. USER_LOW ≤ x in
    subst P (sym c.from.ensures) (low_of c.args.list.now c.loop-s.s-index c.s-item.result c.requires c.loop-s-test.true c.s-item.is)

pub returns-then-permits-clause-each : goal.returns-then-permits-clause-each
returns-then-permits-clause-each c =
    let P : ℕ → Type 0 = λ x. AreAll (may_write (map range_of c.args.list.now)) true x (c.args.a + 1) in
    subst P (sym c.from.ensures)
    (writes_from c.args.list.now c.args.a c.loop-s.s-index c.s-item.result c.loop-s-test.true c.s-item.is (sym c.has.ensures ∙ c.if-has.true) (sym c.permits.ensures ∙ c.if-permits.true)).1
