use Rattle.std.proofs.Common.{◌+◌, ◌-◌, ◌<◌, ◌≡◌, ◌∙◌, ap, length, arith}
use Rattle.std.specs.Prelude.{nat_lt, slice_index}
use Rattle.std.proofs.lemmas.List.{get_or_read}
use Rattle.memory_map.specs.Spans.{is_in_ranges}
use Rattle.memory_map.proofs.Indexing.{counted, uncounted}
use Rattle.memory_map.proofs.span_index.SpanIndex.has.Goals as goal

pub returns-then-count-gt0 : goal.returns-then-count-gt0
returns-then-count-gt0 c =
    let sorted = c.self.inside.sorted.items in
    let ends = c.self.inside.ends.items in
    let count = c.count_by-count.result in
    let size = ap length c.deref.ensures.value in
    let most = c.count_by-count.ensures.within in
    let some = c.if-count-gt0.true in
    let within : count - 1 < length ends = (let both = c.self.invariant.count in omega (arith, most, size, both, some)) in
    let read : c.index.result.now ≡ slice_index ends (count - 1) = get_or_read ends (count - 1) c.index.result.now within c.index.ensures 0 in
    counted c.deref.result.now sorted ends c.args.a count c.index.result.now c.self.invariant c.deref.ensures.value some most c.count_by-count.ensures.parted read
    ∙ ap (is_in_ranges c.args.a) c.self.view_is

pub returns-else-count-gt0 : goal.returns-else-count-gt0
returns-else-count-gt0 c =
    let none = c.if-count-gt0.false in
    uncounted c.deref.result.now c.self.inside.sorted.items c.args.a c.count_by-count.result c.deref.ensures.value (omega (arith, none)) c.count_by-count.ensures.parted
    ∙ ap (is_in_ranges c.args.a) c.self.view_is
