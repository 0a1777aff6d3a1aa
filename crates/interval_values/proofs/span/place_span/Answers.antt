use Rattle.std.proofs.Common.{ap, ◌∙◌, if◌then◌else◌}
use Rattle.std.proofs.lemmas.Int.{to_z-of_z}
use Rattle.interval_values.specs.Spans.{offsets, place_span}
use Rattle.interval_values.proofs.span.place_span.Goals as goal

pub returns : goal.returns
unfolding place_span
returns c =
    let f = c.ranges.low in
    let g = c.ranges.high in
    let h = simp to_z-of_z at c.offsets.ensures in
    let i = simp to_z-of_z at c.is_same.ensures in
    h ∙ ap (offsets c.args.region c.args.low c.args.high) (c.stride_of.ensures ∙ ap (λ t. if t then 0 else c.args.stride) i)
