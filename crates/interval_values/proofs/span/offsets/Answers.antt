use Rattle.std.proofs.Common.{sym, ◌∙◌}
use Rattle.interval_values.specs.SpanLaws.{offsets-any, offset_span-tells}
use Rattle.interval_values.proofs.Casts.{cast_is, cast_test, cast_formed, cast_offsets}
use Rattle.interval_values.proofs.span.offsets.Goals as goal

pub invariant_of-result : goal.invariant_of-result
invariant_of-result c =
    let e = sym (cast_test c.args.low c.args.high c.args.stride c.is_offset_span.result c.ranges.low c.ranges.high c.is_offset_span.ensures) ∙ c.if-is_offset_span.true in
    record { formed = cast_formed c.args.low c.args.high c.args.stride c.ranges.low c.ranges.high e }

pub returns-then-is_offset_span : goal.returns-then-is_offset_span
returns-then-is_offset_span c =
    let e = sym (cast_test c.args.low c.args.high c.args.stride c.is_offset_span.result c.ranges.low c.ranges.high c.is_offset_span.ensures) ∙ c.if-is_offset_span.true in
    let t = offset_span-tells c.args.low c.args.high c.args.stride e in
    cast_offsets _ c.args.low c.args.high (cast_is c.args.low c.ranges.low t.low_fits) (cast_is c.args.high c.ranges.high t.high_fits)

pub returns-else-is_offset_span : goal.returns-else-is_offset_span
returns-else-is_offset_span c =
    let e = sym (cast_test c.args.low c.args.high c.args.stride c.is_offset_span.result c.ranges.low c.ranges.high c.is_offset_span.ensures) ∙ c.if-is_offset_span.false in
    sym (offsets-any c.args.region c.args.low c.args.high c.args.stride e)
