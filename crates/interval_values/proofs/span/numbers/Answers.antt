use Rattle.std.proofs.Common.{sym}
use Rattle.interval_values.specs.SpanLaws.{numbers-is, numbers-any}
use Rattle.interval_values.proofs.span.numbers.Goals as goal

pub returns-then-is_number_span : goal.returns-then-is_number_span
returns-then-is_number_span c = sym (numbers-is _)

pub returns-else-is_number_span : goal.returns-else-is_number_span
returns-else-is_number_span c = sym (numbers-any c.args.low c.args.high c.args.stride (cc))
