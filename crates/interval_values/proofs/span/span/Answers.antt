use Rattle.std.proofs.Common.{ap, ◌∙◌}
use Rattle.interval_values.specs.Spans.{numbers, span}
use Rattle.interval_values.proofs.span.span.Goals as goal

pub returns : goal.returns
unfolding span
returns c = c.numbers.ensures ∙ ap (numbers c.args.low c.args.high) c.stride_of.ensures
