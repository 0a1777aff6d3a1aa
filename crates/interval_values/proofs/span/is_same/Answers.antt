use Rattle.interval_values.proofs.Casts.{same_bits}
use Rattle.interval_values.proofs.span.is_same.Goals as goal

pub returns : goal.returns
returns c = same_bits c.args.a c.args.b c.ranges.a c.ranges.b
