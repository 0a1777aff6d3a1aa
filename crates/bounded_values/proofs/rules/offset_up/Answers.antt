use Rattle.bounded_values.proofs.Offsets.{code-up}
use Rattle.bounded_values.proofs.rules.offset_up.Goals as goal

pub returns : goal.returns
returns c = code-up c.args.o c.args.n _ c.ranges.o c.wrapping_add_unsigned.ensures
