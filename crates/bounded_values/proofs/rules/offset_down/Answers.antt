use Rattle.bounded_values.proofs.Offsets.{code-down}
use Rattle.bounded_values.proofs.rules.offset_down.Goals as goal

pub returns : goal.returns
returns c = code-down c.args.o c.args.n _ c.ranges.o c.ranges.n.fits c.wrapping_sub_unsigned.ensures
