use Rattle.bounded_values.proofs.Offsets.{code-rounded}
use Rattle.bounded_values.proofs.rules.rounded_down.Goals as goal

pub returns : goal.returns
returns c = code-rounded c.args.o c.args.unit _ _ c.ranges.o c.ranges.unit.fits c.requires c.cast_unsigned.ensures c.offset_down.ensures
