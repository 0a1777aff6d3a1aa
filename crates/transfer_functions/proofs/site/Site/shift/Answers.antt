use Rattle.transfer_functions.proofs.Holds.{shift-place}
use Rattle.transfer_functions.proofs.site.Site.shift.Goals as goal

pub shift_by-requires-clause-place : goal.shift_by-requires-clause-place
shift_by-requires-clause-place g c κs within = shift-place c.args.shape.op c.args.shape.rule c.args.shape.w c.args.to c.args.count c.requires
