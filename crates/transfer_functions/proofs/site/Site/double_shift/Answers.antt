use Rattle.transfer_functions.proofs.Holds.{double_shift-place}
use Rattle.transfer_functions.proofs.site.Site.double_shift.Goals as goal

pub double_shift_by-requires-clause-place : goal.double_shift_by-requires-clause-place
double_shift_by-requires-clause-place g c κs within =
    double_shift-place c.args.shape.op c.args.other c.args.shape.rule c.args.shape.w c.args.to c.args.r c.args.count c.requires
