use Rattle.x86_lifter.proofs.double_shifts.double_shift.Goals as goal

pub returns : goal.returns
returns c = cc
