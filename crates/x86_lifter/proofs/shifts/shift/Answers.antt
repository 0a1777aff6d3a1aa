use Rattle.x86_lifter.proofs.shifts.shift.Goals as goal

pub returns : goal.returns
returns c = cc
