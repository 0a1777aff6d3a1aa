use Rattle.x86_lifter.proofs.arithmetic.carry.Goals as goal

pub returns : goal.returns
returns c = cc
