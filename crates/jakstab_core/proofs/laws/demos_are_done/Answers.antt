use Rattle.jakstab_core.proofs.Demos as demos
use Rattle.jakstab_core.proofs.laws.demos_are_done.Goals as goal

pub returns : goal.returns
returns c = demos.demos_are_done
