-- The fill that has the fault is near.
use Rattle.jakstab_core.proofs.Starting.{near_run}
use Rattle.jakstab_core.proofs.running.verdict_output.Goals as goal

pub run_status-requires : goal.run_status-requires
run_status-requires c = near_run c.args.image.now c.args.taken.now.start c.in-Err.fault c.requires.fill c.in-Err.ensures
