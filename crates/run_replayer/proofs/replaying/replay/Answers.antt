use Rattle.run_replayer.proofs.Replays.{decided}
use Rattle.run_replayer.proofs.replaying.replay.Goals as goal

pub returns : goal.returns
returns c = record {
  state = c.in_ok-machine.machine;
  starts = c.in_ok-machine.ensures;
  decides =
      decided c.args.image.now c.args.stubs.now c.args.a.now c.in_ok-index.index c.in_ok-index.ensures c.in_ok-verdict.verdict c.args.r.now.steps 0 c.in_ok-machine.machine
      (rw c.as_slice.ensures at c.in_ok-verdict.ensures);
}
