use Rattle.run_replayer.proofs.StartTold.{start_told}
use Rattle.run_replayer.proofs.start_reader.read_start.Goals as goal

pub returns-clause-text : goal.returns-clause-text
returns-clause-text c =
    start_told c.args.bytes.now c.into_start.result (record { read = c.in_ok-read.read; reads = rw c.new.ensures at c.in_ok-read.ensures; is = c.into_start.ensures })
