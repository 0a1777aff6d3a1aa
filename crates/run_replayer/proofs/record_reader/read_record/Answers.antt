use Rattle.run_replayer.proofs.RecordTold.{record_ends, record_told}
use Rattle.run_replayer.proofs.record_reader.read_record.Goals as goal

pub unreachable-requires : goal.unreachable-requires
unreachable-requires c = record_ends c.args.bytes.now c.in_ok-read.read (rw c.new.ensures at c.in_ok-read.ensures) c.in-None.is

pub returns-clause-text : goal.returns-clause-text
returns-clause-text c =
    record_told c.args.bytes.now c.into_record.result (record { read = c.in_ok-read.read; reads = rw c.new.ensures at c.in_ok-read.ensures; is = c.into_record.ensures })
