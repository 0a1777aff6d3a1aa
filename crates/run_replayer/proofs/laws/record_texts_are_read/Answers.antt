use Rattle.run_replayer.proofs.RecordRead.{record_reads}
use Rattle.run_replayer.proofs.laws.record_texts_are_read.Goals as goal

pub returns : goal.returns
returns c = record_reads
