use Rattle.x86_decoder.proofs.Readings.{reads_exact, reads_found, reads_spelling, reads_refused}
use Rattle.x86_decoder.proofs.decoder.decode.Goals as goal

pub returns-clause-exact : goal.returns-clause-exact
returns-clause-exact c = reads_exact c.args.bytes.now c.read.result (rw c.first_bytes.ensures.value at c.read.ensures)

pub returns-clause-found : goal.returns-clause-found
returns-clause-found c = reads_found c.args.bytes.now c.read.result (rw c.first_bytes.ensures.value at c.read.ensures)

pub returns-clause-spelling : goal.returns-clause-spelling
returns-clause-spelling c = reads_spelling c.args.bytes.now c.read.result (rw c.first_bytes.ensures.value at c.read.ensures)

pub returns-clause-refused : goal.returns-clause-refused
returns-clause-refused c = reads_refused c.args.bytes.now c.read.result (rw c.first_bytes.ensures.value at c.read.ensures)
