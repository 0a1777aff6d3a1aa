use Rattle.std.proofs.Common.{length}
use Rattle.x86_decoder.proofs.decoder.+read.Given as goal

abbrev pub decreases-read : goal.decreases-read
decreases-read l = length l.bytes.now
