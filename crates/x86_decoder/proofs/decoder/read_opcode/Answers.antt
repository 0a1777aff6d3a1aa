use Rattle.x86_decoder.proofs.Steps.{opcode_escape, opcode_one}
use Rattle.x86_decoder.proofs.decoder.read_opcode.Goals as goal

pub returns-then-code-eq15 : goal.returns-then-code-eq15
returns-then-code-eq15 c = opcode_escape c.args.prefixes c.args.code c.args.bytes.now c.args.at c.read_second.result c.if-code-eq15.true c.read_second.ensures

pub returns-else-code-eq15 : goal.returns-else-code-eq15
returns-else-code-eq15 c = opcode_one c.args.prefixes c.args.code c.args.bytes.now c.args.at c.read_row.result c.if-code-eq15.false c.read_row.ensures
