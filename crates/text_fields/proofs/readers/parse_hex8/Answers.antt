use Rattle.std.proofs.Common.{rules}
use Rattle.text_fields.proofs.HexFacts.{reads_hex8, no_hex8}
use Rattle.text_fields.proofs.readers.parse_hex8.Goals as goal

pub returns-then-text-ne8-clause-digits : goal.returns-then-text-ne8-clause-digits
returns-then-text-ne8-clause-digits c = λ n small. no_hex8 n c.args.text.now (search rules)

pub returns-clause-digits : goal.returns-clause-digits
returns-clause-digits c = λ n small. rw c.parse_hex.ensures.value (reads_hex8 n c.args.text.now (search rules) small)
