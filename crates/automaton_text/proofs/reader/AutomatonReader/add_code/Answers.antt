use Rattle.std.proofs.Common.{sym}
use Rattle.automaton_text.proofs.Spelled.{code_is_short}
use Rattle.automaton_text.proofs.reader.AutomatonReader.add_code.Goals as goal

pub code-label-requires : goal.code-label-requires
code-label-requires c = code_is_short c.args.from c.args.bytes.now c.args.text.now (sym c.if-not-is_code.ensures)
