use Rattle.std.proofs.Common.{sym, ◌∙◌}
use Rattle.x86_syntax.proofs.TableLemmas.{opcode_small}
use Rattle.x86_decoder.proofs.Steps.{row_none, row_modrm, row_ending}
use Rattle.x86_decoder.proofs.decoder.read_row.Goals as goal

pub returns-in-None : goal.returns-in-None
returns-in-None c = row_none c.args.prefixes c.args.map c.args.code c.args.bytes.now c.args.at c.requires.some (sym c.find_opcode.ensures ∙ c.in-None.is)

pub returns-then-takes_modrm : goal.returns-then-takes_modrm
returns-then-takes_modrm c =
    row_modrm c.args.prefixes c.args.map c.args.code c.in-Some.row c.args.bytes.now c.args.at c.read_modrm.result (sym c.find_opcode.ensures ∙ c.in-Some.is) (sym c.takes_modrm.ensures ∙ c.if-takes_modrm.true) c.read_modrm.ensures

pub read_ending-requires-clause-small : goal.read_ending-requires-clause-small
read_ending-requires-clause-small c = opcode_small c.args.prefixes c.args.map c.args.code c.in-Some.row (sym c.find_opcode.ensures ∙ c.in-Some.is)

pub returns-else-takes_modrm : goal.returns-else-takes_modrm
returns-else-takes_modrm c =
    row_ending c.args.prefixes c.args.map c.args.code c.in-Some.row c.args.bytes.now c.args.at c.read_ending.result (sym c.find_opcode.ensures ∙ c.in-Some.is) (sym c.takes_modrm.ensures ∙ c.if-takes_modrm.false)
    (rw c.unnumbered.ensures at c.read_ending.ensures)
