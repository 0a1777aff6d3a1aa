use Rattle.std.proofs.Common.{◌≡◌, drop, find}
use Rattle.x86_syntax.specs.Opcodes.{has_opcode}
use Rattle.x86_syntax.proofs.table.find_code_among.Given as goal

abbrev pub invariant-loop-row : goal.invariant-loop-row
invariant-loop-row l = find (has_opcode l.prefixes l.map l.code) (drop l.row-index l.rows) ≡ find (has_opcode l.prefixes l.map l.code) l.rows
