use Rattle.std.proofs.Common.{◌≡◌, drop, find}
use Rattle.x86_syntax.specs.Opcodes.{has_all}
use Rattle.x86_syntax.proofs.table.find_among.Given as goal

abbrev pub invariant-loop-row : goal.invariant-loop-row
invariant-loop-row l = find (has_all l.prefixes l.map l.code l.reg) (drop l.row-index l.rows) ≡ find (has_all l.prefixes l.map l.code l.reg) l.rows
