use Rattle.std.proofs.Common.{◌≡◌, ◌+◌, ◌≤◌, length}
use Rattle.text_fields.specs.Lines.{lines, read_from, read_text}
use Rattle.text_fields.proofs.lines.read_lines.Given as goal

abbrev pub invariant-loop-line : goal.invariant-loop-line
invariant-loop-line g l = (read_from g.R.LineReader.grammar l.number l.reader (lines l.rest) ≡ read_text g.R.LineReader.grammar l.fn.reader l.fn.bytes) × (l.number + length l.rest ≤ length l.fn.bytes + 1)

abbrev pub decreases-loop-line : goal.decreases-loop-line
decreases-loop-line g l = length l.rest
