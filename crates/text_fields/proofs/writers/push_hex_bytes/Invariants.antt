use Rattle.std.proofs.Common.{◌≡◌, ◌++◌, take, length}
use Rattle.text_fields.specs.Hex.{hex_text}
use Rattle.text_fields.proofs.writers.push_hex_bytes.Given as goal

abbrev pub invariant-loop-b : goal.invariant-loop-b
invariant-loop-b l = (l.out.items ≡ l.fn.out.items ++ hex_text (take l.b-index l.bytes)) × (l.start ≡ length l.fn.out.items)
