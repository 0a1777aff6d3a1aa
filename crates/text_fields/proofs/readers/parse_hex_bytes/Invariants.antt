use Rattle.std.proofs.Common.{◌≡◌, ◌++◌, length}
use Rattle.text_fields.specs.Hex.{hex_bytes, hex_text, IsHexText}
use Rattle.text_fields.proofs.HexFacts.{with_bytes}
use Rattle.text_fields.proofs.readers.parse_hex_bytes.Given as goal

abbrev pub invariant-loop-rest : goal.invariant-loop-rest
invariant-loop-rest l = (l.text ≡ hex_text l.bytes.items ++ l.rest) × (IsHexText l.text → IsHexText l.rest) × (hex_bytes l.text ≡ with_bytes l.bytes.items (hex_bytes l.rest))

abbrev pub decreases-loop-rest : goal.decreases-loop-rest
decreases-loop-rest l = length l.rest
