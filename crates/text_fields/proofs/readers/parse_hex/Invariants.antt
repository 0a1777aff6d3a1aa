use Rattle.std.proofs.Common.{◌≡◌, ◌<◌, ◌^◌, drop}
use Rattle.text_fields.specs.Hex.{number_after}
use Rattle.text_fields.proofs.readers.parse_hex.Given as goal

abbrev pub invariant-loop-c : goal.invariant-loop-c
invariant-loop-c l = (number_after l.n (drop l.c-index l.text) ≡ number_after 0 l.text) × (l.n < 16 ^ l.c-index)
