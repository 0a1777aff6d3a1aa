use Rattle.std.proofs.Common.{rules, ◌≡◌, ℕ, Option, Some, None}
use Rattle.text_fields.specs.Hex.{number_after}
use Rattle.text_fields.proofs.HexFacts.{reads_hex2, no_hex2}
use Rattle.text_fields.proofs.readers.parse_hex2.Goals as goal

pub returns-then-text-ne2-clause-digits : goal.returns-then-text-ne2-clause-digits
returns-then-text-ne2-clause-digits c = λ b small. no_hex2 b c.args.text.now (search rules)

pub returns-in-Some-clause-digits : goal.returns-in-Some-clause-digits
returns-in-Some-clause-digits c =
    let read : Some c.in-Some.b ≡ number_after 0 c.args.text.now = search rules in
    λ b small. rw read (reads_hex2 b c.args.text.now (search rules) small)

pub returns-in-None-clause-digits : goal.returns-in-None-clause-digits
returns-in-None-clause-digits c =
    let read : ◌≡◌ {A = Option ℕ} None (number_after 0 c.args.text.now) = search rules in
    λ b small. rw read (reads_hex2 b c.args.text.now (search rules) small)
