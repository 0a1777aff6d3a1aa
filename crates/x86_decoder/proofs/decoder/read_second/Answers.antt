use Rattle.std.proofs.Common.{◌≡◌, ◌+◌, ap, sym, ◌∙◌}
use Rattle.x86_decoder.specs.Reading.{fault_at, shortest_escaped}
use Rattle.x86_decoder.proofs.Steps.{no_bytes, second_none, second_end, second_third, second_row}
use Rattle.x86_decoder.proofs.decoder.read_second.Goals as goal

pub returns-then-not-escapes : goal.returns-then-not-escapes
returns-then-not-escapes c = second_none c.args.prefixes c.args.bytes.now c.args.at c.requires.some (sym c.escapes.ensures ∙ c.if-not-escapes.true)

pub returns-in-None : goal.returns-in-None
returns-in-None c =
    let same : c.short.result ≡ fault_at (c.args.at + shortest_escaped c.args.prefixes.group c.args.prefixes.size) = c.short.ensures ∙ ap (λ n. fault_at (c.args.at + n)) c.least_escaped.ensures in
    rw same (second_end c.args.prefixes c.args.bytes.now c.args.at (sym c.escapes.ensures ∙ c.if-not-escapes.false) (no_bytes c.args.bytes.now c.in-None.ensures.cases))

pub returns-then-code-eq30 : goal.returns-then-code-eq30
returns-then-code-eq30 c =
    second_third c.args.prefixes c.in-Some.code.now c.args.bytes.now c.in-Some.rest.now c.args.at c.read_third.result (sym c.escapes.ensures ∙ c.if-not-escapes.false) c.in-Some.ensures.cases.0 c.if-code-eq30.true c.read_third.ensures

pub returns-else-code-eq30 : goal.returns-else-code-eq30
returns-else-code-eq30 c =
    second_row c.args.prefixes c.in-Some.code.now c.args.bytes.now c.in-Some.rest.now c.args.at c.read_row.result (sym c.escapes.ensures ∙ c.if-not-escapes.false) c.in-Some.ensures.cases.0 c.if-code-eq30.false c.read_row.ensures
