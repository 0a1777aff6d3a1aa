use Rattle.std.proofs.Common.{sym, ◌∙◌}
use Rattle.x86_decoder.proofs.Steps.{no_bytes, third_none, third_end, third_row}
use Rattle.x86_decoder.proofs.decoder.read_third.Goals as goal

pub returns-then-not-escapes_twice : goal.returns-then-not-escapes_twice
returns-then-not-escapes_twice c = third_none c.args.prefixes c.args.bytes.now c.args.at c.requires.some (sym c.escapes_twice.ensures ∙ c.if-not-escapes_twice.true)

pub returns-in-None : goal.returns-in-None
returns-in-None c =
    rw c.short.ensures (third_end c.args.prefixes c.args.bytes.now c.args.at (sym c.escapes_twice.ensures ∙ c.if-not-escapes_twice.false) (no_bytes c.args.bytes.now c.in-None.ensures.cases))

pub returns-in-Some : goal.returns-in-Some
returns-in-Some c =
    third_row c.args.prefixes c.in-Some.code.now c.args.bytes.now c.in-Some.rest.now c.args.at c.read_row.result (sym c.escapes_twice.ensures ∙ c.if-not-escapes_twice.false) c.in-Some.ensures.cases.0 c.read_row.ensures
