use Rattle.std.proofs.Common.{◌≡◌, ◌+◌, sym, ap, ◌∙◌}
use Rattle.x86_decoder.specs.Reading.{fault_at, shortest_behind}
use Rattle.x86_decoder.proofs.Steps.{no_bytes, prefixes_end, prefix_step, prefix_refused, opcode_step}
use Rattle.x86_decoder.proofs.decoder.+read.Goals as goal

pub returns-in-None : goal.returns-in-None
returns-in-None t c =
    let same : c.short.result ≡ fault_at (c.args.at + shortest_behind c.args.prefixes.group) = c.short.ensures ∙ ap (λ n. fault_at (c.args.at + n)) c.least_behind.ensures in
    rw same (prefixes_end c.args.prefixes c.args.bytes.now c.args.at (no_bytes c.args.bytes.now c.in-None.ensures.cases))

pub returns-then-not-is_prefix_byte : goal.returns-then-not-is_prefix_byte
returns-then-not-is_prefix_byte t c =
    opcode_step c.args.prefixes c.in-Some.b.now c.args.bytes.now c.in-Some.rest.now c.args.at c.read_opcode.result c.in-Some.ensures.cases.0 (sym c.is_prefix_byte.ensures ∙ c.if-not-is_prefix_byte.true) c.read_opcode.ensures

pub returns-in-None-add_prefix : goal.returns-in-None-add_prefix
returns-in-None-add_prefix t c =
    prefix_refused c.args.prefixes c.in-Some.b.now c.args.bytes.now c.in-Some.rest.now c.args.at c.in-Some.ensures.cases.0 (sym c.is_prefix_byte.ensures ∙ c.if-not-is_prefix_byte.false) (sym c.add_prefix.ensures ∙ c.in-None-add_prefix.is)

pub returns-in-Some-add_prefix : goal.returns-in-Some-add_prefix
returns-in-Some-add_prefix t c =
    prefix_step c.args.prefixes c.in-Some-add_prefix.more c.in-Some.b.now c.args.bytes.now c.in-Some.rest.now c.args.at c.read.result c.in-Some.ensures.cases.0 (sym c.is_prefix_byte.ensures ∙ c.if-not-is_prefix_byte.false) (sym c.add_prefix.ensures ∙ c.in-Some-add_prefix.is) c.read.ensures
