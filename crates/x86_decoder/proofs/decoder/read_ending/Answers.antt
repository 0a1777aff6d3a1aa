use Rattle.std.proofs.Common.{◌≡◌, ◌+◌, take, ap, ◌∙◌, arith}
use Rattle.x86_syntax.specs.Spelling.{instr_of, row_number_size}
use Rattle.x86_decoder.specs.Reading.{fault_at}
use Rattle.x86_decoder.proofs.Steps.{ending_end, ending_whole}
use Rattle.x86_decoder.proofs.decoder.read_ending.Goals as goal

pub returns-in-None : goal.returns-in-None
returns-in-None c =
    let few = c.in-None.ensures.cases in
    let same : c.short.result ≡ fault_at (c.args.at + row_number_size c.args.prefixes c.args.row) = c.short.ensures ∙ ap (λ n. fault_at (c.args.at + n)) c.row_size-size.ensures.value in
    rw same (ending_end c.args.prefixes c.args.row c.args.pieces.code c.args.pieces.modrm c.args.pieces.place c.args.bytes.now c.args.at (omega arith))

pub returns-in-Some : goal.returns-in-Some
returns-in-Some c =
    let split = c.in-Some.ensures.cases in
    ending_whole c.args.prefixes c.args.row c.args.pieces.code c.args.pieces.modrm c.args.pieces.place c.args.bytes.now c.in-Some.front.now c.args.at c.row_size-size.result c.instr.result
    c.row_size-size.ensures.value (omega arith) (split.1 ∙ ap (λ k. take k c.args.bytes.now) c.from.ensures)
    (c.instr.ensures ∙ ap (λ n. instr_of c.args.prefixes c.args.row (record { code = c.args.pieces.code; modrm = c.args.pieces.modrm; place = c.args.pieces.place; number = n })) c.number.ensures)
