use Rattle.std.proofs.Common.{◌≡◌, ◌≢◌, ◌∙◌, ap, length, sym, ℕ, Option, None}
use Rattle.std.specs.Result.{result_ok}
use Rattle.std.specs.Str.{bytes_eq}
use Rattle.x86_syntax.specs.Decodes.{decoded}
use Rattle.x86_syntax.specs.Text.{instr_text}
use Rattle.automaton_text.proofs.Spelled.{too_long, not_decoded, decoded_in_part, decoded_text}
use Rattle.automaton_text.proofs.code_text.is_code.Goals as goal

pub returns-then-bytes-gt-LONGEST_CODE : goal.returns-then-bytes-gt-LONGEST_CODE
returns-then-bytes-gt-LONGEST_CODE c = sym (too_long c.args.from c.args.bytes.now c.args.text.now c.if-bytes-gt-LONGEST_CODE.true)

pub returns-in_default : goal.returns-in_default
returns-in_default c =
    let none = rw c.in_default.is at c.decode.ensures.exact in
    sym (not_decoded c.args.from c.args.bytes.now c.args.text.now c.if-bytes-gt-LONGEST_CODE.false none)

pub returns-then-from-bytes : goal.returns-then-from-bytes
returns-then-from-bytes c =
    let found = rw c.in-Ok.is at c.decode.ensures.exact in
    let part : c.in-Ok.len ≢ length c.args.bytes.now = λ e. c.if-from-bytes.true (c.from.ensures ∙ e) in
    sym (decoded_in_part c.args.from c.args.bytes.now c.args.text.now c.in-Ok.i c.in-Ok.len c.if-bytes-gt-LONGEST_CODE.false found part)

pub returns : goal.returns
returns c =
    let found = rw c.in-Ok.is at c.decode.ensures.exact in
    let decodes = rw c.in-Ok.is at c.decode.ensures.found in
    let whole : c.in-Ok.len ≡ length c.args.bytes.now = sym c.from.ensures ∙ c.if-from-bytes.false in
    let text : c.as_bytes.result.now ≡ instr_text c.args.from c.in-Ok.i c.in-Ok.len = c.as_bytes.ensures.value ∙ c.deref.ensures.0 ∙ c.write_instr.ensures in
    c.eq.ensures ∙ ap (λ own. bytes_eq own c.args.text.now) text
    ∙ sym (decoded_text c.args.from c.args.bytes.now c.args.text.now c.in-Ok.i c.in-Ok.len c.if-bytes-gt-LONGEST_CODE.false decodes found whole)
