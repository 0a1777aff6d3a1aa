-- The bytes decode as a whole, so the text printed is that of the instruction that they spell.
use Rattle.std.proofs.Common.{◌≡◌, length, Some, sym, ◌∙◌}
use Rattle.std.specs.Result.{result_ok}
use Rattle.automaton_text.specs.Text.{code_text}
use Rattle.automaton_text.proofs.Spelled.{decoded_whole, code_text_of}
use Rattle.automaton_text.proofs.print.push_code.Goals as goal

pub unreachable-requires : goal.unreachable-requires
unreachable-requires c =
    let bytes = c.args.bytes.now in
    let whole = c.requires.spelled in
    let found : result_ok c.decode.result ≡ Some (whole.0, length bytes) = c.decode.ensures.exact ∙ decoded_whole bytes whole.0 c.requires.short whole.1 in
    let none = rw c.in-Err.is at found in
    cc

pub returns : goal.returns
returns c =
    let found = rw c.in-Ok.is at c.decode.ensures.exact in
    let text : c.as_bytes.result.now ≡ code_text c.args.from c.args.bytes.now =
    c.as_bytes.ensures.value ∙ c.deref.ensures.0 ∙ c.write_instr.ensures ∙ sym (code_text_of c.args.from c.args.bytes.now c.in-Ok.i c.in-Ok.len c.requires.short c.requires.spelled (sym found)) in
    rw text at c.push_bytes.ensures.ok
