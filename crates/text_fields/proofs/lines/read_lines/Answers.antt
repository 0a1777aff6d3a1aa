use Rattle.std.proofs.Common.{◌≡◌, ◌==◌, ◌∙◌, sym, arith, false, length, true}
use Rattle.text_fields.proofs.LineFacts.{line_after_end, line_refused, line_taken, read_last, stops_early, stops_in_line}
use Rattle.text_fields.proofs.lines.read_lines.Goals as goal

pub returns-then-is_ended : goal.returns-then-is_ended
returns-then-is_ended g c =
    let read = sym c.loop-line.invariant.0 ∙ line_after_end g.R.LineReader.grammar c.loop-line.number c.loop-line.reader c.loop-line.rest.now c.in-Some.line.now c.in-Some.behind.now c.in-Some.ensures.parts (sym c.if-is_ended.ensures) in
    rw c.end_fault.ensures read

pub returns-in-Err-Kind : goal.returns-in-Err-Kind
returns-in-Err-Kind g c =
    let refused = rw c.in-Err-Kind.field-0-is at c.in-Err-Kind.ensures in
    rw c.in-Err-Kind.kind-is (sym c.loop-line.invariant.0 ∙ line_refused g.R.LineReader.grammar c.loop-line.number c.loop-line.reader c.loop-line.rest.now c.in-Some.line.now c.in-Some.behind.now c.in-Err-Kind.kind c.in-Some.ensures.parts (sym c.if-is_ended.ensures) refused)

pub loop-line-preserved : goal.loop-line-preserved
loop-line-preserved g c =
    let shorter = c.in-Some.ensures.shorter in (
      sym (line_taken g.R.LineReader.grammar c.loop-line.number c.loop-line.reader c.read_line.new.self c.loop-line.rest.now c.in-Some.line.now c.in-Some.behind.now c.in-Some.ensures.parts (sym c.if-is_ended.ensures) c.in-Ok.ensures) ∙ c.loop-line.invariant.0,
      omega arith,
    )

pub returns-then-not-is_empty : goal.returns-then-not-is_empty
returns-then-not-is_empty g c =
    let some : (length c.loop-line.rest.now == 0) ≡ false = sym c.if-not-is_empty.ensures in
    let read = sym c.loop-line.invariant.0 ∙ stops_in_line g.R.LineReader.grammar c.loop-line.number c.loop-line.reader c.loop-line.rest.now c.in_default.ensures.parts some in
    rw c.end_fault-then-not-is_empty.ensures read

pub returns-then-not-is_ended : goal.returns-then-not-is_ended
returns-then-not-is_ended g c =
    let read = sym c.loop-line.invariant.0 ∙ stops_early g.R.LineReader.grammar c.loop-line.number c.loop-line.reader c.loop-line.rest.now c.in_default.ensures.parts (sym c.if-not-is_ended.ensures) in
    rw c.end_fault-then-not-is_ended.ensures read

pub returns : goal.returns
returns g c =
    let none : (length c.loop-line.rest.now == 0) ≡ true = sym c.if-not-is_empty.ensures in
    sym c.loop-line.invariant.0 ∙ read_last g.R.LineReader.grammar c.loop-line.number c.loop-line.reader c.loop-line.rest.now c.in_default.ensures.parts none (sym c.if-not-is_ended.ensures)
