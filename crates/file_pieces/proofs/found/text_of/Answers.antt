use Rattle.std.proofs.Common.{arith, sym}
use Rattle.file_pieces.proofs.Texts.{text_of-found, text_of-none}
use Rattle.file_pieces.proofs.found.text_of.Goals as goal

pub returns-then-b-eq0 : goal.returns-then-b-eq0
returns-then-b-eq0 c = sym (text_of-found c.args.bytes.now c.loop-i.i c.loop-i-test.true c.if-b-eq0.true c.loop-i.invariant)

pub returns : goal.returns
returns c = sym (text_of-none c.args.bytes.now (λ k h. c.loop-i.invariant k (omega arith)))
