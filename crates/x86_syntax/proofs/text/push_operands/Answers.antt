use Rattle.std.proofs.Common.{arith}
use Rattle.bit_words.specs.declared.width.Width.TheVariants.{B8}
use Rattle.x86_syntax.specs.declared.instr.Operand.TheVariants.{Register}
use Rattle.x86_syntax.proofs.TextLemmas.{text_step, room_step, text_end}
use Rattle.x86_syntax.proofs.text.push_operands.Goals as goal

pub loop-k-preserved : goal.loop-k-preserved
loop-k-preserved c = record {
  text = text_step c.args.sized c.args.next c.loop-k.k c.args.ops.now (Register B8 0) c.loop-k.out.bytes c.push_next.new.out.bytes _ c.loop-k-test.true c.push_next.ensures.text c.loop-k.invariant.text;
  room = omega (arith, c.push_next.ensures.room, room_step c.loop-k.k c.args.ops.now (Register B8 0) c.loop-k-test.true, c.loop-k.invariant.room);
}

pub returns : goal.returns
returns c = text_end c.args.sized c.args.next c.loop-k.k c.args.ops.now c.loop-k.out.bytes _ c.loop-k-test.false c.loop-k.invariant.text
