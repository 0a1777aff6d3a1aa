use Rattle.std.proofs.Common.{ap, length, arith}
use Rattle.std.specs.Prelude.{sum_by}
use Rattle.x86_syntax.specs.Text.{operand_room}
use Rattle.x86_syntax.proofs.Rows.{operands_room}
use Rattle.x86_syntax.proofs.text.write_instr.Goals as goal

pub push_operands-requires : goal.push_operands-requires
push_operands-requires c =
    let room = operands_room c.args.i.now c.args.len c.requires in
    omega (arith, ap (sum_by operand_room) c.as_slice.ensures.value, c.push_head.ensures.room, ap length c.new-out.ensures)
