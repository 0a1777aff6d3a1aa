use Rattle.std.proofs.Common.{◌≡◌, ◌+◌, ◌≤◌, ◌++◌, length, drop}
use Rattle.std.specs.Prelude.{sum_by}
use Rattle.x86_syntax.specs.Text.{operands_text, operand_room}
use Rattle.x86_syntax.proofs.text.push_operands.Given as goal

abbrev pub invariant-loop-k : goal.invariant-loop-k
invariant-loop-k l = record {
  text : l.out.bytes ++ operands_text l.sized l.next l.k (drop l.k l.ops) ≡ l.fn.out.bytes ++ operands_text l.sized l.next 0 l.ops;
  room : length l.out.bytes + sum_by operand_room (drop l.k l.ops) ≤ 96;
}
