use Rattle.std.proofs.Common.{◌+◌, ◌-◌, ◌/◌, ◌%◌, ap, sym, ◌∙◌, arith}
use Rattle.memory_map.specs.State.{MachineState}
use Rattle.x86_semantics.specs.Memory.{next_byte, with_byte, with_number}
use Rattle.statement_lang.proofs.Counting.{number-step, number-none}
use Rattle.statement_lang.proofs.cells.Cells.put_number.Goals as goal

pub loop-i-preserved : goal.loop-i-preserved
loop-i-preserved c =
    let n = c.args.count - c.loop-i._i in
    let k = c.args.count - (c.loop-i._i + 1) in
    ap (λ a. with_number k a (c.loop-i.left / 256) c.put.new.self) c.next_byte-at.ensures
    ∙ ap (λ (m : MachineState). with_number k (next_byte c.loop-i.at) (c.loop-i.left / 256) m) c.put.ensures
    ∙ ap (λ a. with_number k (next_byte c.loop-i.at) (c.loop-i.left / 256) (with_byte a (c.loop-i.left % 256) c.loop-i.self)) c.from.ensures
    ∙ sym (number-step n k c.loop-i.at c.loop-i.left c.loop-i.self (omega arith))
    ∙ c.loop-i.invariant

pub returns : goal.returns
returns c = sym (number-none (c.args.count - c.loop-i._i) c.loop-i.at c.loop-i.left c.loop-i.self (omega arith)) ∙ c.loop-i.invariant
