use Rattle.std.proofs.Common.{◌≡◌, ◌+◌, ◌-◌, ◌∙◌, ℕ, suc, ap, map, sym, arith}
use Rattle.std.specs.List.{range_with_len}
use Rattle.memory_map.specs.State.{MachineState}
use Rattle.x86_machine.specs.Started.{with_fills}
use Rattle.x86_machine.proofs.filling.zero_between.Goals as goal

pub loop-a-preserved : goal.loop-a-preserved
loop-a-preserved c =
    let a = c.loop-a.a in
    let k = c.args.end - (a + 1) in
    let zeros : ℕ → ℕ → MachineState → MachineState = λ low n m. with_fills (map (λ b. (b, 0)) (range_with_len low n)) m in
    let left : c.args.end - a ≡ suc k = omega arith in
    ap (zeros (a + 1) k) c.fill.ensures
    ∙ sym (ap (λ n. zeros a n c.loop-a.cells) left)
    ∙ c.loop-a.invariant
