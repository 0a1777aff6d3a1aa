use Rattle.std.proofs.Common.{◌≡◌, take, ap, ◌∙◌, arith}
use Rattle.abstract_state.specs.Widening.{held_registers}
use Rattle.abstract_state.proofs.seen.held_registers.Goals as goal

pub returns : goal.returns
returns g c =
    let last : c.loop-r.r ≡ 8 = omega (arith, c.loop-r-test.false, c.loop-r.auto.r-end) in
    c.loop-r.invariant ∙ ap (λ n. take n (held_registers c.args.s.now)) last
