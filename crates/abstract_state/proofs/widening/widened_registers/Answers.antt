use Rattle.std.proofs.Common.{◌≡◌, [], ◌∷◌, fold, ap, sym, ◌∙◌, arith, rules}
use Rattle.std.specs.List.{range_with_len}
use Rattle.std.proofs.lemmas.List.Sums.{fold-append}
use Rattle.domain_laws.specs.Made.{values_of}
use Rattle.abstract_state.specs.Widening.{with_widened_register}
use Rattle.abstract_state.proofs.Storing.{range-next}
use Rattle.abstract_state.proofs.widening.widened_registers.Goals as goal

pub loop-r-preserved : goal.loop-r-preserved
loop-r-preserved g c =
    let step = with_widened_register (values_of g.D.Domain g.D.PartialEq.eq) c.args.k c.args.seen.now in
    let r = c.loop-r.r in
    let next : c.set.new.self ≡ step c.loop-r.regs r = search rules in
    next ∙ ap (λ x. step x r) c.loop-r.invariant
    ∙ sym (ap (fold step c.args.regs) (range-next r) ∙ fold-append step c.args.regs (range_with_len 0 r) (r ∷ []))

pub returns : goal.returns
returns g c =
    let step = with_widened_register (values_of g.D.Domain g.D.PartialEq.eq) c.args.k c.args.seen.now in
    let last : c.loop-r.r ≡ 8 = omega (arith, c.loop-r-test.false, c.loop-r.auto.r-end) in
    c.loop-r.invariant ∙ ap (λ n. fold step c.args.regs (range_with_len 0 n)) last
