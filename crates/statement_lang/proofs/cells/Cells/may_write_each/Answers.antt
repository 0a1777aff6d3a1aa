use Rattle.std.proofs.Common.{◌≡◌, ◌∙◌, Bool, true, false, arith, inl, inr, sym}
use Rattle.std.specs.List.{list_all, range_with_len}
use Rattle.std.proofs.lemmas.Bool.{cases_Bool, false≢true}
use Rattle.memory_map.specs.Range.{may_write}
use Rattle.memory_map.specs.State.{memory}
use Rattle.memory_map.proofs.RunBytes.{all_from_each, all_in_range}
use Rattle.statement_lang.proofs.cells.Cells.may_write_each.Goals as goal

pub returns-in-None : goal.returns-in-None
returns-in-None c =
    let may = may_write (memory c.args.self.now) in
    let from = c.loop-at.invariant.from in
    elim (cases_Bool (list_all may (range_with_len c.args.a c.args.n))) [
      | inl all ↦
          let here : may c.loop-at.at ≡ true = all_in_range may c.args.a c.args.n c.loop-at.at all from (omega arith) in
          absurd (false≢true (sym c.in-None.ensures.none ∙ here))
      | inr none ↦ sym none
    ]

pub returns : goal.returns
returns c =
    let may = may_write (memory c.args.self.now) in
    sym (all_from_each may c.args.a c.args.n (λ b from below. c.loop-at.invariant.each b from (omega (arith, below))))
