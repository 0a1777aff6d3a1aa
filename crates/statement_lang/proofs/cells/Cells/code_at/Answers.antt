use Rattle.std.proofs.Common.{◌∙◌, ap, sym}
use Rattle.std.specs.Prelude.{◌∷◌}
use Rattle.memory_map.specs.Range.{code_at}
use Rattle.memory_map.specs.State.{MachineState, memory}
use Rattle.memory_map.proofs.Lists.{code_at-not_here}
use Rattle.statement_lang.proofs.Indexing.{code_placed, first_placed}
use Rattle.statement_lang.proofs.cells.Cells.code_at.Goals as goal

pub returns-then-has : goal.returns-then-has
returns-then-has c =
    let stack = c.self.inside.stack in
    let ranges = c.self.inside.ranges in
    c.code.ensures
    ∙ sym (code_placed (stack ∷ ranges) c.args.a 0 c.self.invariant.apart (first_placed stack ranges c.args.a (sym c.has.ensures ∙ c.if-has.true)))
    ∙ ap (λ (m : MachineState). code_at (memory m) c.args.a) c.self.view_is

pub returns-else-has : goal.returns-else-has
returns-else-has c =
    c.code_at.ensures
    ∙ sym (code_at-not_here c.self.inside.stack c.self.inside.ranges c.args.a (sym c.has.ensures ∙ c.if-has.false))
    ∙ ap (λ (m : MachineState). code_at (memory m) c.args.a) c.self.view_is
