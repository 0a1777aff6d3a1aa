use Rattle.std.proofs.Common.{◌-◌, ◌∙◌, ap, sym}
use Rattle.std.specs.Prelude.{◌∷◌, slice_get}
use Rattle.memory_map.specs.Range.{byte_at}
use Rattle.memory_map.specs.State.{MachineState, memory}
use Rattle.memory_map.proofs.Lists.{byte_at-here, byte_at-there}
use Rattle.statement_lang.proofs.cells.Cells.byte_at.Goals as goal

pub returns-then-has : goal.returns-then-has
returns-then-has c =
    let stack = c.self.inside.stack in
    let ranges = c.self.inside.ranges in
    c.byte.ensures
    ∙ sym (byte_at-here stack ranges c.from-a.result (sym c.has.ensures ∙ c.if-has.true))
    ∙ ap (byte_at (stack ∷ ranges)) c.from-a.ensures
    ∙ ap (λ (m : MachineState). byte_at (memory m) c.args.a) c.self.view_is

pub returns-else-has : goal.returns-else-has
returns-else-has c =
    let stack = c.self.inside.stack in
    let ranges = c.self.inside.ranges in
    c.byte_at.ensures
    ∙ sym (byte_at-there stack ranges c.from-a.result (sym c.has.ensures ∙ c.if-has.false))
    ∙ ap (byte_at (stack ∷ ranges)) c.from-a.ensures
    ∙ ap (λ (m : MachineState). byte_at (memory m) c.args.a) c.self.view_is
