use Rattle.std.proofs.Common.{◌∙◌, ap, refl, subst, sym}
use Rattle.std.specs.Prelude.{◌∷◌}
use Rattle.memory_map.specs.State.{MachineState, memory}
use Rattle.statement_lang.proofs.Indexing.{IsUntil, first_placed, until_behind, until_placed}
use Rattle.statement_lang.proofs.cells.Cells.writable_until.Goals as goal

pub returns-then-has : goal.returns-then-has
returns-then-has c =
    let stack = c.self.inside.stack in
    let ranges = c.self.inside.ranges in
    let until = until_placed (stack ∷ ranges) (memory c.args.self.now) stack c.args.a 0 c.writable_end.result (ap (λ (m : MachineState). memory m) c.self.view_is) c.self.invariant.apart
    (record { is = refl; placed = first_placed stack ranges c.args.a (sym c.has.ensures ∙ c.if-has.true) }) c.writable_end.ensures in
    record { on = until.on; each = until.each; none = until.none }

pub returns-else-has : goal.returns-else-has
returns-else-has c =
    let stack = c.self.inside.stack in
    let ranges = c.self.inside.ranges in
    let answer = c.writable_until.result in
    let P : MachineState → Type 0 = λ m. IsUntil (memory m) c.args.a answer in
    let until = subst P c.self.view_is (until_behind stack ranges c.args.a answer c.self.invariant.apart (sym c.has.ensures ∙ c.if-has.false)
    (record { on = c.writable_until.ensures.on; each = c.writable_until.ensures.each; none = c.writable_until.ensures.none })) in
    record { on = until.on; each = until.each; none = until.none }
