use Rattle.std.proofs.Common.{◌^◌, ◌≤◌, sym, subst, arith}
use Rattle.std.specs.Prelude.{All}
use Rattle.memory_map.specs.Range.{IsInUserSpace}
use Rattle.memory_map.specs.State.{MachineState, memory}
use Rattle.statement_lang.proofs.Indexing.{word_far}
use Rattle.statement_lang.proofs.cells.Cells.word_at.Goals as goal

pub returns-then-a-from : goal.returns-then-a-from
returns-then-a-from c =
    let P : MachineState → Type 0 = λ m. All IsInUserSpace (memory m) in
    let far : 2 ^ 32 ≤ c.args.a = omega arith in
    sym (word_far c.args.w c.args.a c.args.self.now (subst P c.self.view_is c.self.invariant.inside) far)
