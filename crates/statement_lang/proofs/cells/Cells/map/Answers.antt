use Rattle.std.proofs.Common.{◌≡◌, ◌∷◌, ◌++◌, [], ◌∙◌, Bool, true, false, List, ap, cond, refl, subst, sym}
use Rattle.std.specs.Prelude.{is_ok}
use Rattle.memory_map.specs.Range.{Range}
use Rattle.memory_map.specs.State.{MachineState, memory}
use Rattle.statement_lang.specs.Indexed.{IsMemory, may_map}
use Rattle.statement_lang.proofs.Indexing.{memory_more}
use Rattle.statement_lang.proofs.cells.Cells.map.Goals as goal

either : (stack block : Range) (ranges : List Range) (b : Bool) → may_map (stack ∷ ranges) block ≡ true → IsMemory (stack ∷ ranges) → IsMemory (stack ∷ cond b (ranges ++ block ∷ []) ranges)
either stack block ranges true may memory = memory_more (stack ∷ ranges) block may memory
either stack block ranges false may memory = memory

pub invariant_of-self : goal.invariant_of-self
invariant_of-self c =
    let stack = c.self.inside.stack in
    let ranges = c.self.inside.ranges in
    let P : List Range → Type 0 = λ l. IsMemory (stack ∷ l) in
    let may : may_map (stack ∷ ranges) c.args.block ≡ true = ap (λ (m : MachineState). may_map (memory m) c.args.block) c.self.view_is ∙ c.requires in
    subst P (sym c.add.ensures) (either stack c.args.block ranges (is_ok c.add.result) may c.self.invariant)
