use Rattle.std.proofs.Common.{◌≡◌, ◌∷◌, List, ap₂, map, sym, subst}
use Rattle.memory_map.specs.Range.{Range}
use Rattle.statement_lang.specs.Filling.{fill_byte}
use Rattle.statement_lang.proofs.Indexing.{fills-mapping, still_memory}
use Rattle.statement_lang.specs.Indexed.{IsMemory}
use Rattle.statement_lang.proofs.cells.Cells.fill.Goals as goal

pub invariant_of-self : goal.invariant_of-self
invariant_of-self c =
    let all = c.self.inside.stack ∷ c.self.inside.ranges in
    let new : c.fill.new.self ∷ c.fill-2.new.self ≡ map (fill_byte c.args.a c.args.b) all = ap₂ (λ (r : Range) (rs : List Range). r ∷ rs) c.fill.ensures c.fill-2.ensures in
    subst IsMemory (sym new) (still_memory all (map (fill_byte c.args.a c.args.b) all) (sym (fills-mapping c.args.a c.args.b all)) c.self.invariant)
