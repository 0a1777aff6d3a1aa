use Rattle.std.proofs.Common.{◌≡◌, ◌∷◌, List, ap₂, map, sym, subst}
use Rattle.memory_map.specs.Range.{Range}
use Rattle.x86_semantics.specs.Memory.{put_byte}
use Rattle.x86_semantics.proofs.Storing.{puts-mapping}
use Rattle.statement_lang.proofs.Indexing.{still_memory}
use Rattle.statement_lang.specs.Indexed.{IsMemory}
use Rattle.statement_lang.proofs.cells.Cells.put.Goals as goal

pub invariant_of-self : goal.invariant_of-self
invariant_of-self c =
    let all = c.self.inside.stack ∷ c.self.inside.ranges in
    let new : c.put.new.self ∷ c.put-2.new.self ≡ map (put_byte c.args.a c.args.b) all = ap₂ (λ (r : Range) (rs : List Range). r ∷ rs) c.put.ensures c.put-2.ensures in
    subst IsMemory (sym new) (still_memory all (map (put_byte c.args.a c.args.b) all) (sym (puts-mapping c.args.a c.args.b all)) c.self.invariant)
