use Rattle.std.proofs.Common.{◌≡◌, List, ap, ◌∙◌, filter, subst}
use Rattle.std.specs.Prelude.{IfOk, ◌&&◌, not}
use Rattle.partitioned_memory.specs.declared.fact.Spot.{Spot}
use Rattle.partitioned_memory.specs.Leaves.{flattened, pieces}
use Rattle.partitioned_memory.proofs.spots.Spots.within.Goals as goal

pub returns : goal.returns
returns g c =
    let b = g.S.Stretch.before c.args.stretch.now in
    let a = g.S.Stretch.after c.args.stretch.now in
    subst (λ (xs : List (Spot × g.row.V.Denot)). IfOk c.pairs_within.result (λ all. all.items ≡ filter (λ p. not (b p) && not (a p)) xs))
    (ap (λ ls. flattened (pieces ls)) c.deref.ensures.value ∙ c.self.view_is) c.pairs_within.ensures
