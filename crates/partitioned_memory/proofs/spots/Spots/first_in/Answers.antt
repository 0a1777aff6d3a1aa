use Rattle.std.proofs.Common.{List, ap, ◌∙◌, filter, sym}
use Rattle.std.specs.Prelude.{not, slice_get}
use Rattle.partitioned_memory.specs.declared.fact.Spot.{Spot}
use Rattle.partitioned_memory.specs.Leaves.{flattened, pieces, unless}
use Rattle.partitioned_memory.proofs.Cuts.{first-found}
use Rattle.partitioned_memory.proofs.spots.Spots.first_in.Goals as goal

pub returns : goal.returns
returns g c =
    let b = g.S.Stretch.before c.args.stretch.now in
    let a = g.S.Stretch.after c.args.stretch.now in
    c.unless_after.ensures
    ∙ ap (unless a) (c.next_pair.ensures ∙ ap (λ ls. slice_get (filter (λ p. not (b p)) (flattened (pieces ls))) 0) c.deref.ensures.value ∙ ap (λ (xs : List (Spot × g.row.V.Denot)). slice_get (filter (λ p. not (b p)) xs) 0) c.self.view_is)
    ∙ sym (first-found b a c.args.self.now c.requires.end)
