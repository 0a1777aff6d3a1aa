use Rattle.std.proofs.Common.{ap, ◌∙◌}
use Rattle.std.specs.Prelude.{length, slice_get, ◌-◌}
use Rattle.partitioned_memory.specs.Leaves.{before_edge}
use Rattle.partitioned_memory.proofs.Cuts.{last-read}
use Rattle.partitioned_memory.proofs.leaf.Leaf.is_before.Goals as goal

pub returns-in-Some : goal.returns-in-Some
returns-in-Some g c =
    let t = before_edge c.args.edge (g.S.Stretch.before c.args.stretch.now) (g.S.Stretch.after c.args.stretch.now) in
    c.is_before_edge.ensures ∙ last-read t c.args.self.now.pairs.items c.in-Some.pair.now (c.in-Some.ensures.value ∙ ap (λ xs. slice_get xs (length xs - 1)) c.deref.ensures.value)
