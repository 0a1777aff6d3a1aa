use Rattle.std.proofs.Common.{ap, ◌∙◌}
use Rattle.partitioned_memory.specs.Leaves.{flattened, pieces}
use Rattle.partitioned_memory.proofs.Cuts.{around-flattened}
use Rattle.partitioned_memory.proofs.spots.leaves_around.Goals as goal

pub returns-clause-pairs : goal.returns-clause-pairs
returns-clause-pairs g c =
    let b = g.S.Stretch.before c.args.stretch.now in
    let a = g.S.Stretch.after c.args.stretch.now in
    around-flattened b a c.args.new (flattened (pieces c.args.leaves.now))
    (pieces c.in_ok-all.all.items) (pieces c.push_shared.new.out.items) (pieces c.push_pairs.new.out.items) (pieces c.push_shared-2.new.out.items) (pieces c.in-Some.front.before.now) (pieces c.in-Some-cut_at.back.after.now)
    c.in-Some.front.left.now c.in-Some-cut_at.back.right.now c.deref.result.now
    (ap pieces c.in_ok-all.ensures.items) c.in_ok-push_shared.ensures c.in_ok-push_pairs.ensures.pairs c.in_ok-push_shared-2.ensures (c.deref.ensures.value ∙ c.in_ok-pairs.ensures) c.in-Some.ensures.front c.in-Some-cut_at.ensures.back
