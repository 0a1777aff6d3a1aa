use Rattle.std.proofs.Common.{◌≡◌, ap, ◌∙◌, arith, length, refl}
use Rattle.std.specs.Prelude.{slice_get}
use Rattle.partitioned_memory.specs.Leaves.{pairs_in}
use Rattle.partitioned_memory.proofs.Cuts.{nth-more, nth-there}
use Rattle.partitioned_memory.proofs.spots.nth_pair.Goals as goal

pub returns-then-left-count : goal.returns-then-left-count
returns-then-left-count g c =
    let count : c.len-count.result ≡ length (pairs_in c.leaf-item.result) = c.len-count.ensures ∙ ap (λ leaf. length leaf.pairs.items) c.deref.ensures in
    c.get.ensures
    ∙ ap (λ leaf. slice_get leaf.pairs.items c.loop-leaf.left) c.deref-then-left-count.ensures
    ∙ nth-there (λ leaf. pairs_in leaf) c.args.leaves.now c.loop-leaf.leaf-index c.loop-leaf.left c.leaf-item.result (pairs_in c.leaf-item.result) _ c.loop-leaf-test.true c.leaf-item.is refl (omega (arith, count)) c.loop-leaf.invariant

pub loop-leaf-preserved : goal.loop-leaf-preserved
loop-leaf-preserved g c =
    let count : c.len-count.result ≡ length (pairs_in c.leaf-item.result) = c.len-count.ensures ∙ ap (λ leaf. length leaf.pairs.items) c.deref.ensures in
    nth-more (λ leaf. pairs_in leaf) c.args.leaves.now c.loop-leaf.leaf-index c.loop-leaf.left _ c.leaf-item.result (pairs_in c.leaf-item.result) _ c.loop-leaf-test.true c.leaf-item.is refl (omega (arith, count)) c.loop-leaf.invariant
