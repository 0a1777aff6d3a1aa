use Rattle.std.proofs.Common.{ap}
use Rattle.std.specs.Prelude.{◌&&◌, not}
use Rattle.partitioned_memory.specs.Leaves.{pairs_in}
use Rattle.partitioned_memory.proofs.Cuts.{falls-first, falls-rest, within-more}
use Rattle.partitioned_memory.proofs.spots.pairs_within.Goals as goal

pub push_within-requires : goal.push_within-requires
push_within-requires g c =
    let b = g.S.Stretch.before c.args.stretch.now in
    let a = g.S.Stretch.after c.args.stretch.now in
    record {
      start = falls-first (λ leaf. pairs_in leaf) b c.args.leaves.now c.loop-leaf.leaf-index c.leaf-item.result c.deref.result.now.pairs.items c.loop-leaf-test.true c.leaf-item.is (ap (λ leaf. leaf.pairs.items) c.deref.ensures) c.loop-leaf.invariant.parted.start;
      end = falls-first (λ leaf. pairs_in leaf) (λ p. not (a p)) c.args.leaves.now c.loop-leaf.leaf-index c.leaf-item.result c.deref.result.now.pairs.items c.loop-leaf-test.true c.leaf-item.is (ap (λ leaf. leaf.pairs.items) c.deref.ensures) c.loop-leaf.invariant.parted.end;
    }

pub loop-leaf-preserved : goal.loop-leaf-preserved
loop-leaf-preserved g c =
    let b = g.S.Stretch.before c.args.stretch.now in
    let a = g.S.Stretch.after c.args.stretch.now in
    record {
      made = within-more (λ leaf. pairs_in leaf) (λ p. not (b p) && not (a p)) c.args.leaves.now c.loop-leaf.leaf-index c.leaf-item.result c.loop-leaf.all.items c.push_within.new.out.items c.deref.result.now.pairs.items _ c.loop-leaf-test.true c.leaf-item.is (ap (λ leaf. leaf.pairs.items) c.deref.ensures) c.in_ok-push_within.ensures c.loop-leaf.invariant.made;
      parted = record {
        start = falls-rest (λ leaf. pairs_in leaf) b c.args.leaves.now c.loop-leaf.leaf-index c.leaf-item.result c.loop-leaf-test.true c.leaf-item.is c.loop-leaf.invariant.parted.start;
        end = falls-rest (λ leaf. pairs_in leaf) (λ p. not (a p)) c.args.leaves.now c.loop-leaf.leaf-index c.leaf-item.result c.loop-leaf-test.true c.leaf-item.is c.loop-leaf.invariant.parted.end;
      };
    }
