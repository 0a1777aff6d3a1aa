use Rattle.std.proofs.Common.{refl, ap, ◌∙◌}
use Rattle.partitioned_memory.specs.Leaves.{before_edge, last_passes, pairs_in, pieces}
use Rattle.partitioned_memory.proofs.Cuts.{cut-found, falls-found, Falls-leaves, Falls-map, Falls-take}
use Rattle.partitioned_memory.proofs.leaf.cut_at.Goals as goal

pub place_of_leaf-at-requires : goal.place_of_leaf-at-requires
place_of_leaf-at-requires g c =
    let t = before_edge c.args.edge (g.S.Stretch.before c.args.stretch.now) (g.S.Stretch.after c.args.stretch.now) in
    Falls-take (λ leaf. last_passes t (pairs_in leaf)) _ _ (Falls-map (λ leaf. pairs_in leaf) (last_passes t) _ (Falls-leaves t (pieces c.args.leaves.now) c.requires.parted c.requires.leaves))

pub place_of_pair-here-requires : goal.place_of_pair-here-requires
place_of_pair-here-requires g c =
    let t = before_edge c.args.edge (g.S.Stretch.before c.args.stretch.now) (g.S.Stretch.after c.args.stretch.now) in
    falls-found (λ leaf. pairs_in leaf) t c.args.leaves.now _ c.index-leaves-at.result c.place_of_leaf-at.result _ c.is_empty.result c.is_empty.ensures c.if-is_empty.false refl c.place_of_leaf-at.ensures.within c.index-leaves-at.is
    (c.as_slice-pairs.ensures.value ∙ ap (λ leaf. leaf.pairs.items) c.deref.ensures) c.requires.parted

pub returns : goal.returns
returns g c =
    let t = before_edge c.args.edge (g.S.Stretch.before c.args.stretch.now) (g.S.Stretch.after c.args.stretch.now) in
    let cut = cut-found (λ leaf. pairs_in leaf) t c.args.leaves.now _ _ c.index-leaves-at.result c.place_of_leaf-at.result c.place_of_pair-here.result _ _ _ c.is_empty.result c.is_empty.ensures c.if-is_empty.false refl c.place_of_leaf-at.ensures.within c.index-leaves-at.is refl
    (c.as_slice-pairs.ensures.value ∙ ap (λ leaf. leaf.pairs.items) c.deref.ensures) c.split_at.ensures.front c.split_at.ensures.back c.requires.parted c.requires.leaves
    c.place_of_leaf-at.ensures.front c.place_of_leaf-at.ensures.back c.place_of_pair-here.ensures.front c.place_of_pair-here.ensures.back in
    record { none = tt; front = cut.front; back = cut.back; next = cut.next; leaves_before = cut.leaves_before; leaves_after = cut.leaves_after }
