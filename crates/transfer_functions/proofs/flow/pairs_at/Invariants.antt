use Rattle.std.proofs.Common.{◌≡◌, ◌++◌, map, length}
use Rattle.std.specs.Vec.Iter.{into_iter_items, into_iter_len}
use Rattle.transfer_functions.proofs.flow.pairs_at.Given as goal

abbrev pub invariant-loop-s : goal.invariant-loop-s
invariant-loop-s g l = (l.all.items ≡ map (λ s. (l.target, s)) l.yielded)
    × (l.yielded ++ into_iter_items l.s-iterator ≡ into_iter_items l.initial.s-iterator)
    × (into_iter_len l.s-iterator ≡ length (into_iter_items l.s-iterator))
