use Rattle.std.proofs.Common.{◌≡◌, [], take}
use Rattle.domain_laws.specs.Made.{values_of}
use Rattle.abstract_state.specs.Widening.{with_pairs}
use Rattle.abstract_state.proofs.pair_index.PairIndex.of.Given as goal

abbrev pub invariant-loop-pair : goal.invariant-loop-pair
invariant-loop-pair g l = l.index ≡ with_pairs (values_of g.D.Domain g.D.PartialEq.eq) (take l.pair-index l.pairs) []
