use Rattle.std.proofs.Common.{◌≡◌, List, subst}
use Rattle.std.specs.Prelude.{IfOk}
use Rattle.partitioned_memory.specs.declared.fact.Spot.{Spot}
use Rattle.partitioned_memory.specs.Lists.{Ascends}
use Rattle.partitioned_memory.specs.Pairs.{pair_before}
use Rattle.partitioned_memory.proofs.PairLaws.{inserted, inserted-ascends, parted-at}
use Rattle.partitioned_memory.proofs.spots.Spots.insert.Goals as goal

pub around-requires-clause-parted : goal.around-requires-clause-parted
around-requires-clause-parted g c = parted-at c.args.key c.args.self.now (subst (Ascends pair_before) c.self.view_is c.self.invariant.ascend)

pub around-requires-clause-ascend : goal.around-requires-clause-ascend
around-requires-clause-ascend g c = inserted-ascends c.args.key c.args.v c.args.self.now (subst (Ascends pair_before) c.self.view_is c.self.invariant.ascend)

pub returns : goal.returns
returns g c =
    subst (λ (xs : List (Spot × g.row.V.Denot)). IfOk c.around.result (λ all. all ≡ xs))
    (inserted c.args.key c.args.v c.args.self.now (subst (Ascends pair_before) c.self.view_is c.self.invariant.ascend)) c.around.ensures
