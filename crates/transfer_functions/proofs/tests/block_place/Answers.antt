use Rattle.std.proofs.Common.{sym, subst}
use Rattle.std.specs.Prelude.{pos}
use Rattle.bit_words.specs.declared.width.Width.TheVariants.{B32}
use Rattle.domain_laws.specs.Made.{values_of}
use Rattle.partitioned_memory.specs.Held.{counted_more}
use Rattle.partitioned_memory.specs.Well.{MayHold}
use Rattle.transfer_functions.proofs.BlockPlaces.{block-holds}
use Rattle.transfer_functions.proofs.tests.block_place.Goals as goal

pub returns-clause-holds : goal.returns-clause-holds
returns-clause-holds g c =
    let d = values_of g.D.Domain g.D.PartialEq.eq in
    let met = g.met.D.Domain g.world.𝓛 g.world.𝓜 g.world.𝓡 ((λ s x. x), (λ x. x), (λ x. x), λ x. x) in
    λ blocks. subst (λ (x : g.row.D.Denot). MayHold d (counted_more c.args.region blocks) B32 x) (sym c.eval.ensures) (block-holds d met.lawful c.args.region blocks (pos 0) c.args.n 16 _ _ c.place.ensures c.number.ensures)
