use Rattle.std.proofs.Common.{sym, subst}
use Rattle.bit_words.specs.declared.op.Op.TheVariants.{Low16}
use Rattle.bit_words.specs.declared.width.Width.TheVariants.{B16, B32}
use Rattle.domain_laws.specs.Made.{values_of}
use Rattle.partitioned_memory.specs.Well.{MayHold}
use Rattle.transfer_functions.proofs.Holds.{narrow-holds, low16-lt}
use Rattle.transfer_functions.proofs.values.half_value.Goals as goal

pub returns-clause-holds : goal.returns-clause-holds
returns-clause-holds g c =
    let d = values_of g.D.Domain g.D.PartialEq.eq in
    let met = g.met.D.Domain g.world.𝓛 g.world.𝓜 g.world.𝓡 ((λ s x. x), (λ x. x), (λ x. x), λ x. x) in
    let blocks = c.args.s.now.parts.blocks in
    subst (λ (x : g.row.D.Denot). MayHold d blocks B16 x) (sym c.eval.ensures)
    (narrow-holds d met.lawful blocks Low16 B32 B32 B16 c.register_value-whole.result c.number-zero.result c.args.align low16-lt c.register_value-whole.ensures.holds (c.number-zero.ensures.word blocks))
