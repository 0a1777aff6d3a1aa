use Rattle.std.proofs.Common.{ℕ, ◌<◌, ◌^◌, sym, subst}
use Rattle.bit_words.specs.declared.op.Op.{Op}
use Rattle.bit_words.specs.declared.width.Width.TheVariants.{B8, B32}
use Rattle.bit_words.specs.Operators.{apply_op}
use Rattle.domain_laws.specs.Made.{values_of}
use Rattle.partitioned_memory.specs.Well.{MayHold}
use Rattle.transfer_functions.proofs.Holds.{narrow-holds, byte-lt}
use Rattle.transfer_functions.proofs.values.byte_value.Goals as goal

pub returns-clause-holds : goal.returns-clause-holds
returns-clause-holds g c =
    let d = values_of g.D.Domain g.D.PartialEq.eq in
    let met = g.met.D.Domain g.world.𝓛 g.world.𝓜 g.world.𝓡 ((λ s x. x), (λ x. x), (λ x. x), λ x. x) in
    let blocks = c.args.s.now.parts.blocks in
    let less : (x y : ℕ) → apply_op c.byte_part-op.result B32 x y < 2 ^ 8 = λ x y. subst (λ (o : Op). apply_op o B32 x y < 2 ^ 8) (sym c.byte_part-op.ensures) (byte-lt c.args.r x y) in
    subst (λ (x : g.row.D.Denot). MayHold d blocks B8 x) (sym c.eval.ensures)
    (narrow-holds d met.lawful blocks c.byte_part-op.result B32 B32 B8 c.register_value-whole.result c.number-zero.result c.args.align less c.register_value-whole.ensures.holds (c.number-zero.ensures.word blocks))
