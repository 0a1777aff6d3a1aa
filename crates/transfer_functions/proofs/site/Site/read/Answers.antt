use Rattle.std.proofs.Common.{sym, subst}
use Rattle.domain_laws.specs.Made.{values_of}
use Rattle.partitioned_memory.specs.Well.{MayHold}
use Rattle.x86_syntax.specs.declared.instr.Operand.{Operand}
use Rattle.x86_semantics.specs.Widths.{width_of}
use Rattle.transfer_functions.proofs.site.Site.read.Goals as goal

pub returns-in-Number-clause-holds : goal.returns-in-Number-clause-holds
returns-in-Number-clause-holds g c =
    let d = values_of g.D.Domain g.D.PartialEq.eq in
    let blocks = c.args.s.now.parts.blocks in
    subst (λ (o : Operand). MayHold d blocks (width_of o) c.low_number.result) (sym c.in-Number.is) (c.low_number.ensures.holds blocks)

pub returns-in-Offset-clause-holds : goal.returns-in-Offset-clause-holds
returns-in-Offset-clause-holds g c =
    let d = values_of g.D.Domain g.D.PartialEq.eq in
    let blocks = c.args.s.now.parts.blocks in
    subst (λ (o : Operand). MayHold d blocks (width_of o) c.number.result) (sym c.in-Offset.is) (c.number.ensures.word blocks)
