use Rattle.domain_laws.specs.Made.{values_of}
use Rattle.transfer_functions.proofs.Holds.{write-place}
use Rattle.transfer_functions.proofs.arithmetic.combined.Goals as goal

pub returns-else-keeps-clause-writable : goal.returns-else-keeps-clause-writable
returns-else-keeps-clause-writable g c =
    let d = values_of g.D.Domain g.D.PartialEq.eq in
    λ blocks u place h k. write-place d blocks c.args.shape.w c.args.left c.eval.result place (c.eval.ensures.holds blocks _ u h k)
