use Rattle.domain_laws.specs.Made.{values_of}
use Rattle.transfer_functions.proofs.Fetching.{IsRun}
use Rattle.transfer_functions.proofs.code.known_code.Given as goal

abbrev pub invariant-loop-i : goal.invariant-loop-i
invariant-loop-i g l = IsRun (values_of g.D.Domain g.D.PartialEq.eq) l.image l.s l.at l.i l.bytes.items
