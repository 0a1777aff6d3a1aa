use Rattle.std.proofs.Common.{◌≡◌, take}
use Rattle.domain_laws.specs.Made.{values_of}
use Rattle.flow_worklist.specs.Telling.{told_at}
use Rattle.flow_worklist.proofs.told.told_at.Given as goal

abbrev pub invariant-loop-holder : goal.invariant-loop-holder
invariant-loop-holder g l = l.told ≡ told_at (values_of g.D.Domain g.D.PartialEq.eq) (take l.holder-index l.holders) l.s
