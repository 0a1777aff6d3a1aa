use Rattle.std.proofs.Common.{take}
use Rattle.std.specs.Prelude.{All}
use Rattle.domain_laws.specs.Made.{values_of}
use Rattle.abstract_state.specs.State.{IsWellState}
use Rattle.table_check.proofs.checking.kept.Given as goal

abbrev pub invariant-loop-row : goal.invariant-loop-row
invariant-loop-row g l = All (λ row. IsWellState (values_of g.D.Domain g.D.PartialEq.eq) row.1) (take l.row-index l.rows)
