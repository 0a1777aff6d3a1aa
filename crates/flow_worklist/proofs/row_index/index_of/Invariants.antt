use Rattle.std.proofs.Common.{◌≡◌, ℕ, ◌<◌, Some}
use Rattle.domain_laws.specs.Made.{values_of}
use Rattle.flow_log.specs.Log.{Row}
use Rattle.abstract_state.specs.State.{Known}
use Rattle.flow_worklist.specs.Covering.{row_nth}
use Rattle.flow_worklist.specs.Grouping.{HasPlace}
use Rattle.flow_worklist.proofs.row_index.index_of.Given as goal

-- the rows so far have their places
abbrev pub invariant-loop-place : goal.invariant-loop-place
invariant-loop-place g l = (p : ℕ) (row : Row (Known g.row.D.Denot)) → p < l.place → row_nth l.rows l.numbers p ≡ Some row
    → HasPlace (values_of g.D.Domain g.D.PartialEq.eq) l.index p row.state
