use Rattle.std.proofs.Common.{◌≡◌, ◌==◌, ◌&&◌, take, true}
use Rattle.std.specs.List.{list_all, list_any}
use Rattle.domain_laws.specs.Made.{values_of}
use Rattle.abstract_state.specs.State.{covers_state}
use Rattle.table_check.proofs.checking.lead_to_rows.Given as goal

abbrev pub invariant-loop-pair : goal.invariant-loop-pair
invariant-loop-pair g l =
    list_all (λ pair. list_any (λ row. row.0 == pair.0 && covers_state (values_of g.D.Domain g.D.PartialEq.eq) row.1 pair.1) l.rows) (take l.pair-index l.next) ≡ true
