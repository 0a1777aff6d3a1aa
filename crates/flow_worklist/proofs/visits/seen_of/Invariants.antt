use Rattle.std.proofs.Common.{◌≡◌, drop, fold}
use Rattle.domain_laws.specs.Made.{values_of}
use Rattle.abstract_state.specs.Widening.{seen_of, seen_with}
use Rattle.flow_worklist.specs.Covering.{states_of}
use Rattle.flow_worklist.proofs.visits.seen_of.Given as goal

-- the rows to come lead from what was seen so far to the whole
abbrev pub invariant-loop-number : goal.invariant-loop-number
invariant-loop-number g l =
    let d = values_of g.D.Domain g.D.PartialEq.eq in
    fold (λ seen s. seen_with d s seen) l.seen (states_of l.rows (drop l.number-index l.numbers)) ≡ seen_of d (states_of l.rows l.numbers)
