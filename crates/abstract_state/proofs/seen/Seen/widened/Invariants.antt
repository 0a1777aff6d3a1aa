use Rattle.std.proofs.Common.{◌≡◌, ℕ, ◌+◌}
use Rattle.std.specs.Prelude.{find, unwrap_or}
use Rattle.domain_laws.specs.Made.{values_of}
use Rattle.abstract_state.specs.Widening.{raises, stays, widened_value}
use Rattle.abstract_state.proofs.seen.Seen.widened.Given as goal

abbrev pub invariant-loop-turn : goal.invariant-loop-turn
invariant-loop-turn g l =
    let d = values_of g.D.Domain g.D.PartialEq.eq in
    (left : ℕ) → left + l._turn ≡ g.D.Domain.rank l.fn.value + 1
    → widened_value d l.k l.self l.holder l.fn.value ≡ unwrap_or (find (stays d l.k l.self l.holder) (raises d l.k l.self left l.widened)) d.any
