use Rattle.std.proofs.Common.{◌≡◌, length}
use Rattle.std.specs.Vec.Iter.{into_iter_items, into_iter_len}
use Rattle.flow_worklist.proofs.Taking.{IsJoining}
use Rattle.flow_worklist.proofs.rounds.in_order.Given as goal

-- the pieces so far are joined
abbrev pub invariant-loop-piece : goal.invariant-loop-piece
invariant-loop-piece g l = record {
  count : into_iter_len l.piece-iterator ≡ length (into_iter_items l.piece-iterator);
  joined : IsJoining l.fn.pieces.items l.posts.items (into_iter_items l.piece-iterator);
}
