use Rattle.std.proofs.Common.{take}
use Rattle.domain_laws.specs.Made.{values_of}
use Rattle.flow_worklist.specs.Rounds.{ArePosts}
use Rattle.flow_worklist.proofs.rounds.piece_posts.Given as goal

abbrev pub invariant-loop-i : goal.invariant-loop-i
invariant-loop-i g l = ArePosts (values_of g.D.Domain g.D.PartialEq.eq) l.image l.stubs l.k (take l.i l.rows) l.posts.items
