-- The closure asks what its call was given.
use Rattle.std.proofs.Common.{rules}
use Rattle.flow_worklist.proofs.rounds.fn.posts_of.expand+Fn.call.Goals as goal

pub expand-requires : goal.expand-requires
expand-requires g c = search rules
