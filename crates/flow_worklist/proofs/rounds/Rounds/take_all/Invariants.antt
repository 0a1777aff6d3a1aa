use Rattle.std.proofs.Common.{◌≡◌, ◌+◌, length}
use Rattle.std.specs.Vec.Iter.{into_iter_items, into_iter_len}
use Rattle.domain_laws.specs.Made.{values_of}
use Rattle.flow_worklist.specs.Exploring.{IsIndexed, log_in}
use Rattle.flow_worklist.specs.Rounds.{with_posts}
use Rattle.flow_worklist.proofs.rounds.Rounds.take_all.Given as goal

-- the expansions to come lead from the log so far to the whole
abbrev pub invariant-loop-post : goal.invariant-loop-post
invariant-loop-post g l = record {
  indexed : IsIndexed (values_of g.D.Domain g.D.PartialEq.eq) l.exploration;
  count : into_iter_len l.post-iterator ≡ length (into_iter_items l.post-iterator);
  number : l.number + length (into_iter_items l.post-iterator) ≡ l.from + length l.fn.posts.items;
  log : with_posts (values_of g.D.Domain g.D.PartialEq.eq) l.self.limits.k l.self.limits.budget l.number (into_iter_items l.post-iterator) (log_in l.exploration)
      ≡ with_posts (values_of g.D.Domain g.D.PartialEq.eq) l.self.limits.k l.self.limits.budget l.from l.fn.posts.items (log_in l.initial.exploration);
}
