use Rattle.std.proofs.Common.{◌≡◌, length}
use Rattle.std.specs.Vec.Iter.{into_iter_items, into_iter_len}
use Rattle.domain_laws.specs.Made.{values_of}
use Rattle.flow_log.specs.Log.{with_next_pairs}
use Rattle.abstract_state.specs.State.{covers_state}
use Rattle.flow_worklist.specs.Analysis.{edge_by, widened_by}
use Rattle.flow_worklist.specs.Exploring.{IsIndexed, log_in}
use Rattle.flow_worklist.proofs.exploring.Exploration.follow.Given as goal

-- the pairs to come lead from the log so far to the whole
abbrev pub invariant-loop-pair : goal.invariant-loop-pair
invariant-loop-pair g l = record {
  indexed : IsIndexed (values_of g.D.Domain g.D.PartialEq.eq) l.self;
  count : into_iter_len l.pair-iterator ≡ length (into_iter_items l.pair-iterator);
  label : l.label ≡ l.fn.post.label;
  log : with_next_pairs (covers_state (values_of g.D.Domain g.D.PartialEq.eq)) (widened_by (values_of g.D.Domain g.D.PartialEq.eq) l.limits.k) l.limits.budget l.number (edge_by l.fn.post.at l.fn.post.label)
      (into_iter_items l.pair-iterator) (log_in l.self)
      ≡ with_next_pairs (covers_state (values_of g.D.Domain g.D.PartialEq.eq)) (widened_by (values_of g.D.Domain g.D.PartialEq.eq) l.limits.k) l.limits.budget l.number (edge_by l.fn.post.at l.fn.post.label)
      l.fn.post.expansion.next (log_in l.initial.self);
}
