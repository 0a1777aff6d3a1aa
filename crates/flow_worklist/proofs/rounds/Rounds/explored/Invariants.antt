use Rattle.std.proofs.Common.{◌≡◌, ◌+◌, ◌-◌, ◌≤◌, ◌<◌, ◌^◌, min, vec_len}
use Rattle.domain_laws.specs.Made.{values_of}
use Rattle.flow_log.specs.Log.{explored}
use Rattle.flow_worklist.specs.Analysis.{analysis_of, image_log}
use Rattle.flow_worklist.specs.Exploring.{IsIndexed, log_in}
use Rattle.flow_worklist.proofs.rounds.Rounds.explored.Given as goal

abbrev pub decreases-loop-size : goal.decreases-loop-size
decreases-loop-size g l = l.self.limits.budget - l.next

-- the rows to come lead from the log so far to the whole
abbrev pub invariant-loop-size : goal.invariant-loop-size
invariant-loop-size g l = record {
  indexed : IsIndexed (values_of g.D.Domain g.D.PartialEq.eq) l.exploration;
  budget : l.next ≤ l.self.limits.budget;
  few : l.next + l.size < 2 ^ 32;
  size : l.size ≡ min (min l.self.round (l.self.limits.budget - l.next)) (vec_len l.exploration.rows - l.next);
  log : explored (analysis_of (values_of g.D.Domain g.D.PartialEq.eq) l.self.image.now l.self.stubs.now l.self.limits.k) l.self.limits.budget (l.self.limits.budget - l.next) l.next (log_in l.exploration)
      ≡ image_log (values_of g.D.Domain g.D.PartialEq.eq) l.self.image.now l.self.stubs.now l.self.limits.k l.self.limits.budget;
}
