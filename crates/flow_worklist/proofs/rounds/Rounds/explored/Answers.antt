-- A round leads on, and past the last row or the budget nothing is left.
use Rattle.std.proofs.Common.{◌≡◌, ◌+◌, ◌-◌, ◌≤◌, min, length, vec_len, sym, ◌∙◌, ap, arith, rules}
use Rattle.domain_laws.specs.Made.{values_of}
use Rattle.flow_worklist.specs.Analysis.{ImageLog, analysis_of}
use Rattle.flow_worklist.specs.Exploring.{log_in}
use Rattle.flow_log.specs.Log.{explored}
use Rattle.flow_worklist.proofs.Expanding.{explored_all}
use Rattle.flow_worklist.proofs.Taking.{ends, explored_add, finished}
use Rattle.flow_worklist.proofs.rounds.Rounds.explored.Goals as goal

pub loop-size-init : goal.loop-size-init
loop-size-init g c =
    let d = values_of g.D.Domain g.D.PartialEq.eq in
    let rounds = c.args.self.now in
    let image = rounds.image.now in
    let stubs = rounds.stubs.now in
    let k = rounds.limits.k in
    let budget = rounds.limits.budget in
    let a = analysis_of d image stubs k in
    let fuel : budget - 0 ≡ budget = omega arith in
    let count : c.len.result ≡ vec_len c.in_ok-exploration.exploration.rows = search rules in
    record {
      indexed = c.in_ok-exploration.ensures.indexed;
      budget = omega arith;
      few = c.round_size-size.ensures.few;
      size = c.round_size-size.ensures.is ∙ ap (λ n. min (min rounds.round (budget - 0)) (n - 0)) count;
      log = ap (λ n. explored a budget n 0 (log_in c.in_ok-exploration.exploration)) fuel
          ∙ ap (λ (l : ImageLog g.row.D.Denot). explored a budget budget 0 l) (c.in_ok-exploration.ensures.log stubs)
          ∙ explored_all d image stubs k budget;
    }

pub loop-size-preserved : goal.loop-size-preserved
loop-size-preserved g c =
    let d = values_of g.D.Domain g.D.PartialEq.eq in
    let rounds = c.args.self.now in
    let image = rounds.image.now in
    let stubs = rounds.stubs.now in
    let k = rounds.limits.k in
    let budget = rounds.limits.budget in
    let a = analysis_of d image stubs k in
    let next = c.loop-size.next in
    let size = c.loop-size.size in
    let inv = c.loop-size.invariant in
    let is = inv.size in
    let before = inv.budget in
    let within : next + size ≤ budget = omega (arith, is, before) in
    let fuel : budget - next ≡ size + (budget - (next + size)) = omega (arith, within) in
    record {
      indexed = c.in_ok-expand_rows.ensures.indexed;
      budget = within;
      few = search rules;
      size = search rules;
      log = ap (λ (l : ImageLog g.row.D.Denot). explored a budget (budget - (next + size)) (next + size) l) c.in_ok-expand_rows.ensures.log
          ∙ sym (explored_add d image stubs k budget size (budget - (next + size)) next (log_in c.loop-size.exploration))
          ∙ sym (ap (λ n. explored a budget n next (log_in c.loop-size.exploration)) fuel)
          ∙ inv.log;
    }

pub returns : goal.returns
returns g c =
    let d = values_of g.D.Domain g.D.PartialEq.eq in
    let rounds = c.args.self.now in
    let image = rounds.image.now in
    let stubs = rounds.stubs.now in
    let k = rounds.limits.k in
    let budget = rounds.limits.budget in
    let inv = c.loop-size.invariant in
    let is = inv.size in
    let some = c.requires.round in
    let rows = c.loop-size.exploration.rows in
    let count : vec_len rows ≡ length rows.items = rows.ok.0 in
    let none : c.loop-size.size ≡ 0 = omega arith in
    finished d image stubs k budget c.loop-size.next (log_in c.loop-size.exploration) (ends rounds.round budget (vec_len rows) (length rows.items) c.loop-size.next c.loop-size.size is none some count)
    ∙ inv.log
