-- The rows of the round stand in the log when their expansions are taken in.
use Rattle.std.proofs.Common.{◌≡◌, ℕ, length, vec_len, sym, ◌∙◌, ap, arith}
use Rattle.domain_laws.specs.Made.{values_of}
use Rattle.flow_log.specs.Log.{explored}
use Rattle.flow_worklist.specs.Analysis.{analysis_of}
use Rattle.flow_worklist.specs.Exploring.{log_in}
use Rattle.flow_worklist.proofs.Taking.{posts_long, round_is, stand_between}
use Rattle.flow_worklist.proofs.rounds.Rounds.expand_rows.Goals as goal

pub take_all-requires-clause-few : goal.take_all-requires-clause-few
take_all-requires-clause-few g c κs within =
    let rounds = c.args.self.now in
    let round = c.split_at-2.result.0.now in
    let posts = c.in_ok-posts.posts in
    let long : length posts.items ≡ length round =
    posts_long (values_of g.D.Domain g.D.PartialEq.eq) rounds.image.now rounds.stubs.now rounds.limits.k rounds.limits.budget round posts.items c.in_ok-posts.ensures in
    let count : vec_len posts ≡ length posts.items = posts.ok.0 in
    let size : length round ≡ c.args.size = c.split_at-2.ensures.front_len in
    let few = c.requires.few in
    omega (arith, long, count, size, few)

pub returns-clause-log : goal.returns-clause-log
returns-clause-log g c =
    let d = values_of g.D.Domain g.D.PartialEq.eq in
    let rounds = c.args.self.now in
    let image = rounds.image.now in
    let stubs = rounds.stubs.now in
    let k = rounds.limits.k in
    let budget = rounds.limits.budget in
    let from = c.args.from in
    let log = log_in c.args.exploration.now in
    let round = c.split_at-2.result.0.now in
    let size : length round ≡ c.args.size = c.split_at-2.ensures.front_len in
    let stand = stand_between from log.rows c.split_at.result.0.now c.split_at.result.1.now round c.split_at-2.result.1.now (sym c.deref.ensures.value ∙ c.split_at.ensures.by_index.0) c.split_at-2.ensures.by_index.0 c.split_at.ensures.front_len in
    c.in_ok-take_all.ensures.log
    ∙ round_is d image stubs k budget from round c.in_ok-posts.posts.items log c.in_ok-posts.ensures stand
    ∙ ap (λ (n : ℕ). explored (analysis_of d image stubs k) budget n from log) size
