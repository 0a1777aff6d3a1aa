-- One more expansion.
use Rattle.std.proofs.Common.{◌≡◌, ◌+◌, List, [], ◌∷◌, length, sym, ◌∙◌, ap, arith, vec_len}
use Rattle.std.specs.Vec.Iter.{into_iter_items}
use Rattle.domain_laws.specs.Made.{values_of}
use Rattle.flow_worklist.specs.declared.post.Post.{Post}
use Rattle.flow_worklist.specs.Analysis.{ImageLog}
use Rattle.flow_worklist.specs.Exploring.{log_in}
use Rattle.flow_worklist.specs.Rounds.{with_posts}
use Rattle.flow_worklist.proofs.Taking.{no_length}
use Rattle.flow_worklist.proofs.rounds.Rounds.take_all.Goals as goal

pub loop-post-init : goal.loop-post-init
loop-post-init g c =
    let d = values_of g.D.Domain g.D.PartialEq.eq in
    let rounds = c.args.self.now in
    let posts = c.args.posts in
    let gives = c.into_iter-post-iterator.ensures.into_iter_gives in
    let count : vec_len posts ≡ length posts.items = posts.ok.0 in
    record {
      indexed = c.requires.indexed;
      count = gives.1 ∙ count ∙ sym (ap (λ (l : List (Post g.row.D.Denot)). length l) gives.0);
      number = ap (λ (l : List (Post g.row.D.Denot)). c.args.from + length l) gives.0;
      log = ap (λ (l : List (Post g.row.D.Denot)). with_posts d rounds.limits.k rounds.limits.budget c.args.from l (log_in c.args.exploration.now)) gives.0;
    }

pub loop-post-preserved : goal.loop-post-preserved
loop-post-preserved g c =
    let d = values_of g.D.Domain g.D.PartialEq.eq in
    let rounds = c.args.self.now in
    let post = c.in-Some.post in
    let now = log_in c.loop-post.exploration in
    let number = c.loop-post.number in
    let rest = into_iter_items c.next.new.self in
    let steps = c.in-Some.ensures.steps in
    let left : length (into_iter_items c.loop-post.post-iterator) ≡ length (post ∷ rest) = ap (λ (l : List (Post g.row.D.Denot)). length l) steps.0 in
    record {
      indexed = c.in_ok-take_in.ensures.indexed;
      count = omega (arith, steps.1, c.loop-post.invariant.count, left);
      number = omega (arith, c.loop-post.invariant.number, left);
      log = ap (λ (log : ImageLog g.row.D.Denot). with_posts d rounds.limits.k rounds.limits.budget (number + 1) rest log) c.in_ok-take_in.ensures.log
          ∙ sym (ap (λ (l : List (Post g.row.D.Denot)). with_posts d rounds.limits.k rounds.limits.budget number l now) steps.0)
          ∙ c.loop-post.invariant.log;
    }

pub returns-clause-log : goal.returns-clause-log
returns-clause-log g c =
    let d = values_of g.D.Domain g.D.PartialEq.eq in
    let rounds = c.args.self.now in
    let now = log_in c.loop-post.exploration in
    let none : into_iter_items c.loop-post.post-iterator ≡ [] = no_length (into_iter_items c.loop-post.post-iterator) (sym c.loop-post.invariant.count ∙ c.in-None.ensures.steps.0) in
    sym (ap (λ (l : List (Post g.row.D.Denot)). with_posts d rounds.limits.k rounds.limits.budget c.loop-post.number l now) none)
    ∙ c.loop-post.invariant.log
